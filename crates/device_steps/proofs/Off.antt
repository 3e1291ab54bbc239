-- The lists of the hand-off: one of them set, and the nearest that isn't empty.
use Rattle.std.proofs.Common.{◌≡◌, ◌≤◌, ◌<◌, ◌⊎◌, inl, inr, ℕ, List, [], ◌∷◌, ◌++◌, length, map, drop, Option, Some, None, is_some, refl, sym, ap, ◌∙◌, subst, arith, get_or}
use Rattle.std.specs.Prelude.{slice_get, slice_set}
use Rattle.std.proofs.lemmas.Option.{slice_get_within, slice_get_read}
use Rattle.unit_model.specs.Jobs.{PlainJob, Jobs}
use Rattle.device_model.specs.World.{change}
use Rattle.device_model.specs.Changing.{with_job}
use Rattle.device_steps.specs.Inner.Cursors.{Denies}
use Rattle.device_steps.specs.Off.{jobs_of}
use Rattle.device_steps.specs.Inner.Off.{HaveLimit, AreBare, AreBareBetween, HasJob, IsFirstBetween, IsNearest, PutsAt, Takes}
use Rattle.device_steps.proofs.Setting.{set_change, map_set, map_get, everywhere_set}

-- a list that is set as a change has it is that change of the lists
pub list_change : (g : List PlainJob → List PlainJob) (k : ℕ) (lists : List Jobs) (l m : Jobs)
    → slice_get lists k ≡ Some l → jobs_of m ≡ g (jobs_of l)
    → map jobs_of (slice_set lists k m) ≡ change g k (map jobs_of lists)
list_change g k lists l m at is =
    map_set jobs_of k lists m ∙ ap (λ (z : List PlainJob). slice_set (map jobs_of lists) k z) is
    ∙ set_change g k (map jobs_of lists) (jobs_of l) (map_get jobs_of k lists l at)

-- and where it has the limit, all have it
pub limit_set : (limit k : ℕ) (lists : List Jobs) (l m : Jobs) → HaveLimit limit lists → slice_get lists k ≡ Some l
    → m.limit ≡ l.limit → HaveLimit limit (slice_set lists k m)
limit_set limit k lists l m all at is =
    everywhere_set (λ (z : Jobs). z.limit ≡ limit) k lists m all (is ∙ all k l at)

below_or_not : (k i : ℕ) → (k ≤ i) ⊎ (i < k)
below_or_not k i = grind arith

-- the first from the own number on is the nearest
pub nearest_above : (own at : ℕ) (lists : List (List PlainJob)) → IsFirstBetween own (length lists) lists (Some at)
    → IsNearest own lists (Some at)
nearest_above own at lists f = (
  f.2,
  λ i jobs before there.
      elim before [
        | inl p ↦ f.3 i jobs p.0 (elim p.1 [ inl lt ↦ lt | inr lt ↦ absurd (omega (arith, lt, f.0)) ]) there
        | inr p ↦ absurd (omega (arith, p.1, f.0))
      ],
)

-- where there is none, the first of those before it is
pub nearest_below : (own : ℕ) (lists : List (List PlainJob)) (o : Option ℕ) → AreBareBetween own (length lists) lists
    → IsFirstBetween 0 own lists o → IsNearest own lists o
nearest_below own lists (Some at) above f = (
  f.2,
  λ i jobs before there.
      elim before [
        | inl p ↦ above i jobs p.0 (slice_get_within lists i jobs there) there
        | inr p ↦ f.3 i jobs (omega arith) p.0 there
      ],
)
nearest_below own lists None above f =
    λ i jobs there.
    elim (below_or_not own i) [
      | inl le ↦ above i jobs le (slice_get_within lists i jobs there) there
      | inr lt ↦ f i jobs (omega arith) lt there
    ]

-- a list that has a job, as it is read
pub job_there : (lists : List (List PlainJob)) (at : ℕ) (jobs : List PlainJob) (h : HasJob lists at)
    → slice_get lists at ≡ Some jobs → jobs ≡ h.job ∷ h.rest
job_there lists at jobs h there = one (sym there ∙ h.there)
  where
    one : {X : Type 0} {x y : X} → Some x ≡ Some y → x ≡ y
    one e = cc

-- a list that is longer than nothing has one
pub has_job : (lists : List (List PlainJob)) (at : ℕ) (jobs : List PlainJob) → slice_get lists at ≡ Some jobs
    → 0 < length jobs → HasJob lists at
has_job lists at [] there some = absurd (omega (arith, some))
has_job lists at (x ∷ rest) there some = record { job = x; rest = rest; there = there }

pub is_bare : (jobs : List PlainJob) → length jobs ≤ 0 → jobs ≡ []
is_bare [] few = refl
is_bare (x ∷ rest) few = absurd (omega (arith, few))

-- a list as the device sees it
pub list_there : (items : List Jobs) (n k : ℕ) (l : Jobs) → n ≡ length items → k < n → l ≡ get_or items k l
    → slice_get (map jobs_of items) k ≡ Some (jobs_of l)
list_there items n k l many lt at = map_get jobs_of k items l (slice_get_read items n k l many lt at)

-- the next job of the nearest list is taken
pub taken_at : (own from limit : ℕ) (items : List Jobs) (s t : Jobs) (o : Option PlainJob)
    → IsNearest own (map jobs_of items) (Some from) → slice_get items from ≡ Some s → o ≡ slice_get s.jobs 0
    → t ≡ record s { jobs = drop 1 s.jobs }
    → Takes own (record { lists = map jobs_of items; limit = limit }) o
    (record { lists = map jobs_of (slice_set items from t); limit = limit })
taken_at own from limit items s t o h at first is =
    let e : jobs_of s ≡ h.0.job ∷ h.0.rest =
    job_there (map jobs_of items) from (jobs_of s) h.0 (map_get jobs_of from items s at) in
    let some : o ≡ Some h.0.job = first ∙ ap (λ (z : List PlainJob). slice_get z 0) e in
    subst (λ (z : Option PlainJob). Takes own (record { lists = map jobs_of items; limit = limit }) z
    (record { lists = map jobs_of (slice_set items from t); limit = limit })) (sym some)
    (record {
      from = from;
      rest = h.0.rest;
      there = h.0.there;
      first = h.1;
      after =
          ap (λ (ls : List (List PlainJob)). record { lists = ls; limit = limit })
          (list_change (drop 1) from items s t at (ap (λ (z : Jobs). z.jobs) is));
    })

-- a job is put into a list with room
pub put_at : (k limit : ℕ) (items : List Jobs) (s t : Jobs) (x : PlainJob) → slice_get items k ≡ Some s
    → length s.jobs < limit → t ≡ record s { jobs = s.jobs ++ x ∷ [] }
    → PutsAt k x (record { lists = map jobs_of items; limit = limit })
    (record { lists = map jobs_of (slice_set items k t); limit = limit })
put_at k limit items s t x at room is =
    record {
      off = s.jobs;
      there = map_get jobs_of k items s at;
      room = room;
      after =
          ap (λ (ls : List (List PlainJob)). record { lists = ls; limit = limit })
          (list_change (with_job x) k items s t at (ap (λ (z : Jobs). z.jobs) is));
    }

not_bare : {x : PlainJob} {xs : List PlainJob} → x ∷ xs ≡ [] → ⊥
not_bare e = cc

-- a list has a job, or each is empty
pub has_nearest : (own : ℕ) (lists : List (List PlainJob)) (o : Option ℕ) → IsNearest own lists o
    → Denies (AreBare lists) (is_some o)
has_nearest own lists None h = h
has_nearest own lists (Some at) h =
    let j : HasJob lists at = h.0 in λ bare. not_bare (bare at (j.job ∷ j.rest) j.there)
