-- What a crash leaves of a unit's blocks once a flush or a command ended, as the device goes on.
use Rattle.std.proofs.Common.{◌≡◌, ◌≤◌, ◌⊎◌, ◌+◌, ◌-◌, ◌*◌, ◌/◌, ◌%◌, ◌==◌, ◌||◌, ℕ, zero, suc, Bool, true, false, nat_lt, min, eqb, List, [], ◌∷◌, All, Contains, length, drop, Option, Some, None, inl, inr, if◌then◌else◌, refl, ap, sym, subst, ◌∙◌, arith}
use Rattle.std.specs.Prelude.{slice_get, option_map}
use Rattle.std.proofs.lemmas.Bool.Decides.{nat_tests}
use Rattle.std.proofs.lemmas.List.Elements.{All-nil, All-cons, All-contains, Contains-get_or}
use Rattle.std.proofs.Math.ListN.{get_or}
use Rattle.block_store.specs.Blocks.{Blocks, nth_block, zero_block}
use Rattle.block_store.specs.Pages.{blocks_in}
use Rattle.block_store.specs.Storage.{Storage, Dealing, Ledger, dealt, all_dealt, opening, storage_by, and_then, IsLeft, IsPageOf}
use Rattle.block_store.proofs.Dealt.{storage_then}
use Rattle.block_store.proofs.Paging.{blocks_in-whole}
use Rattle.unit_model.specs.Tasks.{Entry}
use Rattle.ring_core.specs.declared.log.Ticket.{Ticket}
use Rattle.unit_model.specs.Steps.{Step, as_of, done}
use Rattle.unit_model.specs.Enabling.{enabled}
use Rattle.unit_model.specs.Contents.{Opening, blocks_of, capacity_of}
use Rattle.unit_model.specs.Flushing.{IsDurable, IsThrough, is_in_flush}
use Rattle.unit_model.specs.Unit.{PlainUnit, after as stepped, parking, dealing, IsAsItIs}
use Rattle.unit_model.proofs.Marking.{done_on}
use Rattle.unit_model.proofs.Past.{as_of-more, as_of-now}
use Rattle.task_mgmt.specs.Functions.{step_by}
use Rattle.task_mgmt.specs.declared.kind.MarkBy.TheVariants.{Abort, Reset}
use Rattle.device_model.specs.World.{PlainWorld, change}
use Rattle.device_model.specs.Transitions.{Transition}
use Rattle.device_model.specs.Event.Hard.{hard_code}
use Rattle.device_model.specs.After.{after}
use Rattle.device_model.specs.Happens.{Happens, MayHappen}
use Rattle.device_model.proofs.Turning.{may}
use Rattle.device_model.specs.Found.{UnitIs}
use Rattle.device_model.proofs.Lists.{nothing, same, get_other, get_change}

-- A moment of a unit's history

-- whether it came, which it did for good, and the blocks that are asked for
pub record Moment : Type 0 where
  pub came : List Step → Bool
  pub lasts : (s : Step) (past : List Step) → came past ≡ true → came (s ∷ past) ≡ true
  pub named : ℕ → Bool

-- block b of a unit had these bytes once it came
pub record Been (o : Opening) (steps : List Step) (e : Moment) (b : ℕ) (bytes : List ℕ) : Type 0 where
  pub place : ℕ
  pub past : place ≤ length steps
  pub so : e.came (as_of place steps) ≡ true
  pub is : bytes ≡ blocks_of o (as_of place steps) b

-- whatever a crash leaves, it leaves so of each block that is asked for
abbrev pub IsKept : Opening → List Step → Ledger → Moment → Type 0
IsKept o steps l e = (left : Blocks) → IsLeft l left → (b : ℕ) → e.named b ≡ true → Been o steps e b (left b)

been_more : (o : Opening) (s : Step) (steps : List Step) (e : Moment) (b : ℕ) (x : List ℕ) → Been o steps e b x → Been o (s ∷ steps) e b x
been_more o s steps e b x was =
    let same : as_of was.place (s ∷ steps) ≡ as_of was.place steps = as_of-more was.place s steps was.past in
    record {
      place = was.place;
      past = (let le = was.past in omega (arith, le));
      so = ap (λ h. e.came h) same ∙ was.so;
      is = was.is ∙ ap (λ h. blocks_of o h b) (sym same);
    }

been_now : (o : Opening) (steps : List Step) (e : Moment) (b : ℕ) (x : List ℕ) → e.came steps ≡ true → x ≡ blocks_of o steps b
    → Been o steps e b x
been_now o steps e b x came is =
    record {
      place = length steps;
      past = omega arith;
      so = ap (λ h. e.came h) (as_of-now (length steps) steps (omega arith)) ∙ came;
      is = is ∙ ap (λ h. blocks_of o h b) (sym (as_of-now (length steps) steps (omega arith)));
    }

came_since : (e : Moment) (n : ℕ) (steps : List Step) → e.came (drop n steps) ≡ true → e.came steps ≡ true
came_since e zero [] is = is
came_since e (suc n) [] is = is
came_since e zero (s ∷ past) is = is
came_since e (suc n) (s ∷ past) is = e.lasts s past (came_since e n past is)

came_now : (o : Opening) (steps : List Step) (e : Moment) (b : ℕ) (x : List ℕ) → Been o steps e b x → e.came steps ≡ true
came_now o steps e b x was = came_since e (length steps - was.place) steps was.so

-- What the storage may have of a block

abbrev pub Lasts : Opening → List Step → Moment → Storage → ℕ → Type 0
Lasts o steps e s b = Been o steps e b (s.kept b) × All (Been o steps e b) (s.unkept b)

-- by what any crash leaves, with one block of it another
one_of : (l : Ledger) (b : ℕ) (x : List ℕ) → (x ≡ (storage_by l).kept b) ⊎ Contains ((storage_by l).unkept b) x
    → IsLeft l (λ c. if c == b then x else (storage_by l).kept c)
one_of l b x is c = by_test (c == b) refl
  where
    by_test : (t : Bool) → (c == b) ≡ t
        → ((if t then x else (storage_by l).kept c) ≡ (storage_by l).kept c) ⊎ Contains ((storage_by l).unkept c) (if t then x else (storage_by l).kept c)
    by_test true here =
        let at : b ≡ c = grind (arith, nat_tests, here) in
        subst (λ n. (x ≡ (storage_by l).kept n) ⊎ Contains ((storage_by l).unkept n) x) at is
    by_test false apart = inl refl

itself : (p : ℕ) → (p == p) ≡ true
itself p = grind (arith, nat_tests)

module _ (o : Opening) (steps : List Step) (e : Moment) (l : Ledger) (was : IsKept o steps l e) (b : ℕ) (named : e.named b ≡ true) where
  each : (x : List ℕ) → (x ≡ (storage_by l).kept b) ⊎ Contains ((storage_by l).unkept b) x → Been o steps e b x
  each x is =
      let found = was (λ c. if c == b then x else (storage_by l).kept c) (one_of l b x is) b named in
      subst (λ y. Been o steps e b y) (ap (λ t. if t then x else (storage_by l).kept b) (itself b)) found

  pub lasts : Lasts o steps e (storage_by l) b
  lasts = (
    each ((storage_by l).kept b) (inl refl),
    λ k d lt. each (get_or ((storage_by l).unkept b) k d) (inr (Contains-get_or ((storage_by l).unkept b) k d lt)),
  )

kept_so : (o : Opening) (steps : List Step) (e : Moment) (l : Ledger)
    → ((b : ℕ) → e.named b ≡ true → Lasts o steps e (storage_by l) b) → IsKept o steps l e
kept_so o steps e l lasts left leaves b named = elim (leaves b) [
  | inl same ↦ subst (λ x. Been o steps e b x) (sym same) (lasts b named).0
  | inr is ↦ All-contains (Been o steps e b) ((storage_by l).unkept b) (left b) (lasts b named).1 is
]

lasts_more : (o : Opening) (s : Step) (steps : List Step) (e : Moment) (x : Storage) (b : ℕ) → Lasts o steps e x b → Lasts o (s ∷ steps) e x b
lasts_more o s steps e x b was = (been_more o s steps e b _ was.0, λ k d lt. been_more o s steps e b _ (was.1 k d lt))

lasts_as : (o : Opening) (steps : List Step) (e : Moment) (x y : Storage) (b : ℕ) → Lasts o steps e x b → y.kept b ≡ x.kept b
    → y.unkept b ≡ x.unkept b → Lasts o steps e y b
lasts_as o steps e x y b was kept unkept = (
  subst (λ z. Been o steps e b z) (sym kept) was.0,
  subst (λ z. All (Been o steps e b) z) (sym unkept) was.1,
)

-- what the host was last given of a block is kept, or may be there

abbrev Known : Storage → Type 0
Known s = (b : ℕ) → (s.given b ≡ s.kept b) ⊎ Contains (s.unkept b) (s.given b)

first_of : (x : List ℕ) (more : List (List ℕ)) → Contains (x ∷ more) x
first_of x more = (0, omega arith, refl)

known_dealt : (d : Dealing) (s : Storage) → Known s → Known (dealt d s)
known_dealt (Dealing.Give p bytes) s known b =
    elim (b / 8 == p) as (λ t. ((if t then blocks_in bytes (b % 8) else s.given b) ≡ s.kept b)
    ⊎ Contains (if t then blocks_in bytes (b % 8) ∷ s.unkept b else s.unkept b) (if t then blocks_in bytes (b % 8) else s.given b)) [
      | true ↦ inr (first_of (blocks_in bytes (b % 8)) (s.unkept b))
      | false ↦ known b
    ]
known_dealt (Dealing.Keep p) s known b =
    elim (b / 8 == p) as (λ t. (s.given b ≡ (if t then s.given b else s.kept b)) ⊎ Contains (if t then [] else s.unkept b) (s.given b)) [
      | true ↦ inl refl
      | false ↦ known b
    ]
known_dealt (Dealing.Lose p) s known b = known b
known_dealt (Dealing.Deny p) s known b = known b
known_dealt (Dealing.Load p) s known b = known b
known_dealt (Dealing.Cut n) s known b =
    elim (nat_lt b n) as (λ t. ((if t then s.given b else zero_block) ≡ (if t then s.kept b else zero_block))
    ⊎ Contains (if t then s.unkept b else []) (if t then s.given b else zero_block)) [
      | true ↦ known b
      | false ↦ inl refl
    ]

known_all : (ds : List Dealing) (s : Storage) → Known s → Known (all_dealt ds s)
known_all [] s known = known
known_all (d ∷ more) s known = known_all more (dealt d s) (known_dealt d s known)

known_by : (l : Ledger) → Known (storage_by l)
known_by l = known_all l.dealings (opening l.content) (λ b. inl refl)

given_lasts : (o : Opening) (steps : List Step) (e : Moment) (l : Ledger) (b : ℕ) → Lasts o steps e (storage_by l) b
    → Been o steps e b ((storage_by l).given b)
given_lasts o steps e l b was = elim (known_by l b) [
  | inl same ↦ subst (λ x. Been o steps e b x) (sym same) was.0
  | inr is ↦ All-contains (Been o steps e b) ((storage_by l).unkept b) ((storage_by l).given b) was.1 is
]

-- The host deals with a storage

module _ (u : PlainUnit) (e : Moment) (l : Ledger) (whole : (b : ℕ) → length (blocks_of u.opening u.steps b) ≡ 512)
    (was : IsKept u.opening u.steps l e) where
  lasted : (b : ℕ) → e.named b ≡ true → Lasts u.opening u.steps e (storage_by l) b
  lasted b named = lasts u.opening u.steps e l was b named

  bytes_of_page : (page : ℕ) (bytes : List ℕ) → IsPageOf (blocks_of u.opening u.steps) page bytes → (b : ℕ) → b / 8 ≡ page → blocks_in bytes (b % 8) ≡ blocks_of u.opening u.steps b
  bytes_of_page page bytes is b here =
      let number : 8 * page + b % 8 ≡ b = omega (arith, here) in
      let one : nth_block bytes (b % 8) ≡ blocks_of u.opening u.steps b = is (b % 8) (omega arith) ∙ ap (λ n. blocks_of u.opening u.steps n) number in
      blocks_in-whole bytes (b % 8) (ap (λ x. length x) one ∙ whole b) ∙ one

  kept_given : (page : ℕ) (bytes : List ℕ) → IsPageOf (blocks_of u.opening u.steps) page bytes → IsKept u.opening u.steps (and_then (Dealing.Give page bytes) l) e
  kept_given page bytes is = kept_so u.opening u.steps e (and_then (Dealing.Give page bytes) l) (λ b named. by_test b named (b / 8 == page) refl)
    where
      now : storage_by (and_then (Dealing.Give page bytes) l) ≡ dealt (Dealing.Give page bytes) (storage_by l)
      now = storage_then (Dealing.Give page bytes) l

      by_test : (b : ℕ) → e.named b ≡ true → (t : Bool) → (b / 8 == page) ≡ t
          → Lasts u.opening u.steps e (storage_by (and_then (Dealing.Give page bytes) l)) b
      by_test b named true here =
          let before = lasted b named in
          let at : b / 8 ≡ page = grind (arith, nat_tests, here) in
          let unkept : (storage_by (and_then (Dealing.Give page bytes) l)).unkept b ≡ blocks_in bytes (b % 8) ∷ (storage_by l).unkept b =
          ap (λ (s : Storage). s.unkept b) now ∙ rw here refl in
          let head : Been u.opening u.steps e b (blocks_in bytes (b % 8)) =
          been_now u.opening u.steps e b (blocks_in bytes (b % 8)) (came_now u.opening u.steps e b ((storage_by l).kept b) before.0) (bytes_of_page page bytes is b at) in (
            subst (λ x. Been u.opening u.steps e b x) (sym (ap (λ (s : Storage). s.kept b) now)) before.0,
            subst (λ x. All (Been u.opening u.steps e b) x) (sym unkept) (All-cons (Been u.opening u.steps e b) (blocks_in bytes (b % 8)) ((storage_by l).unkept b) head before.1),
          )
      by_test b named false apart =
          lasts_as u.opening u.steps e (storage_by l) (storage_by (and_then (Dealing.Give page bytes) l)) b (lasted b named)
          (ap (λ (s : Storage). s.kept b) now) (ap (λ (s : Storage). s.unkept b) now ∙ rw apart refl)

  kept_kept : (page : ℕ) → IsKept u.opening u.steps (and_then (Dealing.Keep page) l) e
  kept_kept page = kept_so u.opening u.steps e (and_then (Dealing.Keep page) l) (λ b named. by_test b named (b / 8 == page) refl)
    where
      now : storage_by (and_then (Dealing.Keep page) l) ≡ dealt (Dealing.Keep page) (storage_by l)
      now = storage_then (Dealing.Keep page) l

      by_test : (b : ℕ) → e.named b ≡ true → (t : Bool) → (b / 8 == page) ≡ t
          → Lasts u.opening u.steps e (storage_by (and_then (Dealing.Keep page) l)) b
      by_test b named true here =
          let none : (storage_by (and_then (Dealing.Keep page) l)).unkept b ≡ [] = ap (λ (s : Storage). s.unkept b) now ∙ rw here refl in
          let kept : (storage_by (and_then (Dealing.Keep page) l)).kept b ≡ (storage_by l).given b = ap (λ (s : Storage). s.kept b) now ∙ rw here refl in (
            subst (λ x. Been u.opening u.steps e b x) (sym kept) (given_lasts u.opening u.steps e l b (lasted b named)),
            subst (λ x. All (Been u.opening u.steps e b) x) (sym none) (All-nil (Been u.opening u.steps e b)),
          )
      by_test b named false apart =
          lasts_as u.opening u.steps e (storage_by l) (storage_by (and_then (Dealing.Keep page) l)) b (lasted b named)
          (ap (λ (s : Storage). s.kept b) now ∙ rw apart refl) (ap (λ (s : Storage). s.unkept b) now ∙ rw apart refl)

  told : (d : Dealing) → ((s : Storage) → dealt d s ≡ s) → IsKept u.opening u.steps (and_then d l) e
  told d nothing = kept_so u.opening u.steps e (and_then d l) same_there
    where
      same_there : (b : ℕ) → e.named b ≡ true → Lasts u.opening u.steps e (storage_by (and_then d l)) b
      same_there b named =
          lasts_as u.opening u.steps e (storage_by l) (storage_by (and_then d l)) b (lasted b named)
          (ap (λ (s : Storage). s.kept b) (storage_then d l ∙ nothing (storage_by l)))
          (ap (λ (s : Storage). s.unkept b) (storage_then d l ∙ nothing (storage_by l)))

  pub kept_dealt : (d : Dealing) → IsAsItIs u d → IsKept u.opening u.steps (and_then d l) e
  kept_dealt (Dealing.Give page bytes) is = kept_given page bytes is
  kept_dealt (Dealing.Keep page) is = kept_kept page
  kept_dealt (Dealing.Lose page) is = told (Dealing.Lose page) (λ s. refl)
  kept_dealt (Dealing.Deny page) is = told (Dealing.Deny page) (λ s. refl)
  kept_dealt (Dealing.Load page) is = told (Dealing.Load page) (λ s. refl)
  kept_dealt (Dealing.Cut n) is = absurd is

  -- a step of the unit

  pub kept_more : (s : Step) → IsKept u.opening (s ∷ u.steps) l e
  kept_more s = kept_so u.opening (s ∷ u.steps) e l (λ b named. lasts_more u.opening s u.steps e (storage_by l) b (lasted b named))

  pub kept_resized : (blocks : ℕ) → IsKept u.opening (Step.Resize blocks ∷ u.steps) (and_then (Dealing.Cut (min (capacity_of u.opening u.steps) blocks)) l) e
  kept_resized blocks = kept_so u.opening (Step.Resize blocks ∷ u.steps) e (and_then (Dealing.Cut end) l) (λ b named. by_test b named (nat_lt b end) refl)
    where
      end : ℕ
      end = min (capacity_of u.opening u.steps) blocks

      now : storage_by (and_then (Dealing.Cut end) l) ≡ dealt (Dealing.Cut end) (storage_by l)
      now = storage_then (Dealing.Cut end) l

      by_test : (b : ℕ) → e.named b ≡ true → (t : Bool) → nat_lt b end ≡ t
          → Lasts u.opening (Step.Resize blocks ∷ u.steps) e (storage_by (and_then (Dealing.Cut end) l)) b
      by_test b named true short =
          lasts_as u.opening (Step.Resize blocks ∷ u.steps) e (storage_by l) (storage_by (and_then (Dealing.Cut end) l)) b
          (lasts_more u.opening (Step.Resize blocks) u.steps e (storage_by l) b (lasted b named))
          (ap (λ (s : Storage). s.kept b) now ∙ rw short refl) (ap (λ (s : Storage). s.unkept b) now ∙ rw short refl)
      by_test b named false past =
          let none : (storage_by (and_then (Dealing.Cut end) l)).unkept b ≡ [] = ap (λ (s : Storage). s.unkept b) now ∙ rw past refl in
          let kept : (storage_by (and_then (Dealing.Cut end) l)).kept b ≡ zero_block = ap (λ (s : Storage). s.kept b) now ∙ rw past refl in
          let came = e.lasts (Step.Resize blocks) u.steps (came_now u.opening u.steps e b ((storage_by l).kept b) (lasted b named).0) in
          let zeros : zero_block ≡ blocks_of u.opening (Step.Resize blocks ∷ u.steps) b = sym (rw past refl) in (
            been_now u.opening (Step.Resize blocks ∷ u.steps) e b ((storage_by (and_then (Dealing.Cut end) l)).kept b) came (kept ∙ zeros),
            subst (λ x. All (Been u.opening (Step.Resize blocks ∷ u.steps) e b) x) (sym none) (All-nil (Been u.opening (Step.Resize blocks ∷ u.steps) e b)),
          )

-- A unit of a device

-- its blocks have 512 bytes
abbrev pub AreWhole : PlainUnit → Type 0
AreWhole u = (b : ℕ) → length (blocks_of u.opening u.steps b) ≡ 512

-- a crash leaves so of its disk, if a host has its storage
abbrev pub Leaves : Moment → PlainUnit → Type 0
Leaves e u = (l : Ledger) → u.storage ≡ Some l → IsKept u.opening u.steps l e

mapped : (f : Ledger → Ledger) (x : Option Ledger) (m : Ledger) → option_map f x ≡ Some m → (l : Ledger) × (x ≡ Some l) × (f l ≡ m)
mapped f None m at = absurd (nothing at)
mapped f (Some l) m at = (l, refl, same at)

on_more : (u : PlainUnit) (e : Moment) → AreWhole u → Leaves e u → (s : Step) (l : Ledger) → u.storage ≡ Some l
    → IsKept u.opening (s ∷ u.steps) l e
on_more u e whole was s l at = kept_more u e l whole (was l at) s

on_step : (s : Step) (u : PlainUnit) (e : Moment) → AreWhole u → Leaves e u → Leaves e (stepped s u)
on_step (Step.Enter x) u e whole was l at = on_more u e whole was (Step.Enter x) l at
on_step (Step.Full t) u e whole was l at = on_more u e whole was (Step.Full t) l at
on_step (Step.Commit t r) u e whole was l at = on_more u e whole was (Step.Commit t r) l at
on_step (Step.Busy t) u e whole was l at = on_more u e whole was (Step.Busy t) l at
on_step (Step.Abort rule) u e whole was l at = on_more u e whole was (Step.Abort rule) l at
on_step (Step.Reset c) u e whole was l at = on_more u e whole was (Step.Reset c) l at
on_step (Step.Leave t) u e whole was l at = on_more u e whole was (Step.Leave t) l at
on_step (Step.Resize blocks) u e whole was m at =
    let before = mapped (and_then (Dealing.Cut (min (capacity_of u.opening u.steps) blocks))) u.storage m at in
    subst (λ x. IsKept u.opening (Step.Resize blocks ∷ u.steps) x e) before.2
    (kept_resized u e before.0 whole (was before.0 before.1) blocks)

on_deal : (d : Dealing) (u : PlainUnit) (e : Moment) → IsAsItIs u d → AreWhole u → Leaves e u → Leaves e (dealing d u)
on_deal d u e is whole was m at =
    let before = mapped (and_then d) u.storage m at in
    subst (λ x. IsKept u.opening u.steps x e) before.2 (kept_dealt u e before.0 whole (was before.0 before.1) d is)

changed : (Q : PlainUnit → Type 0) (g : PlainUnit → PlainUnit) (k : ℕ) (us : List PlainUnit) (i : ℕ) (u v : PlainUnit)
    → (slice_get us k ≡ Some u → Q u → Q (g u)) → slice_get us i ≡ Some u → slice_get (change g k us) i ≡ Some v → Q u → Q v
changed Q g k us i u v keeps at now was = by_test (eqb k i) refl
  where
    by_test : (t : Bool) → eqb k i ≡ t → Q v
    by_test true here =
        let is : k ≡ i = grind (arith, nat_tests, here) in
        let there : slice_get us k ≡ Some u = ap (λ n. slice_get us n) is ∙ at in
        let then_it : slice_get (change g k us) i ≡ Some (g u) = subst (λ n. slice_get (change g k us) n ≡ Some (g u)) is (get_change g k us u there) in
        subst Q (same (sym then_it ∙ now)) (keeps there was)
    by_test false apart = subst Q (same (sym at ∙ sym (get_other g k us i apart) ∙ now)) was

by_step : (s : Step) (e : Moment) (k : ℕ) (us : List PlainUnit) (i : ℕ) (u v : PlainUnit) → slice_get us i ≡ Some u
    → slice_get (change (stepped s) k us) i ≡ Some v → AreWhole u → Leaves e u → Leaves e v
by_step s e k us i u v at now whole was = changed (Leaves e) (stepped s) k us i u v (λ _ it. on_step s u e whole it) at now was

pub stays : (d : Transition) (w : PlainWorld) (unit_index : ℕ) (u v : PlainUnit) (e : Moment) → MayHappen d w → UnitIs w unit_index u → UnitIs (after d w) unit_index v
    → AreWhole u → Leaves e u → Leaves e v
stays (Transition.Run x) w unit_index u v e h at now whole was = by_step (Step.Enter x.entry) e x.unit w.units unit_index u v at now whole was
stays (Transition.Park x) w unit_index u v e h at now whole was =
    changed (Leaves e) (parking x) x.unit w.units unit_index u v (λ _ it l there. on_more u e whole it (Step.Enter x.entry) l there) at now was
stays (Transition.EnterFull x) w unit_index u v e h at now whole was = by_step (Step.Full x.entry.ticket) e x.unit w.units unit_index u v at now whole was
stays (Transition.Commit k x r) w unit_index u v e h at now whole was = by_step (Step.Commit x.entry.ticket r) e x.unit w.units unit_index u v at now whole was
stays (Transition.Withhold k x r) w unit_index u v e h at now whole was = by_step (Step.Commit x.entry.ticket r) e x.unit w.units unit_index u v at now whole was
stays (Transition.CommitBusy k x) w unit_index u v e h at now whole was = by_step (Step.Busy x.entry.ticket) e x.unit w.units unit_index u v at now whole was
stays (Transition.Leave k i t jobs) w unit_index u v e h at now whole was = by_step (Step.Leave t) e i w.units unit_index u v at now whole was
stays (Transition.Mark t p (Abort rule) jobs) w unit_index u v e h at now whole was = by_step (step_by (Abort rule)) e p.unit w.units unit_index u v at now whole was
stays (Transition.Mark t p (Reset c) jobs) w unit_index u v e h at now whole was = by_step (step_by (Reset c)) e p.unit w.units unit_index u v at now whole was
stays (Transition.Hard p jobs) w unit_index u v e h at now whole was = by_step (Step.Reset hard_code) e p.unit w.units unit_index u v at now whole was
stays (Transition.Resize k blocks) w unit_index u v e h at now whole was = by_step (Step.Resize blocks) e k w.units unit_index u v at now whole was
stays (Transition.Deal k x) w unit_index u v e h at now whole was =
    changed (Leaves e) (dealing x) k w.units unit_index u v
    (λ there it. on_deal x u e (subst (λ z. IsAsItIs z x) (same (sym h.there ∙ there)) h.may.as_it_is) whole it) at now was
stays d w unit_index u v e h at now whole was = subst (Leaves e) (sym (same (sym now ∙ at))) was

pub stays_kept : (w : PlainWorld) (d : Transition) (unit_index : ℕ) (u v : PlainUnit) (e : Moment) (l m : Ledger) → MayHappen d w → UnitIs w unit_index u
    → UnitIs (after d w) unit_index v → AreWhole u → u.storage ≡ Some l → v.storage ≡ Some m → IsKept u.opening u.steps l e
    → IsKept v.opening v.steps m e
stays_kept w d unit_index u v e l m h at now whole one two was =
    stays d w unit_index u v e h at now whole (λ k is. subst (λ x. IsKept u.opening u.steps x e) (same (sym one ∙ is)) was) m two

-- A flush, and a command whose answer waits

flush_moment : Entry → Moment
flush_moment e =
    record {
      came = λ h. enabled e h;
      lasts = λ s past is. or_left (enabled e past) _ is;
      named = λ b. is_in_flush e.command b;
    }
  where
    or_left : (a b : Bool) → a ≡ true → (a || b) ≡ true
    or_left a b is = ap (λ x. x || b) is

run_moment : Ticket → Moment
run_moment t = record { came = λ h. done t h; lasts = λ s past is. done_on s t past is; named = λ b. true }

flush_kept : (o : Opening) (steps : List Step) (l : Ledger) (e : Entry) → IsDurable o steps l e → IsKept o steps l (flush_moment e)
unfolding flush_moment
flush_kept o steps l e was left leaves b named =
    let h = was left leaves b named in
    record { place = h.place; past = h.past; so = h.might; is = h.is }

flush_durable : (o : Opening) (steps : List Step) (l : Ledger) (e : Entry) → IsKept o steps l (flush_moment e) → IsDurable o steps l e
unfolding flush_moment
flush_durable o steps l e was left leaves b named =
    let h = was left leaves b named in
    record { place = h.place; past = h.past; might = h.so; is = h.is }

run_kept : (o : Opening) (steps : List Step) (l : Ledger) (t : Ticket) → IsThrough o steps l t → IsKept o steps l (run_moment t)
unfolding run_moment
run_kept o steps l t was left leaves b named =
    let h = was left leaves b in
    record { place = h.place; past = h.past; so = h.ran; is = h.is }

run_through : (o : Opening) (steps : List Step) (l : Ledger) (t : Ticket) → IsKept o steps l (run_moment t) → IsThrough o steps l t
unfolding run_moment
run_through o steps l t was left leaves b =
    let h = was left leaves b refl in
    record { place = h.place; past = h.past; ran = h.so; is = h.is }

pub stays_durable : (w : PlainWorld) (d : Transition) (unit_index : ℕ) (u v : PlainUnit) (e : Entry) (l m : Ledger) → Happens d w → UnitIs w unit_index u
    → UnitIs (after d w) unit_index v → AreWhole u → u.storage ≡ Some l → v.storage ≡ Some m → IsDurable u.opening u.steps l e
    → IsDurable v.opening v.steps m e
stays_durable w d unit_index u v e l m h at now whole one two was =
    flush_durable v.opening v.steps m e
    (stays_kept w d unit_index u v (flush_moment e) l m (may d w h) at now whole one two (flush_kept u.opening u.steps l e was))

pub through_on : (w : PlainWorld) (d : Transition) (unit_index : ℕ) (u v : PlainUnit) (t : Ticket) (l m : Ledger) → MayHappen d w → UnitIs w unit_index u
    → UnitIs (after d w) unit_index v → AreWhole u → u.storage ≡ Some l → v.storage ≡ Some m → IsThrough u.opening u.steps l t
    → IsThrough v.opening v.steps m t
through_on w d unit_index u v t l m h at now whole one two was =
    run_through v.opening v.steps m t
    (stays_kept w d unit_index u v (run_moment t) l m h at now whole one two (run_kept u.opening u.steps l t was))

pub stays_through : (w : PlainWorld) (d : Transition) (unit_index : ℕ) (u v : PlainUnit) (t : Ticket) (l m : Ledger) → Happens d w → UnitIs w unit_index u
    → UnitIs (after d w) unit_index v → AreWhole u → u.storage ≡ Some l → v.storage ≡ Some m → IsThrough u.opening u.steps l t
    → IsThrough v.opening v.steps m t
stays_through w d unit_index u v t l m h at now whole one two was =
    through_on w d unit_index u v t l m (may d w h) at now whole one two was
