-- The lists of the hand-off, and the jobs of all of them.
use Rattle.std.proofs.Common.{◌≡◌, ℕ, ◌+◌, ◌<◌, ◌≤◌, ◌⊎◌, List, [], ◌∷◌, ◌++◌, drop, length, Option, Some, None, refl, sym, ◌∙◌, ap, subst, arith, zero, suc, inl, inr}
use Rattle.std.specs.Prelude.{slice_get}
use Rattle.std.specs.List.{AllByRecursion, sum_by}
use Rattle.std.proofs.lemmas.List.Sums.{sum_by-append, sum_by-cons, sum_by_push}
use Rattle.unit_model.specs.Jobs.{PlainJob}
use Rattle.std.proofs.lemmas.Option.{slice_get_within}
use Rattle.device_model.specs.World.{PlainWorld, Everywhere, IsBefore, change, all_of}
use Rattle.device_model.specs.Changing.{with_job}
use Rattle.device_model.proofs.Lists.{nothing, same}

-- What the jobs of all lists count

-- once a job was put
pub off_put : (p : PlainJob → ℕ) (k : ℕ) (lists : List (List PlainJob)) (off : List PlainJob) (x : PlainJob)
    → slice_get lists k ≡ Some off → sum_by p (all_of (change (with_job x) k lists)) ≡ sum_by p (all_of lists) + p x
off_put p k [] off x at = absurd (nothing at)
off_put p zero (l ∷ ls) off x at =
    let a = sum_by-append p (l ++ x ∷ []) (all_of ls) in
    let b = sum_by_push p l x in
    let c = sum_by-append p l (all_of ls) in
    omega (arith, a, b, c)
off_put p (suc k) (l ∷ ls) off x at =
    let h = off_put p k ls off x at in
    let a = sum_by-append p l (all_of (change (with_job x) k ls)) in
    let b = sum_by-append p l (all_of ls) in
    omega (arith, h, a, b)

-- once one was taken
pub off_taken : (p : PlainJob → ℕ) (k : ℕ) (lists : List (List PlainJob)) (x : PlainJob) (rest : List PlainJob)
    → slice_get lists k ≡ Some (x ∷ rest)
    → sum_by p (all_of (change (drop 1) k lists)) + p x ≡ sum_by p (all_of lists)
off_taken p k [] x rest at = absurd (nothing at)
off_taken p zero (l ∷ ls) x rest at =
    let e : l ≡ x ∷ rest = same at in
    let a = ap (λ z. sum_by p (drop 1 z ++ all_of ls)) e in
    let b = ap (λ z. sum_by p (z ++ all_of ls)) e in
    let c = sum_by-cons p x (rest ++ all_of ls) in
    omega (arith, a, b, c)
off_taken p (suc k) (l ∷ ls) x rest at =
    let h = off_taken p k ls x rest at in
    let a = sum_by-append p l (all_of (change (drop 1) k ls)) in
    let b = sum_by-append p l (all_of ls) in
    omega (arith, h, a, b)

-- What holds of each

joined : (P : PlainJob → Type 0) (xs ys : List PlainJob) → AllByRecursion P xs → AllByRecursion P ys
    → AllByRecursion P (xs ++ ys)
joined P [] ys a b = b
joined P (x ∷ xs) ys a b = (a.0, joined P xs ys a.1 b)

apart : (P : PlainJob → Type 0) (xs ys : List PlainJob) → AllByRecursion P (xs ++ ys)
    → AllByRecursion P xs × AllByRecursion P ys
apart P [] ys h = (tt, h)
apart P (x ∷ xs) ys h = let both = apart P xs ys h.1 in ((h.0, both.0), both.1)

pub each_put : (P : PlainJob → Type 0) (k : ℕ) (lists : List (List PlainJob)) (x : PlainJob) → P x
    → AllByRecursion P (all_of lists) → AllByRecursion P (all_of (change (with_job x) k lists))
each_put P k [] x p h = h
each_put P zero (l ∷ ls) x p h =
    let both = apart P l (all_of ls) h in
    joined P (l ++ x ∷ []) (all_of ls) (joined P l (x ∷ []) both.0 (p, tt)) both.1
each_put P (suc k) (l ∷ ls) x p h =
    let both = apart P l (all_of ls) h in
    joined P l (all_of (change (with_job x) k ls)) both.0 (each_put P k ls x p both.1)

pub each_taken : (P : PlainJob → Type 0) (k : ℕ) (lists : List (List PlainJob)) (x : PlainJob) (rest : List PlainJob)
    → slice_get lists k ≡ Some (x ∷ rest) → AllByRecursion P (all_of lists)
    → P x × AllByRecursion P (all_of (change (drop 1) k lists))
each_taken P k [] x rest at h = absurd (nothing at)
each_taken P zero (l ∷ ls) x rest at h =
    let both = apart P l (all_of ls) h in
    let e : l ≡ x ∷ rest = same at in
    let this : AllByRecursion P (x ∷ rest) = subst (AllByRecursion P) e both.0 in
    (this.0, joined P (drop 1 l) (all_of ls) (subst (λ z. AllByRecursion P (drop 1 z)) (sym e) this.1) both.1)
each_taken P (suc k) (l ∷ ls) x rest at h =
    let both = apart P l (all_of ls) h in
    let r = each_taken P k ls x rest at both.1 in
    (r.0, joined P l (all_of (change (drop 1) k ls)) both.0 r.1)

-- some list isn't empty, or each is
pub some_off : (lists : List (List PlainJob))
    → ((k : ℕ) × (x : PlainJob) × (rest : List PlainJob) × (slice_get lists k ≡ Some (x ∷ rest)))
    ⊎ Everywhere (λ k jobs. jobs ≡ []) lists
some_off [] = inr (λ k jobs at. absurd (nothing at))
some_off ((x ∷ rest) ∷ ls) = inl (0, x, rest, refl)
some_off ([] ∷ ls) =
    elim (some_off ls) [
      | inl q ↦ inl (suc q.0, q.1, q.2, q.3)
      | inr none ↦ inr (first_too ls none)
    ]
  where
    first_too : (ls : List (List PlainJob)) → Everywhere (λ k jobs. jobs ≡ []) ls
        → Everywhere (λ k jobs. jobs ≡ []) ([] ∷ ls)
    first_too ls none zero jobs at = sym (same at)
    first_too ls none (suc k) jobs at = none k jobs at

-- where each list is empty, no job is handed off
pub none_off : (lists : List (List PlainJob)) → Everywhere (λ k jobs. jobs ≡ []) lists → all_of lists ≡ []
none_off [] h = refl
none_off (l ∷ ls) h =
    ap (λ z. z ++ all_of ls) (h 0 l refl) ∙ none_off ls (λ k jobs at. h (suc k) jobs at)

-- Jobs that no seat has

-- those of the hand-off, those that wait, and those that are to be tried again
abbrev pub between : PlainWorld → List PlainJob
between w = all_of w.handed_off ++ (w.aside ++ w.woken)

pub none_between : (w : PlainWorld) → Everywhere (λ k jobs. jobs ≡ []) w.handed_off → w.aside ≡ [] → w.woken ≡ []
    → between w ≡ []
none_between w a b c =
    ap (λ l. l ++ (w.aside ++ w.woken)) (none_off w.handed_off a) ∙ ap (λ l. l ++ w.woken) b ∙ c

pub between_sum : (p : PlainJob → ℕ) (off aside woken : List PlainJob)
    → sum_by p (off ++ (aside ++ woken)) ≡ sum_by p off + sum_by p aside + sum_by p woken
between_sum p off aside woken =
    let a = sum_by-append p off (aside ++ woken) in
    let b = sum_by-append p aside woken in
    omega (arith, a, b)

-- once those that wait were woken
pub woken_sum : (p : PlainJob → ℕ) (off aside woken : List PlainJob)
    → sum_by p (off ++ (woken ++ aside)) ≡ sum_by p (off ++ (aside ++ woken))
woken_sum p off aside woken =
    let a = between_sum p off aside woken in
    let b = between_sum p off woken aside in
    omega (arith, a, b)

pub between_all : (P : PlainJob → Type 0) (off aside woken : List PlainJob) → AllByRecursion P off
    → AllByRecursion P aside → AllByRecursion P woken → AllByRecursion P (off ++ (aside ++ woken))
between_all P off aside woken a b c = joined P off (aside ++ woken) a (joined P aside woken b c)

pub between_parts : (P : PlainJob → Type 0) (off aside woken : List PlainJob)
    → AllByRecursion P (off ++ (aside ++ woken))
    → AllByRecursion P off × AllByRecursion P aside × AllByRecursion P woken
between_parts P off aside woken h =
    let a = apart P off (aside ++ woken) h in
    let b = apart P aside woken a.1 in
    (a.0, b.0, b.1)

pub each_woken : (P : PlainJob → Type 0) (off aside woken : List PlainJob) → AllByRecursion P (off ++ (aside ++ woken))
    → AllByRecursion P (off ++ (woken ++ aside))
each_woken P off aside woken h =
    let b = between_parts P off aside woken h in
    between_all P off woken aside b.0 b.2 b.1

pub each_push : (P : PlainJob → Type 0) (xs : List PlainJob) (x : PlainJob) → AllByRecursion P xs → P x
    → AllByRecursion P (xs ++ x ∷ [])
each_push P xs x h p = joined P xs (x ∷ []) h (p, tt)

-- the first of a list goes
pub first_counts : (p : PlainJob → ℕ) (xs : List PlainJob) (x : PlainJob) (rest : List PlainJob) → xs ≡ x ∷ rest
    → sum_by p (drop 1 xs) + p x ≡ sum_by p xs
first_counts p xs x rest e =
    let a = ap (λ z. sum_by p (drop 1 z)) e in
    let b = ap (λ z. sum_by p z) e in
    let c = sum_by-cons p x rest in
    omega (arith, a, b, c)

pub first_taken : (P : PlainJob → Type 0) (xs : List PlainJob) (x : PlainJob) (rest : List PlainJob) → xs ≡ x ∷ rest
    → AllByRecursion P xs → P x × AllByRecursion P (drop 1 xs)
first_taken P xs x rest e h =
    let this : AllByRecursion P (x ∷ rest) = subst (AllByRecursion P) e h in
    (this.0, subst (λ z. AllByRecursion P (drop 1 z)) (sym e) this.1)

-- The first list on the way round that isn't empty

no_some : {x : PlainJob} {xs : List PlainJob} → [] ≡ x ∷ xs → ⊥
no_some e = cc

below_or_at : (i n : ℕ) → i ≤ n → (i < n) ⊎ (i ≡ n)
below_or_at i n le = grind arith

room : (k j : ℕ) → (k ≤ j) ⊎ (j < k)
room k j = grind arith

IsBare : List (List PlainJob) → ℕ → Type 0
IsBare lists i = (jobs : List PlainJob) → slice_get lists i ≡ Some jobs → jobs ≡ []

HasSome : List (List PlainJob) → ℕ → Type 0
HasSome lists i = (x : PlainJob) × (rest : List PlainJob) × (slice_get lists i ≡ Some (x ∷ rest))

bare_list : (lists : List (List PlainJob)) (i : ℕ) (jobs : List PlainJob) → slice_get lists i ≡ Some jobs
    → IsBare lists i ⊎ HasSome lists i
unfolding IsBare HasSome
bare_list lists i [] at = inl (λ jobs there. same (sym there ∙ at))
bare_list lists i (x ∷ rest) at = inr (x, rest, at)

none_there : (lists : List (List PlainJob)) (i : ℕ) → slice_get lists i ≡ None → IsBare lists i
unfolding IsBare
none_there lists i at = λ jobs there. absurd (nothing (sym at ∙ there))

bare_or_some : (lists : List (List PlainJob)) (i : ℕ) (o : Option (List PlainJob)) → slice_get lists i ≡ o
    → IsBare lists i ⊎ HasSome lists i
bare_or_some lists i None at = inl (none_there lists i at)
bare_or_some lists i (Some jobs) at = bare_list lists i jobs at

-- the first of so many lists, from a number on, or none
Found : List (List PlainJob) → ℕ → Type 0
Found lists k =
    (from : ℕ) × (k ≤ from) × HasSome lists from × ((i : ℕ) → k ≤ i → i < from → IsBare lists i)

seek : (lists : List (List PlainJob)) (k n : ℕ)
    → Found lists k ⊎ ((i : ℕ) → k ≤ i → i < k + n → IsBare lists i)
unfolding Found
seek lists k zero = inr (λ i a b. absurd (omega (arith, a, b)))
seek lists k (suc n) =
    elim (seek lists k n) [
      | inl f ↦ inl f
      | inr none ↦
          elim (bare_or_some lists (k + n) (slice_get lists (k + n)) refl) [
            | inl bare ↦ inr (λ i a b.
                elim (below_or_at i (k + n) (omega (arith, b))) [
                  | inl lt ↦ none i a lt
                  | inr is ↦ subst (IsBare lists) (sym is) bare
                ])
            | inr some ↦ inl (k + n, omega (arith), some, λ i a b. none i a b)
          ]
    ]

pub first_off : (lists : List (List PlainJob)) (k j : ℕ) (x : PlainJob) (rest : List PlainJob)
    → slice_get lists j ≡ Some (x ∷ rest)
    → (from : ℕ) × (y : PlainJob) × (more : List PlainJob) × (slice_get lists from ≡ Some (y ∷ more))
    × ((i : ℕ) (jobs : List PlainJob) → IsBefore k i from → slice_get lists i ≡ Some jobs → jobs ≡ [])
unfolding Found IsBare HasSome
first_off lists k j x rest at =
    elim (seek lists k (length lists)) [
      | inl f ↦ (
        f.0,
        f.2.0,
        f.2.1,
        f.2.2,
        λ i jobs before there.
            elim before [
              | inl p ↦ f.3 i p.0 (elim p.1 [ inl lt ↦ lt | inr lt ↦ absurd (omega (arith, lt, f.1)) ]) jobs there
              | inr p ↦ absurd (omega (arith, p.1, f.1))
            ],
      )
      | inr above ↦
          elim (seek lists 0 k) [
            | inl f ↦ (
              f.0,
              f.2.0,
              f.2.1,
              f.2.2,
              λ i jobs before there.
                  elim before [
                    | inl p ↦
                        let lt = slice_get_within lists i jobs there in
                        above i p.0 (omega (arith, lt)) jobs there
                    | inr p ↦ f.3 i (omega arith) p.0 jobs there
                  ],
            )
            | inr below ↦
                let lt = slice_get_within lists j (x ∷ rest) at in
                absurd (elim (room k j) [
                  | inl le ↦ no_some (sym (above j le (omega (arith, lt)) (x ∷ rest) at))
                  | inr less ↦ no_some (sym (below j (omega arith) (omega (arith, less)) (x ∷ rest) at))
                ])
          ]
    ]
