-- The runs of each queue, and one Commit more.
use Rattle.std.proofs.Common.{◌≡◌, ℕ, zero, suc, ◌+◌, ◌*◌, ◌<◌, ◌≤◌, ◌⊎◌, eqb, eq-eqb, Bool, true, false, List, [], ◌∷◌, ◌++◌, length, get_or, set, map, slice_get, Vec, Option, Some, None, is_some, inl, inr, refl, sym, ◌∙◌, ap, subst, arith}
use Rattle.std.specs.declared.alloc.Global.{Global}
use Rattle.std.proofs.lemmas.Bool.{eqb-true}
use Rattle.std.proofs.lemmas.List.{length-map}
use Rattle.std.proofs.lemmas.Option.{slice_get_within, slice_get-map}
use Rattle.ring_core.specs.declared.log.Ticket.{Ticket}
use Rattle.unit_log.specs.declared.runs.Run.{Run}
use Rattle.unit_log.specs.Runs.{committed_one, committed}
use Rattle.unit_log.specs.Inner.Runs.{InRuns, AreRising, AreBefore, OneMore, last_place, runs_of, tables_of, Stands, Finds, Adds, AreCommits, AreNumbered, AllRising, AllNumbered, SameRuns, FoldsOne}
use Rattle.std.specs.Option.{option_map}
use Rattle.unit_model.specs.declared.rule.Rule.{Rule}
use Rattle.unit_log.specs.declared.kind.StepKind.{StepKind}
use Rattle.unit_log.specs.declared.kind.StepKind.TheVariants as kind
use Rattle.unit_log.specs.Inner.Kept.{met_kind}

-- a list more, which is empty
pub grown : (q : ℕ) (tables : List (List Run)) → runs_of q (tables ++ [] ∷ []) ≡ runs_of q tables
grown zero [] = refl
grown (suc q) [] = refl
grown zero (x ∷ tables) = refl
grown (suc q) (x ∷ tables) = grown q tables

pub table_is : (q : ℕ) (queues : List (Vec Run Global)) (v : Vec Run Global) → q < length queues → v ≡ get_or queues q v → runs_of q (tables_of queues) ≡ v.items
table_is q [] v below is = absurd (omega (arith, below))
table_is zero (x ∷ queues) v below is = ap (λ (w : Vec Run Global). w.items) (sym is)
table_is (suc q) (x ∷ queues) v below is = table_is q queues v (omega (arith, below)) is

-- its table is set
table_same : (q : ℕ) (queues : List (Vec Run Global)) (v : Vec Run Global) → q < length queues → runs_of q (tables_of (set queues q v)) ≡ v.items
table_same q [] v below = absurd (omega (arith, below))
table_same zero (x ∷ queues) v below = refl
table_same (suc q) (x ∷ queues) v below = table_same q queues v (omega (arith, below))

table_other : (q u : ℕ) (queues : List (Vec Run Global)) (v : Vec Run Global) → (q ≡ u → ⊥) → runs_of u (tables_of (set queues q v)) ≡ runs_of u (tables_of queues)
table_other q u [] v other = refl
table_other zero zero (x ∷ queues) v other = absurd (other refl)
table_other zero (suc u) (x ∷ queues) v other = refl
table_other (suc q) zero (x ∷ queues) v other = refl
table_other (suc q) (suc u) (x ∷ queues) v other = table_other q u queues v (λ e. other (ap suc e))

unlike : false ≡ true → ⊥
unlike e = cc

-- which is that queue
same_or_not : (q u : ℕ) → (q ≡ u) ⊎ (q ≡ u → ⊥)
same_or_not q u =
    (elim (eqb q u) as (λ b. eqb q u ≡ b → (q ≡ u) ⊎ (q ≡ u → ⊥)) [
      | true ↦ λ e. inl (eqb-true q u e)
      | false ↦ λ e. inr (λ k. unlike (sym e ∙ eq-eqb q u k))
    ]) refl

pub rising_all : (q : ℕ) (queues queues0 : List (Vec Run Global)) (v : Vec Run Global) → q < length queues
    → ((u : ℕ) → runs_of u (tables_of queues) ≡ runs_of u (tables_of queues0)) → AllRising (tables_of queues0) → AreRising 0 v.items → AllRising (tables_of (set queues q v))
rising_all q queues queues0 v below same all rising = λ u.
    elim (same_or_not q u) as (λ w. AreRising 0 (runs_of u (tables_of (set queues q v)))) [
      | inl e ↦ subst (λ k. AreRising 0 (runs_of k (tables_of (set queues q v)))) e (subst (AreRising 0) (sym (table_same q queues v below)) rising)
      | inr other ↦ subst (AreRising 0) (sym (table_other q u queues v other ∙ same u)) (all u)
    ]

pub numbered_all : (q : ℕ) (queues queues0 : List (Vec Run Global)) (v : Vec Run Global) → q < length queues
    → ((u : ℕ) → runs_of u (tables_of queues) ≡ runs_of u (tables_of queues0)) → AllNumbered (tables_of queues0) → AreNumbered v.items → AllNumbered (tables_of (set queues q v))
numbered_all q queues queues0 v below same all numbered = λ u.
    elim (same_or_not q u) as (λ w. AreNumbered (runs_of u (tables_of (set queues q v)))) [
      | inl e ↦ subst (λ k. AreNumbered (runs_of k (tables_of (set queues q v)))) e (subst AreNumbered (sym (table_same q queues v below)) numbered)
      | inr other ↦ subst AreNumbered (sym (table_other q u queues v other ∙ same u)) (all u)
    ]

-- as many tables
pub count_set : (q : ℕ) (queues : List (Vec Run Global)) (v : Vec Run Global) → length (tables_of (set queues q v)) ≡ length queues
count_set q [] v = refl
count_set zero (x ∷ queues) v = ap suc (length-map queues (λ (w : Vec Run Global). w.items))
count_set (suc q) (x ∷ queues) v = ap suc (count_set q queues v)

pub unchanged : (q u : ℕ) (queues queues0 : List (Vec Run Global)) (v w : Vec Run Global) → q < length queues
    → ((u : ℕ) → runs_of u (tables_of queues) ≡ runs_of u (tables_of queues0)) → w ≡ get_or queues q w → v.items ≡ w.items
    → runs_of u (tables_of (set queues q v)) ≡ runs_of u (tables_of queues0)
unchanged q u queues queues0 v w below same was is =
    elim (same_or_not q u) as (λ x. runs_of u (tables_of (set queues q v)) ≡ runs_of u (tables_of queues0)) [
      | inl e ↦
          subst (λ k. runs_of k (tables_of (set queues q v)) ≡ runs_of k (tables_of queues0)) e
          (table_same q queues v below ∙ is ∙ sym (table_is q queues w below was) ∙ same q)
      | inr other ↦ table_other q u queues v other ∙ same u
    ]

abbrev chain_of : ℕ → ℕ → Ticket
chain_of q number = record { queue = q; number = number }

chain_is : (t : Ticket) (q number : ℕ) → t.queue ≡ q → t.number ≡ number → t ≡ chain_of q number
chain_is t q number a b = ap (λ x. chain_of x t.number) a ∙ ap (chain_of q) b

pub adds : (place q number : ℕ) (queues queues0 : List (Vec Run Global)) (v w : Vec Run Global) → q < length queues
    → ((u : ℕ) → runs_of u (tables_of queues) ≡ runs_of u (tables_of queues0)) → w ≡ get_or queues q w
    → OneMore (λ p n. InRuns p n w.items) place number (λ p n. InRuns p n v.items)
    → Adds place (record { queue = q; number = number }) (tables_of queues0) (tables_of (set queues q v))
adds place q number queues queues0 v w below same was one = λ p t.
    let c : Ticket = record { queue = q; number = number } in
    let before : w.items ≡ runs_of q (tables_of queues0) = sym (table_is q queues w below was) ∙ same q in
    elim (same_or_not q t.queue) as (λ x. (Stands p t (tables_of (set queues q v)) → Stands p t (tables_of queues0) ⊎ ((p ≡ place) × (t ≡ c)))
    × (Stands p t (tables_of queues0) ⊎ ((p ≡ place) × (t ≡ c)) → Stands p t (tables_of (set queues q v)))) [
      | inl e ↦
          let now : runs_of t.queue (tables_of (set queues q v)) ≡ v.items = ap (λ k. runs_of k (tables_of (set queues q v))) (sym e) ∙ table_same q queues v below in
          let old : runs_of t.queue (tables_of queues0) ≡ w.items = ap (λ k. runs_of k (tables_of queues0)) (sym e) ∙ sym before in
          let both = one p t.number in (
            λ k. elim (both.0 (subst (InRuns p t.number) now k)) as (λ x. Stands p t (tables_of queues0) ⊎ ((p ≡ place) × (t ≡ c))) [
              | inl is ↦ inl (subst (InRuns p t.number) (sym old) is)
              | inr it ↦ inr (it.0, chain_is t q number (sym e) it.1)
            ],
            λ k. subst (InRuns p t.number) (sym now) (both.1 (elim k as (λ x. InRuns p t.number w.items ⊎ ((p ≡ place) × (t.number ≡ number))) [
              | inl is ↦ inl (subst (InRuns p t.number) old is)
              | inr it ↦ inr (it.0, ap (λ (x : Ticket). x.number) it.1)
            ])),
          )
      | inr other ↦
          let now : runs_of t.queue (tables_of (set queues q v)) ≡ runs_of t.queue (tables_of queues0) = table_other q t.queue queues v other ∙ same t.queue in (
            λ k. inl (subst (InRuns p t.number) now k),
            λ k. subst (InRuns p t.number) (sym now) (elim k as (λ x. InRuns p t.number (runs_of t.queue (tables_of queues0))) [
              | inl is ↦ is
              | inr it ↦ absurd (other (sym (ap (λ (x : Ticket). x.queue) it.1)))
            ]),
          )
    ]

-- One more folded step:
pub before_all : (b : ℕ) (runs : List Run) → ((p n : ℕ) → InRuns p n runs → p < b) → AreBefore b runs
before_all b [] all = tt
before_all b (r ∷ runs) all =
    (all (last_place r) (r.number + r.more * r.by_number) (inl (r.more, omega arith, refl, refl)), before_all b runs (λ p n k. all p n (inr k)))

-- what is added is behind all
pub commits_before : (steps : List (Option Ticket)) (tables : List (List Run)) (q : ℕ) → AreCommits steps tables → AreBefore (length steps) (runs_of q tables)
commits_before steps tables q k =
    before_all (length steps) (runs_of q tables)
    (λ p n i. slice_get_within steps p (Some (record { queue = q; number = n })) ((k p (record { queue = q; number = n })).0 i))

push_here : {X : Type 0} (xs : List X) (y : X) → slice_get (xs ++ y ∷ []) (length xs) ≡ Some y
push_here [] y = refl
push_here (x ∷ xs) y = push_here xs y

push_other : {X : Type 0} (xs : List X) (y : X) (k : ℕ) → (length xs ≡ k → ⊥) → slice_get (xs ++ y ∷ []) k ≡ slice_get xs k
push_other [] y zero other = absurd (other refl)
push_other [] y (suc k) other = refl
push_other (x ∷ xs) y zero other = refl
push_other (x ∷ xs) y (suc k) other = push_other xs y k (λ e. other (ap suc e))

some_same : (a b : Ticket) → Some (Some a) ≡ Some (Some b) → a ≡ b
some_same a b e = cc

-- a Commit
pub commit_folded : (steps : List (Option Ticket)) (t : Ticket) (old new : List (List Run)) → AreCommits steps old → Adds (length steps) t old new
    → AreCommits (steps ++ Some t ∷ []) new
commit_folded steps t old new k adds = λ p u.
    elim (same_or_not (length steps) p) as (λ w. (Stands p u new → slice_get (steps ++ Some t ∷ []) p ≡ Some (Some u)) × (slice_get (steps ++ Some t ∷ []) p ≡ Some (Some u) → Stands p u new)) [
      | inl e ↦ (
        λ i. elim ((adds p u).0 i) as (λ w. slice_get (steps ++ Some t ∷ []) p ≡ Some (Some u)) [
          | inl was ↦ absurd (let h = slice_get_within steps p (Some u) ((k p u).0 was) in omega (arith, h, e))
          | inr it ↦ ap (slice_get (steps ++ Some t ∷ [])) (sym e) ∙ push_here steps (Some t) ∙ ap (λ x. Some (Some x)) (sym it.1)
        ],
        λ h.
            let same = some_same t u (sym (push_here steps (Some t)) ∙ ap (slice_get (steps ++ Some t ∷ [])) e ∙ h) in
            (adds p u).1 (inr (sym e, sym same)),
      )
      | inr other ↦ (
        λ i. elim ((adds p u).0 i) as (λ w. slice_get (steps ++ Some t ∷ []) p ≡ Some (Some u)) [
          | inl was ↦ push_other steps (Some t) p other ∙ (k p u).0 was
          | inr it ↦ absurd (other (sym it.0))
        ],
        λ h. (adds p u).1 (inl ((k p u).1 (sym (push_other steps (Some t) p other) ∙ h))),
      )
    ]

abbrev is_chain : Option (Option Ticket) → Bool
is_chain (Some (Some u)) = true
is_chain (Some None) = false
is_chain None = false

none_same : (u : Ticket) → Some None ≡ Some (Some u) → ⊥
none_same u e = unlike (ap is_chain e)

-- another step
pub other_folded : (steps : List (Option Ticket)) (tables : List (List Run)) → AreCommits steps tables → AreCommits (steps ++ None ∷ []) tables
other_folded steps tables k = λ p u.
    elim (same_or_not (length steps) p) as (λ w. (Stands p u tables → slice_get (steps ++ None ∷ []) p ≡ Some (Some u)) × (slice_get (steps ++ None ∷ []) p ≡ Some (Some u) → Stands p u tables)) [
      | inl e ↦ (
        λ i. absurd (let h = slice_get_within steps p (Some u) ((k p u).0 i) in omega (arith, h, e)),
        λ h. absurd (none_same u (sym (push_here steps None) ∙ ap (slice_get (steps ++ None ∷ [])) e ∙ h)),
      )
      | inr other ↦ (
        λ i. push_other steps None p other ∙ (k p u).0 i,
        λ h. (k p u).1 (sym (push_other steps None p other) ∙ h),
      )
    ]

same_commits : (steps : List (Option Ticket)) (old new : List (List Run)) → SameRuns old new → AreCommits steps old → AreCommits steps new
same_commits steps old new same k = λ p t. (
  λ i. (k p t).0 (subst (InRuns p t.number) (same t.queue) i),
  λ h. subst (InRuns p t.number) (sym (same t.queue)) ((k p t).1 h),
)

-- one more folded step, and none
pub folds_one : (keeps : Bool) (place : ℕ) (o : Option Ticket) (steps : List (Option Ticket)) (old new : List (List Run)) → place ≡ length steps
    → (keeps ≡ true → AreCommits steps old) → FoldsOne keeps place o old new → keeps ≡ true → AreCommits (steps ++ o ∷ []) new
folds_one true place (Some t) steps old new at k folds on = commit_folded steps t old new (k refl) (subst (λ n. Adds n t old new) at folds)
folds_one true place None steps old new at k folds on = other_folded steps new (same_commits steps old new folds (k refl))
folds_one false place o steps old new at k folds on = absurd (unlike on)

pub folds_none : (keeps : Bool) (place : ℕ) (o : Option Ticket) (steps : List (Option Ticket)) (old new : List (List Run)) → o ≡ None
    → (keeps ≡ true → AreCommits steps old) → FoldsOne keeps place o old new → keeps ≡ true → AreCommits steps new
folds_none true place (Some t) steps old new none k folds on = absurd (cc)
folds_none true place None steps old new none k folds on = same_commits steps old new folds (k refl)
folds_none false place o steps old new none k folds on = absurd (unlike on)

pub folds_same : (steps : List (Option Ticket)) (old new : List (List Run)) (keeps : Bool) → SameRuns old new → (keeps ≡ true → AreCommits steps old) → keeps ≡ true → AreCommits steps new
folds_same steps old new keeps same k on = same_commits steps old new same (k on)

-- a step that is no Commit, or none that is kept, changes nothing
pub folds_nothing : (keeps : Bool) (place : ℕ) (o : Option Ticket) (tables : List (List Run)) → (keeps ≡ true → o ≡ None) → FoldsOne keeps place o tables tables
folds_nothing true place o tables none = subst (λ w. FoldsOne true place w tables tables) (sym (none refl)) (λ q. refl)
folds_nothing false place o tables none = λ q. refl

-- a mark is no Commit
pub mark_commits_none : (k : StepKind) (o : Option Rule) → o ≡ met_kind k → is_some o ≡ true → committed k ≡ None
mark_commits_none (kind.Abort rule) o is some = refl
mark_commits_none kind.Reset o is some = refl
mark_commits_none kind.Resize o is some = refl
mark_commits_none (kind.Enter t) o is some = refl
mark_commits_none (kind.Full t) o is some = refl
mark_commits_none (kind.Busy t) o is some = refl
mark_commits_none (kind.Leave t) o is some = refl
mark_commits_none (kind.Commit t) o is some = absurd (unlike (sym (ap is_some is) ∙ some))

-- a kind is that of a Commit
nothing : {t : Ticket} → None ≡ Some t → ⊥
nothing e = cc

of_kind : (k : StepKind) (t : Ticket) → committed k ≡ Some t → k ≡ kind.Commit t
of_kind (kind.Commit u) t e = ap (λ w. kind.Commit w) (let h : u ≡ t = cc in h)
of_kind (kind.Abort rule) t e = absurd (nothing e)
of_kind kind.Reset t e = absurd (nothing e)
of_kind kind.Resize t e = absurd (nothing e)
of_kind (kind.Enter u) t e = absurd (nothing e)
of_kind (kind.Full u) t e = absurd (nothing e)
of_kind (kind.Busy u) t e = absurd (nothing e)
of_kind (kind.Leave u) t e = absurd (nothing e)

of_one : (o : Option StepKind) (t : Ticket) → option_map committed o ≡ Some (Some t) → o ≡ Some (kind.Commit t)
of_one None t e = absurd (cc)
of_one (Some k) t e = ap (λ w. Some w) (of_kind k t (let h : committed k ≡ Some t = cc in h))

pub stands_kind : (p : ℕ) (t : Ticket) (kinds : List StepKind) (tables : List (List Run)) → AreCommits (map committed kinds) tables
    → (Stands p t tables → slice_get kinds p ≡ Some (kind.Commit t)) × (slice_get kinds p ≡ Some (kind.Commit t) → Stands p t tables)
stands_kind p t kinds tables k = (
  λ i. of_one (slice_get kinds p) t (sym (slice_get-map committed kinds p) ∙ (k p t).0 i),
  λ h. (k p t).1 (slice_get-map committed kinds p ∙ ap (option_map committed) h),
)

-- no ticket of the queues up to one, and then of that
pub none_next : (place q : ℕ) (queues : List (Vec Run Global)) (v : Vec Run Global) → q < length queues → v ≡ get_or queues q v
    → ((t : Ticket) → t.queue < q → Stands place t (tables_of queues) → ⊥) → ((n : ℕ) → InRuns place n v.items → ⊥)
    → (t : Ticket) → t.queue < q + 1 → Stands place t (tables_of queues) → ⊥
none_next place q queues v below is before here = λ t lt stands.
    elim (same_or_not q t.queue) [
      | inl e ↦ here t.number (subst (InRuns place t.number) (ap (λ k. runs_of k (tables_of queues)) (sym e) ∙ table_is q queues v below is) stands)
      | inr other ↦ before t (omega (arith, lt, other)) stands
    ]

pub none_past : (u : ℕ) (queues : List (Vec Run Global)) → length queues ≤ u → runs_of u (tables_of queues) ≡ []
none_past u [] le = none_of u
  where
    none_of : (u : ℕ) → runs_of u (tables_of []) ≡ []
    none_of zero = refl
    none_of (suc u) = refl
none_past zero (x ∷ queues) le = absurd (omega (arith, le))
none_past (suc u) (x ∷ queues) le = none_past u queues (omega (arith, le))

-- nor of any other
pub none_all : (place q : ℕ) (queues : List (Vec Run Global)) → length queues ≤ q → ((t : Ticket) → t.queue < q → Stands place t (tables_of queues) → ⊥)
    → Finds place (tables_of queues) None
none_all place q queues le before = λ t stands.
    elim (below_or_past t.queue q) [
      | inl lt ↦ before t lt stands
      | inr past ↦ subst (InRuns place t.number) (none_past t.queue queues (omega (arith, le, past))) stands
    ]
  where
    below_or_past : (a b : ℕ) → (a < b) ⊎ (b ≤ a)
    below_or_past a b = grind arith

-- whose Commit stands at a place
no_commit : (k : StepKind) → ((t : Ticket) → Some k ≡ Some (kind.Commit t) → ⊥) → committed k ≡ None
no_commit (kind.Commit t) off = absurd (off t refl)
no_commit (kind.Abort rule) off = refl
no_commit kind.Reset off = refl
no_commit kind.Resize off = refl
no_commit (kind.Enter t) off = refl
no_commit (kind.Full t) off = refl
no_commit (kind.Busy t) off = refl
no_commit (kind.Leave t) off = refl

none_one : (o : Option StepKind) → ((t : Ticket) → o ≡ Some (kind.Commit t) → ⊥) → None ≡ committed_one o
none_one None off = refl
none_one (Some k) off = sym (no_commit k off)

pub found_kind : (p : ℕ) (o : Option Ticket) (kinds : List StepKind) (tables : List (List Run)) → AreCommits (map committed kinds) tables → Finds p tables o
    → o ≡ committed_one (slice_get kinds p)
found_kind p None kinds tables k finds = none_one (slice_get kinds p) (λ t e. finds t ((stands_kind p t kinds tables k).1 e))
found_kind p (Some t) kinds tables k finds = sym (ap committed_one ((stands_kind p t kinds tables k).0 finds))
