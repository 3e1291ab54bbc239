-- What the open function has done, and what it waits for.
use Rattle.std.proofs.Common.{◌≡◌, ℕ, ◌+◌, ◌<◌, ◌≤◌, List, [], ◌∷◌, ◌++◌, drop, length, Option, Some, None, refl, sym, ◌∙◌, ap, subst, arith, inl, inr}
use Rattle.std.specs.Prelude.{◌⊎◌, ◌↔◌, Bool, true, false, ◌||◌, ⊤}
use Rattle.std.specs.List.{sum_by}
use Rattle.std.proofs.lemmas.List.Sums.{sum_by-cons}
use Rattle.ring_core.specs.declared.log.Ticket.{Ticket}
use Rattle.unit_model.specs.declared.rule.Rule.{Rule}
use Rattle.unit_model.specs.Steps.{Step}
use Rattle.unit_model.specs.Clearing.{AreGone}
use Rattle.unit_model.proofs.Clearing.{clear_gone}
use Rattle.unit_model.specs.Jobs.{PlainJob}
use Rattle.task_mgmt.specs.Functions.{PlainFunction, step_by, marking, next_look, asking, failing, checking}
use Rattle.task_mgmt.specs.declared.control.ControlDecision.TheVariants as managed
use Rattle.task_mgmt.specs.declared.kind.Kind.{Kind}
use Rattle.task_mgmt.specs.declared.kind.Kind.TheVariants.{Marking, Querying}
use Rattle.task_mgmt.specs.declared.kind.MarkBy.{MarkBy}
use Rattle.task_mgmt.specs.declared.function.Mark.{Mark as MarkAt}
use Rattle.device_model.specs.Parts.{PlainFetch, lengths_of}
use Rattle.device_model.specs.World.{Opened, PlainWorld, Opens}
use Rattle.device_model.specs.Transitions.{Transition}
use Rattle.device_model.specs.Changing.{on_function}
use Rattle.device_model.specs.After.{after}
use Rattle.device_model.specs.Event.Mark.{Marks, Asks, MarksRefused}
use Rattle.device_model.specs.Event.Check.{Checks}
use Rattle.device_model.specs.Event.Fetch.{DecidesControl}
use Rattle.device_model.specs.Happens.{Leads, world_of}
use Rattle.device_model.specs.Places.{only}
use Rattle.device_model.specs.Weights.{fetches}
use Rattle.device_model.specs.Happened.{Happened, IsFetch, IsMark, IsFound, IsFail, IsVisit}
use Rattle.device_model.specs.Histories.{step_of, pushed, history_of}
use Rattle.device_model.specs.Functions.{Among, IsBegun}
use Rattle.device_model.proofs.Steps.{at_own, length_on}
use Rattle.device_model.proofs.Saying.{Says}
use Rattle.device_model.proofs.Knowing.{parts_at, says_at}
use Rattle.device_model.proofs.Counts.{few_at, told_counts}
use Rattle.device_model.proofs.Ordering.{fetch_one}
use Rattle.device_model.proofs.Beginning.{opens_fresh}
use Rattle.device_model.proofs.Gone.{gone_on}

abbrev pub Listed : MarkAt → List MarkAt → Type 0
Listed p [] = ⊥
Listed p (q ∷ qs) = (q ≡ p) ⊎ Listed p qs

abbrev pub IsMarking : Kind → Type 0
IsMarking (Marking m) = ⊤
IsMarking (Querying rule) = ⊥

abbrev pub IsAsking : Kind → Type 0
IsAsking (Marking m) = ⊥
IsAsking (Querying rule) = ⊤

-- each unit of the function is left, or was visited, unless memory was refused; each mark of it is waited for, or clear
pub record IsUnderWay (old : PlainWorld) (ds : List Transition) (x : Opened) : Type 0 where
  pub begun : IsBegun old.inventory ds x.chain.ticket
  pub chain : begun.fetch.chain ≡ x.chain
  pub kind : begun.function.kind ≡ x.function.kind
  pub among : (unit_index : ℕ) → Among unit_index x.function.left → Among unit_index begun.function.left
  pub visits : (unit_index : ℕ) → Among unit_index begun.function.left
      → Among unit_index x.function.left ⊎ (Happened (IsVisit x.chain.ticket unit_index) ds ⊎ Happened (IsFail x.chain.ticket) ds)
  pub waits : (p : MarkAt) → Happened (IsMark x.chain.ticket p) ds
      → Listed p x.function.waits ⊎ AreGone p.place (history_of p.unit ds)
  pub found : (x.function.found ≡ true) ↔ Happened (IsFound x.chain.ticket) ds
  pub failed : (x.function.refused ≡ true) ↔ Happened (IsFail x.chain.ticket) ds
  pub asks : x.function.found ≡ true → IsAsking x.function.kind
  pub marks : x.function.refused ≡ true → IsMarking x.function.kind

abbrev pub FunctionSays : PlainWorld → List Transition → Option Opened → Type 0
FunctionSays old ds None = ⊤
FunctionSays old ds (Some x) = IsUnderWay old ds x

-- a ticket was fetched
abbrev WasFetched : Ticket → List Transition → Type 0
WasFetched t ds = 1 ≤ sum_by (fetches (only t)) ds

pub record FunctionsSay (old : PlainWorld) (ds : List Transition) (now : Option Opened) : Type 0 where
  pub function : FunctionSays old ds now
  pub marks : (t : Ticket) (p : MarkAt) → Happened (IsMark t p) ds
      → WasFetched t ds × (p.place < length (history_of p.unit ds))
  pub finds : (t : Ticket) → Happened (IsFound t) ds → WasFetched t ds
  pub fails : (t : Ticket) → Happened (IsFail t) ds → WasFetched t ds

-- What stays so

fetched_on : (t : Ticket) (d : Transition) (ds : List Transition) → WasFetched t ds → WasFetched t (d ∷ ds)
fetched_on t d ds h = let c = sum_by-cons (fetches (only t)) d ds in omega (arith, h, c)

abbrev IsNoMark : Transition → Type 0
IsNoMark d = (t : Ticket) (p : MarkAt) → IsMark t p d → ⊥

abbrev IsNoFind : Transition → Type 0
IsNoFind d = (t : Ticket) → IsFound t d → ⊥

abbrev IsNoFail : Transition → Type 0
IsNoFail d = (t : Ticket) → IsFail t d → ⊥

abbrev ArePlaced : List Transition → Type 0
ArePlaced ds =
    (t : Ticket) (p : MarkAt) → Happened (IsMark t p) ds → WasFetched t ds × (p.place < length (history_of p.unit ds))

abbrev AreFetched : (Ticket → Transition → Type 0) → List Transition → Type 0
AreFetched P ds = (t : Ticket) → Happened (P t) ds → WasFetched t ds

placed_on : (d : Transition) (ds : List Transition) → IsNoMark d → ArePlaced ds → ArePlaced (d ∷ ds)
placed_on d ds other h t p (inl e) = absurd (other t p e)
placed_on d ds other h t p (inr k) =
    let q = h t p k in
    let l = length_on (step_of p.unit d) (history_of p.unit ds) in
    let lt = q.1 in
    (fetched_on t d ds q.0, omega (arith, lt, l))

told_fetched_on : (P : Ticket → Transition → Type 0) (d : Transition) (ds : List Transition) → ((t : Ticket) → P t d → ⊥)
    → AreFetched P ds → AreFetched P (d ∷ ds)
told_fetched_on P d ds other h t (inl e) = absurd (other t e)
told_fetched_on P d ds other h t (inr k) = fetched_on t d ds (h t k)

told_same : (P : Transition → Type 0) (d : Transition) (ds : List Transition) (b : Bool) → (P d → ⊥) → ((b ≡ true) ↔ Happened P ds)
    → (b ≡ true) ↔ Happened P (d ∷ ds)
told_same P d ds b other h = (λ e. inr (h.0 e), λ told. elim told [ inl q ↦ absurd (other q) | inr q ↦ h.1 q ])

abbrev Waits : List Transition → List MarkAt → MarkAt → Type 0
Waits ds waits p = Listed p waits ⊎ AreGone p.place (history_of p.unit ds)

waits_on : (d : Transition) (ds : List Transition) (waits : List MarkAt) (p : MarkAt) → p.place < length (history_of p.unit ds)
    → Waits ds waits p → Waits (d ∷ ds) waits p
waits_on d ds waits p lt (inl h) = inl h
waits_on d ds waits p lt (inr h) = inr (gone_on p.place (step_of p.unit d) (history_of p.unit ds) lt h)

abbrev begun_on : (old : PlainWorld) (t : Ticket) (d : Transition) (ds : List Transition) → IsBegun old.inventory ds t
    → IsBegun old.inventory (d ∷ ds) t
begun_on old t d ds h =
    record { fetch = h.fetch; fetched = inr h.fetched; ticket = h.ticket; function = h.function; decided = h.decided }

abbrev AreVisited : Ticket → List ℕ → (ℕ → Type 0) → List Transition → Type 0
AreVisited t units P ds = (unit_index : ℕ) → Among unit_index units → P unit_index ⊎ (Happened (IsVisit t unit_index) ds ⊎ Happened (IsFail t) ds)

-- one unit less is left, and it was visited
visits_on : (t : Ticket) (units : List ℕ) (P Q : ℕ → Type 0) (d : Transition) (ds : List Transition)
    → ((unit_index : ℕ) → P unit_index → Q unit_index ⊎ (IsVisit t unit_index d ⊎ IsFail t d)) → AreVisited t units P ds
    → AreVisited t units Q (d ∷ ds)
visits_on t units P Q d ds f h unit_index i =
    elim (h unit_index i) [
      | inl p ↦ elim (f unit_index p) [
        | inl q ↦ inl q
        | inr q ↦ elim q [ inl v ↦ inr (inl (inl v)) | inr v ↦ inr (inr (inl v)) ]
      ]
      | inr q ↦ elim q [ inl v ↦ inr (inl (inr v)) | inr v ↦ inr (inr (inr v)) ]
    ]

-- the function stays
function_on : (old : PlainWorld) (d : Transition) (ds : List Transition) (o : Option Opened) → IsNoMark d → IsNoFind d → IsNoFail d
    → ArePlaced ds → FunctionSays old ds o → FunctionSays old (d ∷ ds) o
function_on old d ds None other quiet calm k h = tt
function_on old d ds (Some x) other quiet calm k h =
    let t = x.chain.ticket in
    record {
      begun = begun_on old t d ds h.begun;
      chain = h.chain;
      kind = h.kind;
      among = h.among;
      visits = visits_on t h.begun.function.left (λ unit_index. Among unit_index x.function.left)
          (λ unit_index. Among unit_index x.function.left) d ds (λ unit_index p. inl p) h.visits;
      waits = λ p told. elim told [
        | inl q ↦ absurd (other t p q)
        | inr q ↦ waits_on d ds x.function.waits p (k t p q).1 (h.waits p q)
      ];
      found = told_same (IsFound t) d ds x.function.found (quiet t) h.found;
      failed = told_same (IsFail t) d ds x.function.refused (calm t) h.failed;
      asks = h.asks;
      marks = h.marks;
    }

functions_on : (old : PlainWorld) (d : Transition) (ds : List Transition) (o : Option Opened) → IsNoMark d → IsNoFind d
    → IsNoFail d → FunctionsSay old ds o → FunctionsSay old (d ∷ ds) o
functions_on old d ds o other quiet calm s =
    record {
      function = function_on old d ds o other quiet calm s.marks s.function;
      marks = placed_on d ds other s.marks;
      finds = told_fetched_on IsFound d ds quiet s.finds;
      fails = told_fetched_on IsFail d ds calm s.fails;
    }

-- no function is open any more
functions_end : (old : PlainWorld) (d : Transition) (ds : List Transition) (o : Option Opened) → IsNoMark d → IsNoFind d
    → IsNoFail d → FunctionsSay old ds o → FunctionsSay old (d ∷ ds) None
functions_end old d ds o other quiet calm s =
    record {
      function = tt;
      marks = placed_on d ds other s.marks;
      finds = told_fetched_on IsFound d ds quiet s.finds;
      fails = told_fetched_on IsFail d ds calm s.fails;
    }

abbrev pub was_open : (old : PlainWorld) (ds : List Transition) (o : Option Opened) (x : Opened) → o ≡ Some x
    → FunctionsSay old ds o → IsUnderWay old ds x
was_open old ds o x e s = subst (λ z. FunctionSays old ds z) e s.function

now_open : (old : PlainWorld) (ds : List Transition) (o : Option Opened) (g : PlainFunction → PlainFunction) (x : Opened)
    → o ≡ Some x → FunctionSays old ds (on_function g (Some x)) → FunctionSays old ds (on_function g o)
now_open old ds o g x e s = subst (λ z. FunctionSays old ds (on_function g z)) (sym e) s

-- the ticket of the open function was fetched
open_fetched : (old : PlainWorld) (ds : List Transition) (x : Opened) → IsUnderWay old ds x → WasFetched x.chain.ticket ds
open_fetched old ds x h =
    let f = h.begun.fetch in
    subst (λ t. WasFetched t ds) h.begun.ticket
    (told_counts (IsFetch f) (fetches (only f.chain.ticket)) (fetch_one f) ds h.begun.fetched)

-- Begin

-- of a ticket that is fetched now nothing was told
unfetched : (old : PlainWorld) (t : Ticket) (d : Transition) (ds : List Transition) → Opens old → Leads old (d ∷ ds)
    → 1 ≤ fetches (only t) d → WasFetched t ds → ⊥
unfetched old t d ds o l one h =
    let n = few_at old (d ∷ ds) t o l in
    let few = n.fetched in
    let c = sum_by-cons (fetches (only t)) d ds in
    omega (arith, one, h, few, c)

off_on : {b : Bool} → b ≡ false → b ≡ true → ⊥
off_on e f = let both = sym e ∙ f in cc

functions_open : (old : PlainWorld) (f : PlainFetch) (g : PlainFunction) (ds : List Transition) → Opens old
    → Leads old (Transition.Open f g ∷ ds) → FunctionsSay old ds (world_of old ds).function
    → FunctionsSay old (Transition.Open f g ∷ ds) (Some (record { chain = f.chain; function = g }))
functions_open old f g ds o l s =
    let d = Transition.Open f g in
    let t = f.chain.ticket in
    let m = l.1 in
    let e = (parts_at old ds l.0).inventory in
    let decided = subst (λ z. DecidesControl z f (managed.Opens g)) e m.decided in
    let fresh = opens_fresh old.inventory.addresses decided.0 (lengths_of f.chain).writable g decided.2 in
    let new = unfetched old t d ds o l (fetch_one f d refl) in
    record {
      function = record {
        begun = record { fetch = f; fetched = inl refl; ticket = refl; function = g; decided = decided };
        chain = refl;
        kind = refl;
        among = λ unit_index i. i;
        visits = λ unit_index i. inl i;
        waits = λ p told. elim told [ inl q ↦ absurd q | inr q ↦ absurd (new (s.marks t p q).0) ];
        found = (
          λ q. absurd (off_on fresh.0 q),
          λ told. elim told [ inl q ↦ absurd q | inr q ↦ absurd (new (s.finds t q)) ],
        );
        failed = (
          λ q. absurd (off_on fresh.1 q),
          λ told. elim told [ inl q ↦ absurd q | inr q ↦ absurd (new (s.fails t q)) ],
        );
        asks = λ q. absurd (off_on fresh.0 q);
        marks = λ q. absurd (off_on fresh.1 q);
      };
      marks = placed_on d ds (λ u p q. q) s.marks;
      finds = told_fetched_on IsFound d ds (λ u q. q) s.finds;
      fails = told_fetched_on IsFail d ds (λ u q. q) s.fails;
    }

-- Look, mark, fail, check

among_drop : (unit_index : ℕ) (left : List ℕ) → Among unit_index (drop 1 left) → Among unit_index left
among_drop unit_index [] h = h
among_drop unit_index (k ∷ left) h = inr h

among_next : (unit_index k : ℕ) (later left : List ℕ) → left ≡ k ∷ later → Among unit_index left
    → (k ≡ unit_index) ⊎ Among unit_index (drop 1 left)
among_next unit_index k later left e h =
    elim (subst (Among unit_index) e h) [
      | inl q ↦ inl q
      | inr q ↦ inr (subst (λ z. Among unit_index (drop 1 z)) (sym e) q)
    ]

found_now : (t u : Ticket) (unit_index : ℕ) (rule : Rule) (b found : Bool) (ds : List Transition) → u ≡ t
    → ((found ≡ true) ↔ Happened (IsFound t) ds) → ((b || found) ≡ true) ↔ Happened (IsFound t) (Transition.Ask u unit_index rule b ∷ ds)
found_now t u unit_index rule true found ds e h = (λ q. inl (e, refl), λ told. refl)
found_now t u unit_index rule false found ds e h =
    (λ q. inr (h.0 q), λ told. elim told [ inl q ↦ let k = q.1 in absurd (cc) | inr q ↦ h.1 q ])

asking_kind : (kind : Kind) (rule : Rule) → kind ≡ Querying rule → IsAsking kind
asking_kind kind rule e = subst IsAsking (sym e) tt

marking_kind : (kind : Kind) (m : MarkBy) → kind ≡ Marking m → IsMarking kind
marking_kind kind m e = subst IsMarking (sym e) tt

-- who is asked for isn't refused
never_both : (kind : Kind) → IsAsking kind → IsMarking kind → ⊥
never_both (Marking m) a b = a
never_both (Querying rule) a b = b

listed_push : (p q : MarkAt) (ps : List MarkAt) → Listed p ps → Listed p (ps ++ q ∷ [])
listed_push p q [] h = absurd h
listed_push p q (x ∷ ps) (inl e) = inl e
listed_push p q (x ∷ ps) (inr h) = inr (listed_push p q ps h)

functions_ask : (old : PlainWorld) (t : Ticket) (unit_index : ℕ) (rule : Rule) (b : Bool) (ds : List Transition) (w : PlainWorld)
    → Asks w t unit_index rule b → FunctionsSay old ds w.function
    → FunctionsSay old (Transition.Ask t unit_index rule b ∷ ds) (on_function (asking b) w.function)
functions_ask old t unit_index rule b ds w m s =
    let d = Transition.Ask t unit_index rule b in
    let g = m.marking in
    let x = g.opened in
    let f = x.function in
    let u = x.chain.ticket in
    let was = was_open old ds w.function x g.there s in
    let now : IsUnderWay old (d ∷ ds) (record x { function = asking b f }) = record {
      begun = begun_on old u d ds was.begun;
      chain = was.chain;
      kind = was.kind;
      among = λ k i. was.among k (among_drop k f.left i);
      visits = visits_on u was.begun.function.left (λ k. Among k f.left) (λ k. Among k (drop 1 f.left)) d ds
          (λ k p. elim (among_next k unit_index g.later f.left g.left p) [
            | inl e ↦ inr (inl (sym g.of, e))
            | inr q ↦ inl q
          ]) was.visits;
      waits = λ p told. elim told [
        | inl q ↦ absurd q
        | inr q ↦ elim (waits_on d ds f.waits p (s.marks u p q).1 (was.waits p q)) [
          | inl i ↦ inl (listed_push p (next_look f) f.waits i)
          | inr i ↦ inr i
        ]
      ];
      found = found_now u t unit_index rule b f.found ds (sym g.of) was.found;
      failed = told_same (IsFail u) d ds f.refused (λ q. q) was.failed;
      asks = λ q. asking_kind f.kind rule g.does;
      marks = was.marks;
    } in
    let there = subst (λ z. WasFetched z ds) g.of (open_fetched old ds x was) in
    record {
      function = now_open old (d ∷ ds) w.function (asking b) x g.there now;
      marks = placed_on d ds (λ v p q. q) s.marks;
      finds = λ v told. elim told [
        | inl q ↦ fetched_on v d ds (subst (λ z. WasFetched z ds) q.0 there)
        | inr q ↦ fetched_on v d ds (s.finds v q)
      ];
      fails = told_fetched_on IsFail d ds (λ v q. q) s.fails;
    }

listed_last : (p q : MarkAt) (ps : List MarkAt) → q ≡ p → Listed p (ps ++ q ∷ [])
listed_last p q [] e = inl e
listed_last p q (x ∷ ps) e = inr (listed_last p q ps e)

functions_mark : (old : PlainWorld) (t : Ticket) (p : MarkAt) (how : MarkBy) (jobs : List PlainJob) (ds : List Transition)
    (w : PlainWorld) → Says old ds w → Marks w t p how jobs → FunctionsSay old ds w.function
    → FunctionsSay old (Transition.Mark t p how jobs ∷ ds) (on_function (marking p) w.function)
functions_mark old t p how jobs ds w says m s =
    let d = Transition.Mark t p how jobs in
    let g = m.marking in
    let x = g.opened in
    let f = x.function in
    let u = x.chain.ticket in
    let was = was_open old ds w.function x g.there s in
    let told_steps = (says.units p.unit g.unit g.unit_there).0.steps in
    let here : p.place ≡ length (history_of p.unit ds) = m.before ∙ ap (λ (h : List Step). length h) told_steps in
    let own : length (history_of p.unit (d ∷ ds)) ≡ length (history_of p.unit ds) + 1 =
    ap (λ o. length (pushed o (history_of p.unit ds))) (at_own p.unit p.unit (step_by how) refl) ∙ (omega arith) in
    let now : IsUnderWay old (d ∷ ds) (record x { function = marking p f }) = record {
      begun = begun_on old u d ds was.begun;
      chain = was.chain;
      kind = was.kind;
      among = λ k i. was.among k (among_drop k f.left i);
      visits = visits_on u was.begun.function.left (λ k. Among k f.left) (λ k. Among k (drop 1 f.left)) d ds
          (λ k h. elim (among_next k p.unit g.later f.left g.left h) [
            | inl e ↦ inr (inl (sym g.of, e))
            | inr q ↦ inl q
          ]) was.visits;
      waits = λ q told. elim told [
        | inl e ↦ inl (listed_last q p f.waits e.1)
        | inr k ↦ elim (waits_on d ds f.waits q (s.marks u q k).1 (was.waits q k)) [
          | inl i ↦ inl (listed_push q p f.waits i)
          | inr i ↦ inr i
        ]
      ];
      found = told_same (IsFound u) d ds f.found (λ q. q) was.found;
      failed = told_same (IsFail u) d ds f.refused (λ q. q) was.failed;
      asks = was.asks;
      marks = was.marks;
    } in
    let there = subst (λ z. WasFetched z ds) g.of (open_fetched old ds x was) in
    record {
      function = now_open old (d ∷ ds) w.function (marking p) x g.there now;
      marks = λ v q told. elim told [
        | inl e ↦ (
          fetched_on v d ds (subst (λ z. WasFetched z ds) e.0 there),
          subst (λ (y : MarkAt). y.place < length (history_of y.unit (d ∷ ds))) e.1 (omega (arith, here, own)),
        )
        | inr k ↦
            let was_so = s.marks v q k in
            let lt = was_so.1 in
            let more = length_on (step_of q.unit d) (history_of q.unit ds) in
            (fetched_on v d ds was_so.0, omega (arith, lt, more))
      ];
      finds = told_fetched_on IsFound d ds (λ v q. q) s.finds;
      fails = told_fetched_on IsFail d ds (λ v q. q) s.fails;
    }

functions_fail : (old : PlainWorld) (t : Ticket) (ds : List Transition) (w : PlainWorld) → MarksRefused w t
    → FunctionsSay old ds w.function → FunctionsSay old (Transition.MarkRefused t ∷ ds) (on_function failing w.function)
functions_fail old t ds w m s =
    let d = Transition.MarkRefused t in
    let g = m.marking in
    let x = g.opened in
    let f = x.function in
    let u = x.chain.ticket in
    let was = was_open old ds w.function x g.there s in
    let now : IsUnderWay old (d ∷ ds) (record x { function = failing f }) = record {
      begun = begun_on old u d ds was.begun;
      chain = was.chain;
      kind = was.kind;
      among = λ k i. absurd i;
      visits = visits_on u was.begun.function.left (λ k. Among k f.left) (λ k. ⊥) d ds (λ k p. inr (inr (sym g.of)))
          was.visits;
      waits = λ p told. elim told [
        | inl q ↦ absurd q
        | inr q ↦ waits_on d ds f.waits p (s.marks u p q).1 (was.waits p q)
      ];
      found = told_same (IsFound u) d ds f.found (λ q. q) was.found;
      failed = (λ q. inl (sym g.of), λ q. refl);
      asks = was.asks;
      marks = λ q. marking_kind f.kind m.how g.does;
    } in
    let there = subst (λ z. WasFetched z ds) g.of (open_fetched old ds x was) in
    record {
      function = now_open old (d ∷ ds) w.function failing x g.there now;
      marks = placed_on d ds (λ v p q. q) s.marks;
      finds = told_fetched_on IsFound d ds (λ v q. q) s.finds;
      fails = λ v told. elim told [
        | inl q ↦ fetched_on v d ds (subst (λ z. WasFetched z ds) q there)
        | inr q ↦ fetched_on v d ds (s.fails v q)
      ];
    }

functions_check : (old : PlainWorld) (t : Ticket) (p : MarkAt) (ds : List Transition) (w : PlainWorld) → Says old ds w
    → Checks w t p → FunctionsSay old ds w.function
    → FunctionsSay old (Transition.Check t p ∷ ds) (on_function checking w.function)
functions_check old t p ds w says m s =
    let d = Transition.Check t p in
    let g = m.waiting in
    let x = g.opened in
    let f = x.function in
    let u = x.chain.ticket in
    let was = was_open old ds w.function x g.there s in
    let told_steps = (says.units p.unit m.unit m.there).0.steps in
    let clear : AreGone p.place (history_of p.unit ds) =
    subst (λ h. AreGone p.place h) told_steps (clear_gone p.place m.unit.steps m.clear) in
    let now : IsUnderWay old (d ∷ ds) (record x { function = checking f }) = record {
      begun = begun_on old u d ds was.begun;
      chain = was.chain;
      kind = was.kind;
      among = was.among;
      visits = visits_on u was.begun.function.left (λ k. Among k f.left) (λ k. Among k f.left) d ds (λ k q. inl q)
          was.visits;
      waits = λ q told. elim told [
        | inl e ↦ absurd e
        | inr k ↦ elim (was.waits q k) [
          | inl i ↦ elim (subst (Listed q) g.still i) [
            | inl e ↦ inr (subst (λ (y : MarkAt). AreGone y.place (history_of y.unit ds)) e clear)
            | inr later ↦ inl (subst (λ z. Listed q (drop 1 z)) (sym g.still) later)
          ]
          | inr gone ↦ inr gone
        ]
      ];
      found = told_same (IsFound u) d ds f.found (λ q. q) was.found;
      failed = told_same (IsFail u) d ds f.refused (λ q. q) was.failed;
      asks = was.asks;
      marks = was.marks;
    } in
    record {
      function = now_open old (d ∷ ds) w.function checking x g.there now;
      marks = placed_on d ds (λ v q e. e) s.marks;
      finds = told_fetched_on IsFound d ds (λ v q. q) s.finds;
      fails = told_fetched_on IsFail d ds (λ v q. q) s.fails;
    }

-- One transition

pub functions_transition : (old : PlainWorld) (d : Transition) (ds : List Transition) → Opens old → Leads old (d ∷ ds)
    → FunctionsSay old ds (world_of old ds).function
    → FunctionsSay old (d ∷ ds) (after d (world_of old ds)).function
functions_transition old (Transition.Open f g) ds o l s = functions_open old f g ds o l s
functions_transition old (Transition.Ask t unit_index rule b) ds o l s = functions_ask old t unit_index rule b ds (world_of old ds) l.1 s
functions_transition old (Transition.Mark t p m jobs) ds o l s =
    functions_mark old t p m jobs ds (world_of old ds) (says_at old ds o l.0) l.1 s
functions_transition old (Transition.MarkRefused t) ds o l s = functions_fail old t ds (world_of old ds) l.1 s
functions_transition old (Transition.Check t p) ds o l s =
    functions_check old t p ds (world_of old ds) (says_at old ds o l.0) l.1 s
functions_transition old (Transition.Respond c r xs) ds o l s =
    functions_end old (Transition.Respond c r xs) ds (world_of old ds).function (λ t p q. q) (λ t q. q) (λ t q. q) s
functions_transition old d ds o l s =
    functions_on old d ds (world_of old ds).function (λ t p q. q) (λ t q. q) (λ t q. q) s

pub functions_at : (old : PlainWorld) (ds : List Transition) → Opens old → Leads old ds
    → FunctionsSay old ds (world_of old ds).function
functions_at old [] o l =
    record {
      function = subst (FunctionSays old []) (sym o.function) tt;
      marks = λ t p told. absurd told;
      finds = λ t told. absurd told;
      fails = λ t told. absurd told;
    }
functions_at old (d ∷ ds) o l = functions_transition old d ds o l (functions_at old ds o l.0)
