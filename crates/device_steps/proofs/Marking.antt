-- The open function marks its next unit, or looks at it.
use Rattle.std.proofs.Common.{◌≡◌, ◌+◌, ◌*◌, ℕ, Bool, true, false, List, [], ◌∷◌, length, Option, Some, refl, sym, ap, ◌∙◌, subst, inl, inr}
use Rattle.std.specs.Prelude.{slice_get, slice_set, map}
use Rattle.request_intake.specs.Inventory.{PlainInventory}
use Rattle.unit_model.specs.Steps.{alive}
use Rattle.unit_model.specs.Seen.{any_met}
use Rattle.unit_model.specs.Jobs.{PlainJob, Jobs}
use Rattle.unit_model.specs.Unit.{PlainUnit, after as stepped}
use Rattle.task_mgmt.specs.Functions.{PlainFunction, marking, asking, failing, step_by}
use Rattle.task_mgmt.specs.declared.kind.Kind.{Kind}
use Rattle.task_mgmt.specs.declared.kind.Kind.TheVariants.{Marking, Querying}
use Rattle.device_model.specs.World.{Seat, Opened, PlainWorld, change, AreAddressed}
use Rattle.device_model.specs.Events.{Event}
use Rattle.device_model.specs.Transitions.{Transition}
use Rattle.device_model.specs.Changing.{on_function, with_jobs}
use Rattle.device_model.specs.Found.{handed_out}
use Rattle.device_model.specs.Event.Mark.{IsMarking}
use Rattle.device_model.specs.Event.Wake.{after_wake}
use Rattle.device_model.specs.Phases.{VisitsNext as IsToVisit}
use Rattle.device_model.specs.Standing.{HaveRoom}
use Rattle.device_model.specs.Turns.{Turns}
use Rattle.device_model.proofs.Lists.{same, nothing}
use Rattle.device_model.proofs.Joining.{joins}
use Rattle.phases.specs.DoingUnit.{HasPlaces, with_more}
use Rattle.phases.specs.Units.{mark_at}
use Rattle.phases.specs.Inner.Units.{VisitsUnit, VisitsNext}
use Rattle.phases.specs.declared.marking.Visited.{Visited}
use Rattle.phases.specs.declared.marking.Visited.TheVariants as visited
use Rattle.device_steps.specs.Kept.{KeptSeat, seat_of}
use Rattle.device_steps.proofs.Setting.{list_of, listing, unit_change, unit_still, seat_there, seat_more, seat_still, has_places}

-- the list keeps its limit
limit_of_kind : (inventory : PlainInventory) (f : Opened) (unit_index : ℕ) (kind : Kind) (u : PlainUnit) (out : Jobs) (x : Visited)
    (v : PlainUnit) (g : Opened) (out' : Jobs) → VisitsUnit inventory f unit_index kind u out x v g out' → out'.limit ≡ out.limit
limit_of_kind inventory f unit_index (Marking m) u out visited.Marked v g out' h = ap (λ (j : Jobs). j.limit) h.3
limit_of_kind inventory f unit_index (Marking m) u out visited.Other v g out' h = ap (λ (j : Jobs). j.limit) h.jobs
limit_of_kind inventory f unit_index (Marking m) u out visited.Nothing v g out' h = absurd h
limit_of_kind inventory f unit_index (Querying rule) u out visited.Other v g out' (inl h) = ap (λ (j : Jobs). j.limit) h.3
limit_of_kind inventory f unit_index (Querying rule) u out visited.Other v g out' (inr h) = ap (λ (j : Jobs). j.limit) h.1.jobs
limit_of_kind inventory f unit_index (Querying rule) u out visited.Marked v g out' h = absurd h
limit_of_kind inventory f unit_index (Querying rule) u out visited.Nothing v g out' h = absurd h

pub limit_stays : (inventory : PlainInventory) (f : Opened) (left : List ℕ) (u : PlainUnit) (out : Jobs) (x : Visited)
    (v : PlainUnit) (g : Opened) (out' : Jobs) → VisitsNext inventory f left u out x v g out' → out'.limit ≡ out.limit
limit_stays inventory f (unit_index ∷ later) u out visited.Nothing v g out' h = ap (λ (j : Jobs). j.limit) h.1.jobs
limit_stays inventory f (unit_index ∷ later) u out visited.Marked v g out' h =
    limit_of_kind inventory f unit_index f.function.kind u out visited.Marked v g out' h
limit_stays inventory f (unit_index ∷ later) u out visited.Other v g out' h =
    limit_of_kind inventory f unit_index f.function.kind u out visited.Other v g out' h
limit_stays inventory f [] u out visited.Nothing v g out' h = ap (λ (j : Jobs). j.limit) h.jobs
limit_stays inventory f [] u out visited.Marked v g out' h = absurd h
limit_stays inventory f [] u out visited.Other v g out' h = absurd h

-- three parts of the device
abbrev parts : PlainWorld → List PlainUnit → List Seat → Option Opened → PlainWorld
parts w units seats function = record w { units = units; seats = seats; function = function }

parts_are : (w : PlainWorld) (a a' : List PlainUnit) (b b' : List Seat) (c c' : Option Opened) → a ≡ a' → b ≡ b'
    → c ≡ c' → parts w a b c ≡ parts w a' b' c'
parts_are w a a' b b' c c' x y z = ap (λ l. parts w l b c) x ∙ ap (λ l. parts w a' l c) y ∙ ap (λ l. parts w a' b' l) z

-- the device afterwards
abbrev pub marked_in : PlainWorld → List KeptSeat → ℕ → PlainUnit → ℕ → KeptSeat → Opened → PlainWorld
marked_in w kept p v n t g = parts w (slice_set w.units p v) (map seat_of (slice_set kept n t)) (Some g)

module _ (w : PlainWorld) (kept : List KeptSeat) (are : w.seats ≡ map seat_of kept) (f : Opened)
    (addressed : AreAddressed w) (there : w.function ≡ Some f) (p : ℕ) (later : List ℕ) (left : f.function.left ≡ p ∷ later) (u : PlainUnit)
    (u_at : slice_get w.units p ≡ Some u) (s : KeptSeat) (s_at : slice_get kept 0 ≡ Some s)
    (v : PlainUnit) (g : Opened) (out : Jobs) where
  visits_next : (kind : Kind) → f.function.kind ≡ kind → IsToVisit w f.chain.ticket p kind
  visits_next kind is = record { opened = f; there = there; of = refl; does = is; later = later; left = left }

  is_marking : (kind : Kind) → f.function.kind ≡ kind → IsMarking w f.chain.ticket p kind
  is_marking kind is =
      record {
        opened = f;
        there = there;
        of = refl;
        does = is;
        later = later;
        left = left;
        unit = u;
        unit_there = u_at;
      }

  -- the function afterwards
  function_to : (h : PlainFunction → PlainFunction) → g ≡ record f { function = h f.function }
      → Some g ≡ on_function h w.function
  function_to h is = ap (λ (o : Opened). Some o) is ∙ ap (λ (o : Option Opened). on_function h o) (sym there)

  more : (xs : List PlainJob) → out ≡ with_more xs (list_of s)
      → map seat_of (slice_set kept 0 (listing out s)) ≡ change (with_jobs xs) 0 w.seats
  more xs is = seat_more w.seats kept are 0 s s_at out xs is

  still : out ≡ list_of s → map seat_of (slice_set kept 0 (listing out s)) ≡ w.seats
  still is = seat_still w.seats kept are 0 s s_at out is

  -- tasks are marked, and the jobs that wait are to be tried again
  marks_tasks : (kind : Kind) → f.function.kind ≡ kind
      → VisitsUnit w.inventory f p kind u (list_of s) visited.Marked v g out
      → Turns w Event.Mark true (after_wake (marked_in w kept p v 0 (listing out s) g))
  marks_tasks (Marking m) is h = (
    Transition.Mark f.chain.ticket (mark_at p u) m (handed_out u (step_by m)),
    refl,
    joins (Transition.Mark f.chain.ticket (mark_at p u) m (handed_out u (step_by m))) w
        (visits_next (Marking m) is, (seat_of s, seat_there w.seats kept are 0 s s_at out)) (u, u_at, h.1.asks) tt,
    ap after_wake (parts_are w _ _ _ _ _ _ (unit_change (stepped (step_by m)) w.units p u v u_at h.1.is)
        (more (handed_out u (step_by m)) h.3) (function_to (marking (mark_at p u)) h.2)),
  )
  marks_tasks (Querying rule) is h = absurd h

  -- or a unit is looked at, or the function fails
  looks : (kind : Kind) → f.function.kind ≡ kind → VisitsUnit w.inventory f p kind u (list_of s) visited.Other v g out
      → Turns w Event.Mark true (marked_in w kept p v 0 (listing out s) g)
  looks (Marking m) is h = (
    Transition.MarkRefused f.chain.ticket,
    refl,
    record { how = m; unit_index = p; marking = is_marking (Marking m) is },
    parts_are w _ _ _ _ _ _ (unit_still w.units p u v u_at h.unit) (still h.jobs) (function_to failing h.function),
  )
  looks (Querying rule) is (inr h) = absurd (h.0 (addressed p u u_at))
  looks (Querying rule) is (inl h) = (
    Transition.Ask f.chain.ticket p rule (any_met rule (alive u.steps)),
    refl,
    joins (Transition.Ask f.chain.ticket p rule (any_met rule (alive u.steps))) w (visits_next (Querying rule) is)
        (u, u_at, h.1.asks) tt,
    parts_are w _ _ _ _ _ _ (unit_still w.units p u v u_at h.1.is) (still h.3)
        (function_to (asking (any_met rule (alive u.steps))) h.2),
  )

-- whether something changed, and the device afterwards, where a mark has the jobs that wait tried again
abbrev pub is_visit : Visited → Bool
is_visit visited.Nothing = false
is_visit visited.Marked = true
is_visit visited.Other = true

abbrev pub visited_in : Visited → PlainWorld → PlainWorld
visited_in visited.Nothing w = w
visited_in visited.Marked w = after_wake w
visited_in visited.Other w = w

-- a visit's turn, where the function goes on at the index that was found
visits_at : (w : PlainWorld) (kept : List KeptSeat) → w.seats ≡ map seat_of kept → AreAddressed w
    → (f : Opened) → w.function ≡ Some f → (p : ℕ) (u : PlainUnit) (s : KeptSeat) → slice_get w.units p ≡ Some u
    → slice_get kept 0 ≡ Some s → (v : PlainUnit) (g : Opened) (out : Jobs) (later : List ℕ) → f.function.left ≡ p ∷ later
    → HasPlaces (list_of s) → (x : Visited) → VisitsNext w.inventory f (p ∷ later) u (list_of s) x v g out
    → Turns w Event.Mark (is_visit x) (visited_in x (marked_in w kept p v 0 (listing out s) g))
visits_at w kept are addressed f there p u s u_at s_at v g out later is places visited.Nothing h = absurd (h.0 places)
visits_at w kept are addressed f there p u s u_at s_at v g out later is places visited.Marked h =
    marks_tasks w kept are f addressed there p later is u u_at s s_at v g out f.function.kind refl h
visits_at w kept are addressed f there p u s u_at s_at v g out later is places visited.Other h =
    looks w kept are f addressed there p later is u u_at s s_at v g out f.function.kind refl h

-- what a visit does is the event's turn
pub visits : (w : PlainWorld) (kept : List KeptSeat) → w.seats ≡ map seat_of kept → HaveRoom w → AreAddressed w
    → ((k : ℕ) (z : KeptSeat) → slice_get kept k ≡ Some z → z.limit ≡ 64 * length w.units + 64)
    → (f : Opened) → w.function ≡ Some f → (p : ℕ) (u : PlainUnit) (s : KeptSeat) → slice_get w.units p ≡ Some u
    → slice_get kept 0 ≡ Some s → (v : PlainUnit) (g : Opened) (out : Jobs) (left : List ℕ) → f.function.left ≡ left
    → slice_get left 0 ≡ Some p → (x : Visited) → VisitsNext w.inventory f left u (list_of s) x v g out
    → Turns w Event.Mark (is_visit x) (visited_in x (marked_in w kept p v 0 (listing out s) g))
visits w kept are room addressed limits f there p u s u_at s_at v g out [] is first x h = absurd (nothing first)
visits w kept are room addressed limits f there p u s u_at s_at v g out (unit_index ∷ later) is first x h =
    subst
    (λ k. slice_get w.units k ≡ Some u → Turns w Event.Mark (is_visit x) (visited_in x (marked_in w kept k v 0 (listing out s) g)))
    (same first)
    (λ at. visits_at w kept are addressed f there unit_index u s at s_at v g out later is (has_places w kept 0 s are room limits s_at) x h)
    u_at
