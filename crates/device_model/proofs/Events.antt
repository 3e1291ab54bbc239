-- Buffers are given in the order in which they came.
use Rattle.std.specs.Prelude.{slice_get}
use Rattle.std.proofs.Common.{◌≡◌, Bool, true, false, Some, ◌||◌, ◌&&◌, List, [], ◌∷◌, ◌++◌, drop, refl, sym, ◌∙◌, ap}
use Rattle.std.proofs.lemmas.List.{append_assoc, append-nil}
use Rattle.ring_core.specs.State.{PlainChain}
use Rattle.scsi_codec.specs.declared.event_queue.Event.{Event as EventRecord}
use Rattle.scsi_codec.specs.EventQueue.{transport_reset, param_change}
use Rattle.unit_model.specs.Receipts.{unit_address}
use Rattle.unit_model.specs.Unit.{PlainUnit}
use Rattle.device_model.specs.Parts.{is_short}
use Rattle.device_model.specs.World.{PlainWorld, Opens}
use Rattle.device_model.specs.Transitions.{Transition}
use Rattle.device_model.specs.Event.Hard.{hard_report, reports_of}
use Rattle.device_model.specs.Event.Resize.{change_reports}
use Rattle.device_model.specs.After.{after}
use Rattle.device_model.specs.Happens.{MayHappen, Leads, world_of}
use Rattle.device_model.proofs.Staying.{tells_after}
use Rattle.device_model.specs.EventBuffers.{arrived_of, given_of, raised_of, reported_of, missed_of, AreEvents}
use Rattle.device_model.proofs.Traces.{leads_beginning}
use Rattle.device_model.proofs.Saying.{Says}
use Rattle.device_model.proofs.Knowing.{says_at}

abbrev InOrder : List Transition → PlainWorld → Type 0
InOrder ds w = given_of ds ++ w.buffers ≡ arrived_of ds

pushes : (g h a : List PlainChain) (c : PlainChain) → g ++ h ≡ a → g ++ (h ++ c ∷ []) ≡ a ++ c ∷ []
pushes g h a c e = sym (append_assoc g h (c ∷ [])) ∙ ap (λ z. z ++ c ∷ []) e

gives : (g h a : List PlainChain) (c : PlainChain) (more : List PlainChain) → h ≡ c ∷ more → g ++ h ≡ a
    → (g ++ c ∷ []) ++ drop 1 h ≡ a
gives g h a c more k e =
    ap (λ z. (g ++ c ∷ []) ++ drop 1 z) k ∙ append_assoc g (c ∷ []) more ∙ ap (λ z. g ++ z) (sym k) ∙ e

order_transition : (d : Transition) (ds : List Transition) (w : PlainWorld) → InOrder ds w → MayHappen d w → InOrder (d ∷ ds) (after d w)
order_transition (Transition.Hold f) ds w s h = pushes (given_of ds) w.buffers (arrived_of ds) f.chain s
order_transition (Transition.Give e c xs) ds w s h = gives (given_of ds) w.buffers (arrived_of ds) c h.more h.held s
order_transition d ds w s h = s

-- Reports

abbrev InTurn : PlainWorld → List Transition → PlainWorld → Type 0
InTurn old ds w = reported_of ds ++ w.waiting ≡ raised_of old ds

first_gone : (g h a : List EventRecord) (e : EventRecord) (more : List EventRecord) → h ≡ e ∷ more → g ++ h ≡ a
    → (g ++ e ∷ []) ++ drop 1 h ≡ a
first_gone g h a e more k is =
    ap (λ z. (g ++ e ∷ []) ++ drop 1 z) k ∙ append_assoc g (e ∷ []) more ∙ ap (λ z. g ++ z) (sym k) ∙ is

-- a unit's report is that of its opening
same_report : (u v : PlainUnit) → u.opening ≡ v.opening → hard_report u ∷ [] ≡ hard_report v ∷ []
same_report u v e =
    ap (λ o. record { event = transport_reset; address = Some (unit_address o); reason = 0 } ∷ []) e

same_change : (told : Bool) (u v : PlainUnit) → u.opening ≡ v.opening
    → change_reports told (Some u) ≡ change_reports told (Some v)
same_change false u v e = refl
same_change true u v e =
    ap (λ o. record { event = param_change; address = Some (unit_address o); reason = 0x092a } ∷ []) e

-- the driver is told as at the opening
tells_as : (old : PlainWorld) (ds : List Transition) → (world_of old ds).tells_changes ≡ old.tells_changes
tells_as old [] = refl
tells_as old (d ∷ ds) = tells_after d (world_of old ds) ∙ tells_as old ds

turn_transition : (old : PlainWorld) (d : Transition) (ds : List Transition) (w : PlainWorld) → Says old ds w
    → w.tells_changes ≡ old.tells_changes → InTurn old ds w → MayHappen d w → InTurn old (d ∷ ds) (after d w)
turn_transition old (Transition.Give e c xs) ds w says told_as s h =
    first_gone (reported_of ds) w.waiting (raised_of old ds) e h.later h.waits s
turn_transition old (Transition.Miss e) ds w says told_as s h =
    first_gone (reported_of ds) w.waiting (raised_of old ds) e h.later h.waits s
turn_transition old (Transition.Hard p jobs) ds w says told_as s h =
    let told = (says.units p.unit h.unit h.there).0 in
    let now = ap (λ u. reports_of u) h.there ∙ same_report h.unit told.opened told.opening
    ∙ ap (λ u. reports_of u) (sym told.there) in
    ap (λ z. reported_of ds ++ (w.waiting ++ z)) now
    ∙ sym (append_assoc (reported_of ds) w.waiting (reports_of (slice_get old.units p.unit)))
    ∙ ap (λ z. z ++ reports_of (slice_get old.units p.unit)) s
turn_transition old (Transition.Resize unit_index blocks) ds w says told_as s h =
    let told = (says.units unit_index h.unit h.there).0 in
    let tells = old.tells_changes in
    let now = ap (λ b. change_reports b (slice_get w.units unit_index)) told_as ∙ ap (λ u. change_reports tells u) h.there
    ∙ same_change tells h.unit told.opened told.opening ∙ ap (λ u. change_reports tells u) (sym told.there) in
    ap (λ z. reported_of ds ++ (w.waiting ++ z)) now
    ∙ sym (append_assoc (reported_of ds) w.waiting (change_reports tells (slice_get old.units unit_index)))
    ∙ ap (λ z. z ++ change_reports tells (slice_get old.units unit_index)) s
turn_transition old d ds w says told_as s h = s

in_turn : (old : PlainWorld) (ds : List Transition) → Opens old → Leads old ds → InTurn old ds (world_of old ds)
in_turn old [] o l = o.waiting
in_turn old (d ∷ ds) o l =
    turn_transition old d ds (world_of old ds) (says_at old ds o l.0) (tells_as old ds) (in_turn old ds o l.0) l.1

missed_transition : (d : Transition) (ds : List Transition) (w : PlainWorld) → w.missed ≡ missed_of ds
    → (after d w).missed ≡ missed_of (d ∷ ds)
missed_transition (Transition.UseBuffer f xs) ds w s = ap (λ m. m && is_short f.chain) s
missed_transition (Transition.Miss e) ds w s = refl
missed_transition d ds w s = s

in_order : (old : PlainWorld) (ds : List Transition) → Opens old → Leads old ds → InOrder ds (world_of old ds)
in_order old [] o l = o.buffers
in_order old (d ∷ ds) o l = order_transition d ds (world_of old ds) (in_order old ds o l.0) l.1

missed : (old : PlainWorld) (ds : List Transition) → Opens old → (world_of old ds).missed ≡ missed_of ds
missed old [] o = o.missed
missed old (d ∷ ds) o = missed_transition d ds (world_of old ds) (missed old ds o)

pub are_events : (old : PlainWorld) (ds : List Transition) → Opens old → Leads old ds → AreEvents old ds (world_of old ds)
are_events old ds o l =
    record {
      in_order = in_order old ds o l;
      reports = in_turn old ds o l;
      missed = missed old ds o;
      misses = λ e past b.
          let m = leads_beginning old (Transition.Miss e ∷ past) ds b l in
          sym (append-nil (given_of past)) ∙ ap (λ z. given_of past ++ z) (sym m.1.none) ∙ in_order old past o m.0;
      holds = λ f past b.
          let m = leads_beginning old (Transition.Hold f ∷ past) ds b l in
          ap (λ z. is_short f.chain || z) (sym (missed old past o)) ∙ m.1.decided;
      spends = λ f xs past b.
          let m = leads_beginning old (Transition.UseBuffer f xs ∷ past) ds b l in (
            ap (λ z. is_short f.chain || z) (sym (missed old past o)) ∙ m.1.decided,
            record { queue = m.1.finds.queue; there = m.1.finds.there; writes = m.1.writes },
          );
      gives = λ e c xs past b.
          let m = leads_beginning old (Transition.Give e c xs ∷ past) ds b l in
          record { queue = m.1.queue; there = m.1.there; writes = m.1.writes };
    }
