-- Each task enters once, as what was decided of its Fetch.
use Rattle.std.proofs.Common.{ℕ, List, ◌∷◌, subst, arith}
use Rattle.unit_model.specs.Tasks.{Entry}
use Rattle.unit_model.specs.Steps.{Step}
use Rattle.device_model.specs.Parts.{PlainFetch}
use Rattle.device_model.specs.World.{PlainWorld, Opens}
use Rattle.device_model.specs.Transitions.{Transition}
use Rattle.device_model.specs.Happens.{MayHappen, world_of, Leads}
use Rattle.device_model.specs.Event.Fetch.{Finds}
use Rattle.device_model.specs.Places.{only}
use Rattle.device_model.specs.Happened.{IsFetch}
use Rattle.device_model.specs.Inner.Happened.{IsEnter}
use Rattle.device_model.specs.Histories.{history_of, Stands}
use Rattle.device_model.specs.Entering.{IsEntered, AreEntered}
use Rattle.device_model.proofs.Traces.{leads_beginning, told_there}
use Rattle.device_model.proofs.Steps.{done_at, enter_of}
use Rattle.device_model.proofs.Knowing.{entered_sent}
use Rattle.device_model.proofs.Counts.{flows_at, few_at}

as_fetched : (old : PlainWorld) (ds : List Transition) (unit_index : ℕ) (e : Entry) → Opens old → Leads old ds
    → Stands (Step.Enter e) (history_of unit_index ds) → IsEntered old.inventory ds unit_index e
as_fetched old ds unit_index e o l h =
    let q = done_at unit_index (Step.Enter e) ds h in
    let x = enter_of q.0 unit_index e q.3 in
    let told = told_there (IsEnter x.0) q.0 q.1 ds q.2 x.3 in
    record { job = x.0; unit = x.1; entry = x.2; sent = entered_sent old ds x.0 o l told }

-- a Fetch takes what its queue offers
finds : (d : Transition) (f : PlainFetch) (w : PlainWorld) → IsFetch f d → MayHappen d w → Finds w f
finds (Transition.Arrive g x) f w e m = subst (Finds w) e m.finds
finds (Transition.Refuse g a) f w e m = subst (Finds w) e m.finds
finds (Transition.Open g k) f w e m = subst (Finds w) e m.finds
finds (Transition.Hold g) f w e m = subst (Finds w) e m.finds
finds (Transition.UseBuffer g xs) f w e m = subst (Finds w) e m.finds
finds d f w e m = absurd e

pub are_entered : (old : PlainWorld) (ds : List Transition) → Opens old → Leads old ds → AreEntered old ds (world_of old ds)
are_entered old ds o l =
    let f = flows_at old ds o l in
    record {
      accepted = f.accepted;
      fetched = f.once;
      taken = λ g d past b e. finds d g (world_of old past) e (leads_beginning old (d ∷ past) ds b l).1;
      entered_once = λ t.
          let n = few_at old ds t o l in
          let a = n.entered in
          let b = n.fetched in
          let c = f.entered (only t) in
          omega (arith, a, b, c);
      as_fetched = λ unit_index e h. as_fetched old ds unit_index e o l h;
    }
