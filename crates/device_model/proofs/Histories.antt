-- Each unit is a unit in every world that is reached.
use Rattle.std.proofs.Common.{◌≡◌, ℕ, List, [], filter, Some, sym, ◌∙◌, ap, subst}
use Rattle.std.specs.Prelude.{slice_get}
use Rattle.unit_model.specs.Steps.{Step, alive}
use Rattle.unit_model.specs.Enabling.{is_parked}
use Rattle.unit_model.specs.Lawful.{IsLawful}
use Rattle.unit_model.specs.Unit.{PlainUnit, tasks_of_jobs, after as stepped, parking, IsUnit, dealing}
use Rattle.task_mgmt.specs.Functions.{step_by}
use Rattle.task_mgmt.specs.declared.kind.MarkBy.{MarkBy}
use Rattle.task_mgmt.specs.declared.kind.MarkBy.TheVariants.{Abort, Reset}
use Rattle.device_model.specs.World.{PlainWorld, Opens, IsNewUnit, change, Everywhere}
use Rattle.device_model.specs.Transitions.{Transition}
use Rattle.device_model.specs.Event.Hard.{hard_code}
use Rattle.device_model.specs.After.{after}
use Rattle.device_model.specs.Happens.{MayHappen}
use Rattle.device_model.specs.Found.{MayStep}
use Rattle.device_model.specs.Lawful.{AreUnits}
use Rattle.device_model.proofs.Lists.{same}
use Rattle.device_model.proofs.Staying.{everywhere}
use Rattle.device_model.proofs.Holding.{IsFree, unit_goes, unit_parks}
use Rattle.unit_model.proofs.Failing.{commit_steps, withhold_steps}

abbrev All : List PlainUnit → Type 0
All us = Everywhere (λ i u. IsUnit u) us

-- one unit is changed, and stays one
one_changes : (g : PlainUnit → PlainUnit) (k : ℕ) (us : List PlainUnit) (u : PlainUnit) → slice_get us k ≡ Some u
    → (IsUnit u → IsUnit (g u)) → All us → All (change g k us)
one_changes g k us u at f h =
    everywhere (λ i v. IsUnit v) g k us (λ v there is.
    let now : u ≡ v = same (sym at ∙ there) in
    subst (λ z. IsUnit (g z)) now (f (subst IsUnit (sym now) is))) h

one_goes : (s : Step) (k : ℕ) (us : List PlainUnit) (u : PlainUnit) → slice_get us k ≡ Some u → MayStep u s
    → IsFree s u.steps → All us → All (change (stepped s) k us)
one_goes s k us u at may free h = one_changes (stepped s) k us u at (unit_goes s u may free) h

pub may_mark : (m : MarkBy) (u : PlainUnit) → MayStep u (step_by m)
may_mark (Abort rule) u = tt
may_mark (Reset c) u = tt

free_mark : (m : MarkBy) (u : PlainUnit) → IsFree (step_by m) u.steps
free_mark (Abort rule) u = tt
free_mark (Reset c) u = tt

-- no step, and no job
is_new : (u : PlainUnit) → u.steps ≡ [] → u.parked ≡ [] → IsUnit u
is_new u a b =
    record {
      lawful = subst (λ l. IsLawful u.opening l) (sym a) tt;
      holds =
          subst (λ l. tasks_of_jobs u.parked ≡ filter (is_parked l) (alive l)) (sym a) (ap tasks_of_jobs b);
    }

pub new_units : (w : PlainWorld) → Opens w → AreUnits w
new_units w o i u at =
    let n : IsNewUnit u = o.units i u at in
    is_new u n.steps n.parked

pub transition_units : (d : Transition) (w : PlainWorld) → MayHappen d w → AreUnits w → AreUnits (after d w)
transition_units (Transition.Run x) w m h =
    one_goes (Step.Enter x.entry) x.unit w.units m.comes.unit m.comes.unit_there m.may m.blocked h
transition_units (Transition.Park x) w m h =
    one_changes (parking x) x.unit w.units m.comes.unit m.comes.unit_there
    (unit_parks x m.comes.unit m.may m.blocked) h
transition_units (Transition.EnterFull x) w m h =
    one_goes (Step.Full x.entry.ticket) x.unit w.units m.comes.unit m.comes.unit_there m.may tt h
transition_units (Transition.Commit k x r) w m h =
    one_goes (Step.Commit x.entry.ticket r) x.unit w.units m.holds.unit m.holds.there
    (commit_steps m.holds.unit x.entry.ticket r m.may) tt h
transition_units (Transition.Withhold k x r) w m h =
    one_goes (Step.Commit x.entry.ticket r) x.unit w.units m.holds.unit m.holds.there
    (withhold_steps m.holds.unit x.entry.ticket r m.may) tt h
transition_units (Transition.CommitBusy k x) w m h =
    one_goes (Step.Busy x.entry.ticket) x.unit w.units m.holds.unit m.holds.there m.may tt h
transition_units (Transition.Leave k unit_index t jobs) w m h =
    one_goes (Step.Leave t) unit_index w.units m.holds.unit m.holds.there m.may tt h
transition_units (Transition.Mark t p s jobs) w m h =
    let u = m.marking.unit in
    one_goes (step_by s) p.unit w.units u m.marking.unit_there (may_mark s u) (free_mark s u) h
transition_units (Transition.Hard p jobs) w m h = one_goes (Step.Reset hard_code) p.unit w.units m.unit m.there tt tt h
transition_units (Transition.Resize unit_index blocks) w m h = one_goes (Step.Resize blocks) unit_index w.units m.unit m.there m.may tt h
transition_units (Transition.Deal unit_index x) w m h =
    one_changes (dealing x) unit_index w.units m.unit m.there (λ is. record { lawful = is.lawful; holds = is.holds }) h
transition_units d w m h = h
