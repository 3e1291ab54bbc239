-- A turn is a step, and an event that applies changes something.
use Rattle.std.proofs.Common.{◌≡◌, Bool, true, false, refl}
use Rattle.device_model.specs.World.{PlainWorld}
use Rattle.device_model.specs.Events.{Event}
use Rattle.device_model.specs.Transitions.{Transition, action_of}
use Rattle.device_model.specs.Happens.{Happens, MayHappen}
use Rattle.device_model.specs.Turns.{Turns, IsStep}
use Rattle.device_model.proofs.Applying.{idles}

-- what happens may
pub may : (d : Transition) (w : PlainWorld) → Happens d w → MayHappen d w
may (Transition.Poke x) w h = h
may (Transition.Arrive f x) w h = h
may (Transition.Refuse f a) w h = h
may (Transition.Open f g) w h = h
may (Transition.Hold f) w h = h
may (Transition.UseBuffer f xs) w h = h
may (Transition.Break q n) w h = h
may (Transition.Run x) w h = h
may (Transition.Park x) w h = h
may (Transition.EnterFull x) w h = h
may (Transition.EnterBusy x) w h = h
may (Transition.EnterStale x) w h = absurd h
may (Transition.Direct c o xs) w h = h
may (Transition.Put k x) w h = h
may (Transition.Keep k x) w h = h
may (Transition.Take k from x) w h = h
may (Transition.Commit k x r) w h = h
may (Transition.CommitBusy k x) w h = h
may (Transition.CommitAborted k x why) w h = h
may (Transition.CommitUnknown k x) w h = absurd h
may (Transition.Defer k x) w h = h
may (Transition.Withhold k x r) w h = h
may (Transition.Conclude k x r) w h = h
may Transition.Wake w h = h
may (Transition.Resume k x) w h = h
may (Transition.Answer k x o xs) w h = h
may (Transition.Leave k unit_index t jobs) w h = h
may (Transition.Mark t p m jobs) w h = h
may (Transition.Ask t unit_index rule b) w h = h
may (Transition.MarkRefused t) w h = h
may (Transition.Check t p) w h = h
may (Transition.Respond c r xs) w h = h
may (Transition.Hard p jobs) w h = h
may (Transition.Resize unit_index blocks) w h = h
may (Transition.Deal unit_index x) w h = h
may (Transition.Give e c xs) w h = h
may (Transition.Miss e) w h = h
may (Transition.Idle e) w h = absurd h

-- what happens changes something
pub changes : (d : Transition) (w : PlainWorld) → Happens d w → (action_of d).changed ≡ true
changes (Transition.Idle e) w h = absurd h
changes (Transition.Poke x) w h = refl
changes (Transition.Arrive f x) w h = refl
changes (Transition.Refuse f a) w h = refl
changes (Transition.Open f g) w h = refl
changes (Transition.Hold f) w h = refl
changes (Transition.UseBuffer f xs) w h = refl
changes (Transition.Break q n) w h = refl
changes (Transition.Run x) w h = refl
changes (Transition.Park x) w h = refl
changes (Transition.EnterFull x) w h = refl
changes (Transition.EnterBusy x) w h = refl
changes (Transition.EnterStale x) w h = refl
changes (Transition.Direct c o xs) w h = refl
changes (Transition.Put k x) w h = refl
changes (Transition.Keep k x) w h = refl
changes (Transition.Take k from x) w h = refl
changes (Transition.Commit k x r) w h = refl
changes (Transition.CommitBusy k x) w h = refl
changes (Transition.CommitAborted k x why) w h = refl
changes (Transition.CommitUnknown k x) w h = refl
changes (Transition.Defer k x) w h = refl
changes (Transition.Withhold k x r) w h = refl
changes (Transition.Conclude k x r) w h = refl
changes Transition.Wake w h = refl
changes (Transition.Resume k x) w h = refl
changes (Transition.Answer k x o xs) w h = refl
changes (Transition.Leave k unit_index t jobs) w h = refl
changes (Transition.Mark t p m jobs) w h = refl
changes (Transition.Ask t unit_index rule b) w h = refl
changes (Transition.MarkRefused t) w h = refl
changes (Transition.Check t p) w h = refl
changes (Transition.Respond c r xs) w h = refl
changes (Transition.Hard p jobs) w h = refl
changes (Transition.Resize unit_index blocks) w h = refl
changes (Transition.Deal unit_index x) w h = refl
changes (Transition.Give e c xs) w h = refl
changes (Transition.Miss e) w h = refl

pub step_of : (w : PlainWorld) (e : Event) (changed : Bool) (w' : PlainWorld) → Turns w e changed w' → IsStep w e changed w'
step_of w e true w' t =
    record {
      action = action_of t.0;
      step = record { transition = t.0; event = t.1; action = refl; may = may t.0 w t.2; is = t.3 };
      told = changes t.0 w t.2;
    }
step_of w e false w' t =
    record {
      action = action_of (Transition.Idle e);
      step = record { transition = Transition.Idle e; event = refl; action = refl; may = idles w e t.1; is = t.0 };
      told = refl;
    }
