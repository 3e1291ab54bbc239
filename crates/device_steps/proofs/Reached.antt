-- A device that was reached is so behind one step.
use Rattle.std.proofs.Common.{◌≡◌, ◌∙◌, ℕ, Bool, true, false, List, ◌∷◌, refl, sym, ap, subst, arith}
use Rattle.std.specs.Prelude.{map, slice_get, ◌≤◌}
use Rattle.unit_model.specs.Unit.{is_backed}
use Rattle.device_model.specs.World.{PlainWorld, Everywhere}
use Rattle.device_model.specs.Events.{Event}
use Rattle.device_model.specs.Transitions.{Transition, event_of}
use Rattle.device_model.specs.Lawful.{KeepsParts}
use Rattle.device_model.specs.Turns.{Turns, IsStep}
use Rattle.device_model.specs.Standing.{NoneIsBacked}
use Rattle.device_model.proofs.Staying.{transition_stays, run_keeps}
use Rattle.device_model.proofs.Turning.{step_of}
use Rattle.device_steps.specs.Sound.{AreFew, IsReached, IsWhole, size_of, lun_of}
use Rattle.device_steps.specs.Inner.Cursors.{StepsNext}
use Rattle.device_steps.specs.declared.cursor.Cursor.{Cursor}
use Rattle.device_steps.proofs.Keeping.{sizes_stay, luns_stay, kinds_stay}
use Rattle.device_steps.proofs.Setting.{each_image, map_get}

-- by a step
pub reached_by : (w : PlainWorld) (e : Event) (b : Bool) (w' : PlainWorld) → IsReached w → IsStep w e b w' → IsReached w'
reached_by w e b w' r s =
    record {
      old = r.old;
      trace = record { event = e; action = s.action } ∷ r.trace;
      reached = record { opens = r.reached.opens; runs = (w, r.reached.runs, s.step) };
    }

-- a turn leaves as many queues and seats
few_by : (w : PlainWorld) (e : Event) (b : Bool) (w' : PlainWorld) → AreFew w → Turns w e b w' → AreFew w'
few_by w e true w' f t =
    let k : KeepsParts w w' = subst (λ z. KeepsParts w z) (sym t.3) (transition_stays t.0 w) in
    record {
      several = omega (arith, k.queues, f.several);
      queues = omega (arith, k.queues, f.queues);
      seats = omega (arith, k.seats, f.seats);
      units = omega (arith, k.units, f.units);
      sizes = subst (λ z. Everywhere (λ i (n : ℕ). n ≤ 1024) (map size_of z.queues)) (sym t.3)
          (subst (λ ns. Everywhere (λ i (n : ℕ). n ≤ 1024) ns) (sym (sizes_stay t.0 w)) f.sizes);
      luns = subst (λ z. Everywhere (λ k (n : ℕ). n ≤ 16383) (map lun_of z.units)) (sym t.3)
          (subst (λ ns. Everywhere (λ k (n : ℕ). n ≤ 16383) ns) (sym (luns_stay t.0 w)) f.luns);
    }
few_by w e false w' f t = subst AreFew (sym t.0) f

-- by a turn
pub whole_by : (w : PlainWorld) (e : Event) (b : Bool) (w' : PlainWorld) → IsWhole w → Turns w e b w' → IsWhole w'
whole_by w e b w' h t =
    record { reached = reached_by w e b w' h.reached (step_of w e b w' t); few = few_by w e b w' h.few t }

-- by one event
pub whole_by_step : (asked : ℕ → Bool) (Q : Transition → Type 0) (w : PlainWorld) (c : Cursor) (w' : PlainWorld) → IsWhole w
    → StepsNext asked Q w c w' → IsWhole w'
whole_by_step asked Q w c w' h t = whole_by w (event_of t.0) true w' h (t.0, refl, t.1, t.3)

-- where no unit is backed, none was at the opening
pub none_was_backed : (w : PlainWorld) (r : IsReached w) → NoneIsBacked w → NoneIsBacked r.old
none_was_backed w r none i u at =
    let same : map is_backed w.units ≡ map is_backed r.old.units =
    run_keeps (λ (z : PlainWorld). map is_backed z.units ≡ map is_backed r.old.units) (λ d z m h. kinds_stay d z ∙ h) r.old r.trace w
    refl r.reached.runs in
    each_image is_backed (λ (b : Bool). b ≡ false) w.units (λ k v there. none k v there) i (is_backed u)
    (ap (λ (bs : List Bool). slice_get bs i) same ∙ map_get is_backed i r.old.units u at)
