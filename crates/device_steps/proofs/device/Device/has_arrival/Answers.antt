use Rattle.std.proofs.Common.{◌≡◌, Some, sym, ap, ◌∙◌, length, arith}
use Rattle.std.specs.Prelude.{slice_get}
use Rattle.device_model.specs.Events.{Event}
use Rattle.device_model.specs.Applies.{Applies}
use Rattle.device_steps.specs.Apart.{PlainDevice, standing}
use Rattle.device_steps.proofs.Choosing.{and_next}
use Rattle.device_steps.proofs.Looks.{arrived_there, no_arrived, queue_read}
use Rattle.device_steps.proofs.device.Device.has_arrival.Goals as goal

pub loop-number-init : goal.loop-number-init
loop-number-init c =
    let d = c.self.inside in
    let end : c.len-number-end.result ≡ length d.bays.items = omega (arith, d.bays.ok.0, c.len-number-end.ensures) in
    record {
      below = λ shared m i lt. absurd (omega (arith, lt));
      all = end ∙ ap (λ (z : PlainDevice). length z.queues) c.self.view_is;
    }

pub returns-then-has_request : goal.returns-then-has_request
returns-then-has_request c shared m =
    let d = c.self.inside in
    let w = standing shared m c.args.self.now in
    let n = c.loop-number.number in
    let at : slice_get w.queues n ≡ Some c.index.result.now =
    queue_read w d.bays.items d.bays.len n c.index.result.now (ap (λ (z : PlainDevice). z.queues) (sym c.self.view_is))
    d.bays.ok.0 (omega (arith, c.loop-number-test.true, c.loop-number.invariant.all)) c.index.ensures in
    let applies = arrived_there w n c.index.result.now at (sym c.has_request.ensures ∙ c.if-has_request.true) in
    λ none. none n (omega (arith, c.loop-number-test.true, c.loop-number.invariant.all)) applies

pub loop-number-preserved : goal.loop-number-preserved
loop-number-preserved c =
    let d = c.self.inside in
    let n = c.loop-number.number in
    record {
      below = λ shared m.
          let w = standing shared m c.args.self.now in
          let at : slice_get w.queues n ≡ Some c.index.result.now =
          queue_read w d.bays.items d.bays.len n c.index.result.now (ap (λ (z : PlainDevice). z.queues) (sym c.self.view_is))
          d.bays.ok.0 (omega (arith, c.loop-number-test.true, c.loop-number.invariant.all)) c.index.ensures in
          and_next (λ i. Applies w (Event.Enter i) → ⊥) n (c.loop-number.invariant.below shared m)
          (no_arrived w n c.index.result.now at (sym c.has_request.ensures ∙ c.if-has_request.false));
      all = c.loop-number.invariant.all;
    }

pub returns : goal.returns
returns c shared m i lt =
    c.loop-number.invariant.below shared m i (omega (arith, lt, c.loop-number-test.false, c.loop-number.invariant.all))
