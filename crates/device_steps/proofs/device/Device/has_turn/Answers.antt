use Rattle.std.proofs.Common.{◌≡◌, sym, ap, ◌∙◌, length, arith}
use Rattle.std.proofs.lemmas.List.{length-map}
use Rattle.device_model.specs.Order.{of_seat, NoneApplies}
use Rattle.device_steps.specs.Apart.{PlainDevice, standing}
use Rattle.device_steps.specs.Kept.{seat_of}
use Rattle.device_steps.proofs.Choosing.{and_next}
use Rattle.device_steps.proofs.Looks.{denied_by, told}
use Rattle.device_steps.proofs.device.Device.has_turn.Goals as goal

pub loop-number-init : goal.loop-number-init
loop-number-init c =
    let d = c.self.inside in
    let end : c.len-number-end.result ≡ length d.seats.items = omega (arith, d.seats.ok.0, c.len-number-end.ensures) in
    record {
      below = λ shared m k lt. absurd (omega (arith, lt));
      all = end ∙ sym (length-map d.seats.items seat_of) ∙ ap (λ (z : PlainDevice). length z.seats) c.self.view_is;
    }

pub returns-then-seat_goes_on : goal.returns-then-seat_goes_on
returns-then-seat_goes_on c shared m =
    let n = c.loop-number.number in
    λ none.
    denied_by (NoneApplies (standing shared m c.args.self.now) (of_seat n)) c.seat_goes_on.result c.if-seat_goes_on.true
    (c.seat_goes_on.ensures shared m) (none n (omega (arith, c.loop-number-test.true, c.loop-number.invariant.all)))

pub loop-number-preserved : goal.loop-number-preserved
loop-number-preserved c =
    let n = c.loop-number.number in
    record {
      below = λ shared m.
          let w = standing shared m c.args.self.now in
          and_next (λ k. NoneApplies w (of_seat k)) n (c.loop-number.invariant.below shared m)
          (told (NoneApplies w (of_seat n)) c.seat_goes_on.result c.if-seat_goes_on.false
          (c.seat_goes_on.ensures shared m));
      all = c.loop-number.invariant.all;
    }

pub returns : goal.returns
returns c shared m k lt =
    c.loop-number.invariant.below shared m k (omega (arith, lt, c.loop-number-test.false, c.loop-number.invariant.all))
