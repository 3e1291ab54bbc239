use Rattle.std.proofs.Common.{◌≡◌, ◌∷◌, ◌++◌, [], refl, arith, length-append}
use Rattle.device_model.specs.Parts.{Hand}
use Rattle.device_steps.specs.Kept.{KeptSeat}
use Rattle.device_steps.proofs.Making.{everywhere_more}
use Rattle.device_steps.proofs.opening.open_seats.Goals as goal

pub loop-number-preserved : goal.loop-number-preserved
loop-number-preserved c =
    let pushed : c.push.new.self.items ≡ c.loop-number.seats.items ++ c.new.result ∷ [] =
    rw (c.push.ensures.items, c.if-is_err.ensures.negation) refl in
    record {
      count =
          rw pushed
          (omega (arith, length-append c.loop-number.seats.items (c.new.result ∷ []), c.loop-number.invariant.count));
      each =
          rw pushed
          (everywhere_more (λ (s : KeptSeat). s ≡ record { hand = Hand.Empty; jobs = []; limit = c.args.limit })
          c.loop-number.seats.items c.new.result c.loop-number.invariant.each
          (rw (c.new.ensures, c.in_ok-out.ensures) refl));
    }
