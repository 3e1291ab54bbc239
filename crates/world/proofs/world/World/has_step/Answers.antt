use Rattle.std.proofs.Common.{List, ℕ, ◌∙◌, false, length, sym, subst}
use Rattle.device_model.specs.Order.{IsQuietOf}
use Rattle.device_steps.specs.Apart.{standing, FitsIn}
use Rattle.device_steps.specs.Inner.Cursors.{Denies}
use Rattle.device_steps.specs.Settling.{asks}
use Rattle.device_steps.proofs.InMemory.{has_few}
use Rattle.world.proofs.world.World.has_step.Goals as goal

pub has_step-has-requires : goal.has_step-has-requires
has_step-has-requires c =
    record {
      reading = tt;
      room = tt;
      few = has_few false c.self.inside.memory c.self.inside.device c.self.invariant.whole.few;
      fits = subst (λ (m : List ℕ). FitsIn (length m) c.self.inside.device) (sym c.of-still.ensures) c.self.invariant.fits;
    }

pub returns : goal.returns
returns c =
    let some = c.size-bytes.ensures.some in
    let f = c.has_step-has.ensures.denies some.0 some.1 in
    rw (← c.self.view_is)
    (subst (λ m. Denies (IsQuietOf (asks c.args.queues) (standing false m c.self.inside.device)) c.has_step-has.result)
    (f.0 ∙ c.of-still.ensures) f.1)
