use Rattle.shared_trace.proofs.Events.{past_trans}
use Rattle.shared_trace.proofs.mark.Mark.learn.Goals as goal

pub invariant_of-self : goal.invariant_of-self
invariant_of-self g c =
    let now = c.self.inside in (
      c.self.invariant.0,
      c.self.invariant.1,
      past_trans now.own now.known c.learn.new.self c.self.invariant.2
          c.learn.ensures.this,
    )
