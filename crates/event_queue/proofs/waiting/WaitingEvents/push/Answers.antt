use Rattle.std.proofs.Common.{List, is_ok, sym, subst}
use Rattle.std.specs.List.{All}
use Rattle.scsi_codec.specs.declared.event_queue.Event.{Event}
use Rattle.event_queue.specs.Inner.Port.{HasAddress}
use Rattle.event_queue.proofs.Fitting.{all_put}
use Rattle.event_queue.proofs.waiting.WaitingEvents.push.Goals as goal

pub invariant_of-self : goal.invariant_of-self
invariant_of-self c =
    subst (λ (es : List Event). All (λ (e : Event). HasAddress e) es) (sym c.push_back.ensures.items)
    (all_put (λ (e : Event). HasAddress e) (is_ok c.push_back.result) c.self.inside.events.items c.args.event
    c.self.invariant c.requires)
