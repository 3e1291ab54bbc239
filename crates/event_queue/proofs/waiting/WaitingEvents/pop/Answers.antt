use Rattle.std.proofs.Common.{List, sym, subst}
use Rattle.std.proofs.lemmas.List.Elements.{All-drop}
use Rattle.std.specs.List.{All}
use Rattle.scsi_codec.specs.declared.event_queue.Event.{Event}
use Rattle.event_queue.specs.Inner.Port.{HasAddress}
use Rattle.event_queue.proofs.waiting.WaitingEvents.pop.Goals as goal

pub invariant_of-self : goal.invariant_of-self
invariant_of-self c =
    subst (λ (es : List Event). All (λ (e : Event). HasAddress e) es) (sym c.pop_front-oldest.ensures.rest)
    (All-drop (λ (e : Event). HasAddress e) 1 c.self.inside.events.items c.self.invariant)
