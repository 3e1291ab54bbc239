use Rattle.std.proofs.Common.{List, sym, subst, ◌-◌}
use Rattle.std.proofs.lemmas.List.Elements.{All-take}
use Rattle.std.specs.List.{All}
use Rattle.std.specs.VecDeque.{deque_len}
use Rattle.scsi_codec.specs.declared.event_queue.Event.{Event}
use Rattle.event_queue.specs.Inner.Port.{HasAddress}
use Rattle.event_queue.proofs.waiting.WaitingEvents.withdraw.Goals as goal

pub invariant_of-self : goal.invariant_of-self
invariant_of-self c =
    subst (λ (es : List Event). All (λ (e : Event). HasAddress e) es) (sym c.pop_back-newest.ensures.rest)
    (All-take (λ (e : Event). HasAddress e) (deque_len c.self.inside.events - 1) c.self.inside.events.items
    c.self.invariant)
