use Rattle.std.proofs.Common.{◌≡◌, None, Option, sym, ap, ◌∙◌, is_some, arith}
use Rattle.ring_core.specs.State.{RingState, features_of}
use Rattle.ring_core.specs.declared.fault.RingFault.{RingFault}
use Rattle.virtqueue.specs.AnyRing.{ring_state}
use Rattle.virtqueue.proofs.Opening.{opens_whole, opens_numbered}
use Rattle.virtqueue.proofs.queue.Queue.new.Goals as goal

pub invariant_of-result : goal.invariant_of-result
invariant_of-result g c =
    let form = c.args.form in
    let number = c.args.number in
    let layout = c.args.layout in
    let features = features_of c.args.features in
    let whole : (ring_state c.in_ok-ring.ring).broken ≡ None =
    ap (λ (s : RingState). s.broken) c.in_ok-ring.ensures ∙ opens_whole form _ number layout features in
    let numbered : (ring_state c.in_ok-ring.ring).queue ≡ number =
    ap (λ (s : RingState). s.queue) c.in_ok-ring.ensures ∙ opens_numbered form _ number layout features in
    (sym numbered, sym (ap (λ (o : Option RingFault). is_some o) whole), omega arith)
