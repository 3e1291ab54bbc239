use Rattle.std.proofs.Common.{◌≡◌, Some, ap, sym, subst, length, arith}
use Rattle.std.specs.Prelude.{slice_get}
use Rattle.std.proofs.lemmas.Option.{slice_get_within}
use Rattle.phases.specs.Slots.{slot_of}
use Rattle.phases.specs.Queue.{with_slot}
use Rattle.device_steps.specs.Apart.{PlainDevice, standing}
use Rattle.device_steps.proofs.Seats.{found}
use Rattle.device_steps.proofs.Looks.{no_chain}
use Rattle.device_steps.proofs.device.Device.is_idle_in.Goals as goal

pub is_idle_in-requires-clause-fits : goal.is_idle_in-requires-clause-fits
is_idle_in-requires-clause-fits g c =
    let d = c.self.inside in
    let k = c.args.number in
    let many : c.len.result ≡ length d.bays.items = omega (arith, d.bays.ok.0, c.len.ensures) in
    let q = with_slot (slot_of c.behind-self.inside.slot) c.behind-self.inside.queue in
    let at : slice_get d.bays.items k ≡ Some q =
    found d.bays.items c.len.result k q c.index.result.now many c.if-at-len.false c.index.ensures c.behind-self.view_is in
    let there : slice_get c.args.self.now.queues k ≡ Some q =
    subst (λ (z : PlainDevice). slice_get z.queues k ≡ Some q) c.self.view_is at in
    sym (c.requires.fits k q there)

pub returns-then-at-len-clause-idle : goal.returns-then-at-len-clause-idle
returns-then-at-len-clause-idle g c m may far may_fetch =
    let d = c.self.inside in
    let same : length d.bays.items ≡ length c.args.self.now.queues =
    ap (λ (z : PlainDevice). length z.queues) c.self.view_is in
    omega (
      arith,
      slice_get_within c.args.self.now.queues c.args.number may_fetch.queue may_fetch.there,
      same,
      c.len.ensures,
      d.bays.ok.0,
      c.if-at-len.true,
    )

pub returns-else-at-len-clause-idle : goal.returns-else-at-len-clause-idle
returns-else-at-len-clause-idle g c m may idle =
    let d = c.self.inside in
    let k = c.args.number in
    let many : c.len.result ≡ length d.bays.items = omega (arith, d.bays.ok.0, c.len.ensures) in
    let q = with_slot (slot_of c.behind-self.inside.slot) c.behind-self.inside.queue in
    let at : slice_get d.bays.items k ≡ Some q =
    found d.bays.items c.len.result k q c.index.result.now many c.if-at-len.false c.index.ensures c.behind-self.view_is in
    let there : slice_get c.args.self.now.queues k ≡ Some q =
    subst (λ (z : PlainDevice). slice_get z.queues k ≡ Some q) c.self.view_is at in
    no_chain (standing g.M.Memory.shared m c.args.self.now) k q there
    (λ p. p.1 ((c.is_idle_in.ensures.idle m may).0 idle))
