use Rattle.std.proofs.Common.{◌≡◌, ◌<◌, false, [], refl, sym, ◌∙◌, subst, length, Some}
use Rattle.std.specs.Prelude.{slice_get}
use Rattle.device_steps.specs.Apart.{PlainDevice, standing, FitsIn}
use Rattle.device_model.specs.Event.Fetch.{IsOpenTo}
use Rattle.device_steps.specs.Settling.{asks}
use Rattle.device_steps.specs.contracts.device.Device.{the_view}
use Rattle.device_steps.proofs.Looks.{false_true, chain_look, queue_read}
use Rattle.device_steps.proofs.device.Device.queue_goes_on.Goals as goal

pub returns-then-not-is_asked-clause-denies : goal.returns-then-not-is_asked-clause-denies
returns-then-not-is_asked-clause-denies g c = λ m may. (may, λ on applies. false_true (c.if-not-is_asked.ensures ∙ on))

pub returns-then-is_closed_to-clause-denies : goal.returns-then-is_closed_to-clause-denies
returns-then-is_closed_to-clause-denies g c =
    λ m may. (may, λ on applies. c.if-is_closed_to.ensures g.M.Memory.shared m applies.opened)

pub has_chain_in-requires : goal.has_chain_in-requires
has_chain_in-requires g c =
    let d = c.self.inside in
    let w = standing false [] (the_view d) in
    let n = c.args.number in
    let there : n < length w.queues =
    subst (λ (z : PlainDevice). n < length z.queues) (sym c.self.view_is) c.requires.there in
    let at : slice_get d.bays.items n ≡ Some c.index.result.now =
    queue_read w d.bays.items d.bays.len n c.index.result.now refl d.bays.ok.0 there c.index.ensures in
    let fits : FitsIn (g.M.Memory.extent c.args.memory.now) (the_view d) =
    subst (λ z. FitsIn (g.M.Memory.extent c.args.memory.now) z) (sym c.self.view_is) c.requires.fits in
    record { reading = c.requires.reading; room = c.requires.room; fits = sym (fits n c.index.result.now at) }

pub returns-clause-denies : goal.returns-clause-denies
returns-clause-denies g c =
    let d = c.self.inside in
    let shared = g.M.Memory.shared in
    let n = c.args.number in
    let there : n < length (the_view d).queues =
    subst (λ (z : PlainDevice). n < length z.queues) (sym c.self.view_is) c.requires.there in
    let at : slice_get d.bays.items n ≡ Some c.index.result.now =
    queue_read (standing false [] (the_view d)) d.bays.items d.bays.len n c.index.result.now refl d.bays.ok.0 there
    c.index.ensures in
    let look = c.has_chain_in.ensures in
    rw (← c.self.view_is)
    (λ m may.
    let opened : IsOpenTo (standing shared m (the_view d)) n =
    subst (λ (z : PlainDevice). IsOpenTo (standing shared m z) n) (sym c.self.view_is) (c.if-is_closed_to.ensures shared m) in (
      look.stays m may,
      chain_look (standing shared m (the_view d)) n c.index.result.now (asks c.args.queues n) c.has_chain_in.result at
          (sym c.if-not-is_asked.ensures) opened (look.chain m may),
    ))
