use Rattle.std.proofs.Common.{◌≡◌, length, subst, true, Some, refl, sym, ap, ◌∙◌, arith}
use Rattle.std.specs.Prelude.{slice_get}
use Rattle.std.proofs.lemmas.List.{length-map}
use Rattle.std.proofs.lemmas.Option.{slice_get_read}
use Rattle.device_model.specs.Events.{Event as PlainEvent}
use Rattle.device_model.proofs.Lists.{same}
use Rattle.device_steps.specs.Kept.{KeptSeat, seat_of}
use Rattle.device_steps.specs.Apart.{PlainDevice, standing}
use Rattle.device_steps.specs.contracts.device.Device as seen
use Rattle.device_steps.proofs.Setting.{seat_kept, turns_seen}
use Rattle.device_steps.proofs.Handing.{takes}
use Rattle.device_steps.proofs.device.Device.take.Goals as goal

pub take-requires : goal.take-requires
take-requires c =
    let d = c.self.inside in
    let lists = subst (λ (z : PlainDevice). length z.handed_off ≡ length z.seats) (sym c.self.view_is) c.requires.lists in
    omega (arith, c.if-at-len.false, c.len.ensures, d.seats.ok.0, lists, length-map d.seats.items seat_of)

pub invariant_of-self-2 : goal.invariant_of-self-2
invariant_of-self-2 c =
    let kept = c.self.inside.seats.items in
    let k = c.args.number in
    let s = c.index_mut.result.now in
    let at : slice_get kept k ≡ Some s =
    slice_get_read kept c.len.result k s (c.len.ensures ∙ c.self.inside.seats.ok.0) c.if-at-len.false
    c.index_mut.ensures.value in
    seat_kept c.self.inside.units.items kept k s c.hold.new.self
    c.self.invariant at (ap (λ (z : KeptSeat). z.limit) c.hold.ensures)

pub returns : goal.returns
returns c shared m sound =
    let kept = c.self.inside.seats.items in
    let k = c.args.number in
    let s = c.index_mut.result.now in
    let at : slice_get kept k ≡ Some s =
    slice_get_read kept c.len.result k s (c.len.ensures ∙ c.self.inside.seats.ok.0) c.if-at-len.false
    c.index_mut.ensures.value in
    let before : slice_get kept k ≡ Some c.index.result.now =
    slice_get_read kept c.len.result k c.index.result.now (c.len.ensures ∙ c.self.inside.seats.ok.0)
    c.if-at-len.false c.index.ensures in
    let one : s ≡ c.index.result.now = same (sym at ∙ before) in
    let idle = c.if-not-is_idle.ensures.0 refl in
    turns_seen shared m _ _ (PlainEvent.Take k) true _ c.self.view_is
    (takes (standing shared m (seen.the_view c.self.inside)) kept refl k s c.hold.new.self at c.in-Some.job c.take.new.self
    c.if-number-self.false (ap (λ (z : KeptSeat). z.hand) one ∙ idle.0) (ap (λ (z : KeptSeat). z.jobs) one ∙ idle.1)
    c.hold.ensures (rw c.in-Some.is at c.take.ensures))
