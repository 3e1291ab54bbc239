use Rattle.std.proofs.Common.{◌≡◌, length, subst, true, false, Some, refl, sym, ap, ◌∙◌, arith}
use Rattle.std.specs.Prelude.{slice_get}
use Rattle.std.proofs.lemmas.List.{length-map}
use Rattle.std.proofs.lemmas.Option.{slice_get_read}
use Rattle.unit_model.specs.Jobs.{PlainJob}
use Rattle.device_model.specs.Parts.{Hand}
use Rattle.device_model.specs.Events.{Event as PlainEvent}
use Rattle.device_model.proofs.Lists.{same}
use Rattle.device_steps.specs.Kept.{KeptSeat, seat_of}
use Rattle.device_steps.specs.Apart.{PlainDevice, standing}
use Rattle.device_steps.specs.contracts.device.Device as seen
use Rattle.device_steps.proofs.Setting.{seat_kept, turns_seen}
use Rattle.device_steps.proofs.Handing.{puts_nothing, puts, keeps}
use Rattle.device_steps.proofs.device.Device.put.Goals as goal

pub put-requires : goal.put-requires
put-requires c =
    let d = c.self.inside in
    let lists = subst (λ (z : PlainDevice). length z.handed_off ≡ length z.seats) (sym c.self.view_is) c.requires.lists in
    omega (arith, c.if-at-len.false, c.len.ensures, d.seats.ok.0, lists, length-map d.seats.items seat_of)

pub returns-in_default : goal.returns-in_default
returns-in_default c shared m sound =
    let kept = c.self.inside.seats.items in
    let k = c.args.number in
    let s = c.index_mut-seat.result.now in
    let at : slice_get kept k ≡ Some s =
    slice_get_read kept c.len.result k s (c.len.ensures ∙ c.self.inside.seats.ok.0) c.if-at-len.false
    c.index_mut-seat.ensures.value in
    turns_seen shared m _ _ (PlainEvent.Put k) false _ c.self.view_is
    (puts_nothing (standing shared m (seen.the_view c.self.inside)) kept refl k s c.next.new.self at
    (sym c.next.ensures.first ∙ c.in_default.is) c.next.ensures.rest)

pub invariant_of-self-in_default-put : goal.invariant_of-self-in_default-put
invariant_of-self-in_default-put c =
    let kept = c.self.inside.seats.items in
    let k = c.args.number in
    let s = c.index_mut-seat.result.now in
    let at : slice_get kept k ≡ Some s =
    slice_get_read kept c.len.result k s (c.len.ensures ∙ c.self.inside.seats.ok.0) c.if-at-len.false
    c.index_mut-seat.ensures.value in
    seat_kept c.self.inside.units.items kept k s c.next.new.self
    c.self.invariant at (ap (λ (z : KeptSeat). z.limit) c.next.ensures.rest)

pub invariant_of-self-2 : goal.invariant_of-self-2
invariant_of-self-2 c =
    let kept = c.self.inside.seats.items in
    let k = c.args.number in
    let s = c.index_mut-seat.result.now in
    let at : slice_get kept k ≡ Some s =
    slice_get_read kept c.len.result k s (c.len.ensures ∙ c.self.inside.seats.ok.0) c.if-at-len.false
    c.index_mut-seat.ensures.value in
    seat_kept c.self.inside.units.items kept k s c.hold.new.self
    c.self.invariant at
    (ap (λ (z : KeptSeat). z.limit) c.hold.ensures ∙ ap (λ (z : KeptSeat). z.limit) c.next.ensures.rest)

pub returns-in_default-put : goal.returns-in_default-put
returns-in_default-put c shared m sound =
    let kept = c.self.inside.seats.items in
    let k = c.args.number in
    let s = c.index_mut-seat.result.now in
    let at : slice_get kept k ≡ Some s =
    slice_get_read kept c.len.result k s (c.len.ensures ∙ c.self.inside.seats.ok.0) c.if-at-len.false
    c.index_mut-seat.ensures.value in
    let before : slice_get kept k ≡ Some c.index.result.now =
    slice_get_read kept c.len.result k c.index.result.now (c.len.ensures ∙ c.self.inside.seats.ok.0)
    c.if-at-len.false c.index.ensures in
    let free : s.hand ≡ Hand.Empty =
    ap (λ (z : KeptSeat). z.hand) (same (sym at ∙ before)) ∙ c.if-not-has_empty_hand.ensures.0 refl in
    turns_seen shared m _ _ (PlainEvent.Put k) true _ c.self.view_is
    (puts (standing shared m (seen.the_view c.self.inside)) kept refl k s c.next.new.self at c.in-Some.job c.put.new.self free
    (sym c.next.ensures.first ∙ c.in-Some.is) c.next.ensures.rest c.in_default-put.ensures.put)

pub returns : goal.returns
returns c shared m sound =
    let kept = c.self.inside.seats.items in
    let k = c.args.number in
    let s = c.index_mut-seat.result.now in
    let at : slice_get kept k ≡ Some s =
    slice_get_read kept c.len.result k s (c.len.ensures ∙ c.self.inside.seats.ok.0) c.if-at-len.false
    c.index_mut-seat.ensures.value in
    let before : slice_get kept k ≡ Some c.index.result.now =
    slice_get_read kept c.len.result k c.index.result.now (c.len.ensures ∙ c.self.inside.seats.ok.0)
    c.if-at-len.false c.index.ensures in
    let free : s.hand ≡ Hand.Empty =
    ap (λ (z : KeptSeat). z.hand) (same (sym at ∙ before)) ∙ c.if-not-has_empty_hand.ensures.0 refl in
    turns_seen shared m _ _ (PlainEvent.Put k) true _ c.self.view_is
    (keeps (standing shared m (seen.the_view c.self.inside)) kept refl k s c.hold.new.self at c.in-Some.job c.put.new.self free
    (sym c.next.ensures.first ∙ c.in-Some.is)
    (c.hold.ensures ∙ ap (λ (j : PlainJob). record c.next.new.self { hand = Hand.Taken j }) c.in-Err.ensures.back
    ∙ ap (λ (z : KeptSeat). record z { hand = Hand.Taken c.in-Some.job }) c.next.ensures.rest)
    c.in-Err.ensures.full c.in-Err.ensures.unchanged)
