use Rattle.std.proofs.Common.{◌≡◌, ◌≤◌, ◌+◌, ◌*◌, ℕ, List, Some, sym, ap, refl, ◌∙◌, length, subst, arith}
use Rattle.std.specs.Prelude.{slice_set}
use Rattle.unit_model.specs.Jobs.{PlainJob}
use Rattle.device_model.specs.Events.{Event}
use Rattle.phases.specs.Parts.{committing_unit}
use Rattle.device_model.specs.Turns.{Turns}
use Rattle.device_steps.specs.Kept.{KeptSeat}
use Rattle.device_steps.specs.Inner.Aside.{waiting_of}
use Rattle.device_steps.specs.Inner.Kept.{HasLists}
use Rattle.device_steps.specs.Apart.{standing}
use Rattle.device_steps.specs.contracts.device.Device.{the_view}
use Rattle.device_steps.specs.contracts.seat.Seat as seat
use Rattle.device_steps.proofs.Setting.{turns_seen, sound_seen}
use Rattle.device_steps.proofs.Seats.{keeps_unit, found, one_there, with_unit_and_seat}
use Rattle.device_steps.proofs.Commit.{with_aside, commits_or_defers}
use Rattle.device_steps.proofs.Looks.{false_true}
use Rattle.device_steps.proofs.device.Device.commit.Goals as goal

pub invariant_of-self : goal.invariant_of-self
invariant_of-self c =
    let d = c.self.inside in
    let size : c.len.result ≡ length d.seats.items = omega (arith, d.seats.ok.0, c.len.ensures) in
    let k = c.args.number in
    let s : KeptSeat = seat.the_view c.behind-self-2.inside in
    let at = found d.seats.items c.len.result k s c.index_mut-2.result.now size c.if-at-len.false
    c.index_mut-2.ensures.value c.behind-self-2.view_is in
    let t : KeptSeat = seat.the_view (record { hand = c.commit_or_defer.new.hand; out = c.behind-self-2.inside.out }) in
    subst (λ (places : ℕ). HasLists (slice_set d.units.items c.in-Some.unit_index c.commit_or_defer.new.unit)
    (slice_set d.seats.items k t) places d.port.limit) (sym c.commit_or_defer.ensures.limit)
    (keeps_unit d.units.items d.seats.items k c.in-Some.unit_index c.commit_or_defer.new.unit s t at refl c.self.invariant)

pub returns : goal.returns
returns c shared m sound =
    let d = c.self.inside in
    let size : c.len.result ≡ length d.seats.items = omega (arith, d.seats.ok.0, c.len.ensures) in
    let many : c.len-2.result ≡ length d.units.items = omega (arith, d.units.ok.0, c.len-2.ensures) in
    let k = c.args.number in
    let seen : KeptSeat = seat.the_view c.behind-self.inside in
    let s : KeptSeat = seat.the_view c.behind-self-2.inside in
    let at_seen = found d.seats.items c.len.result k seen c.index.result.now size c.if-at-len.false
    c.index.ensures c.behind-self.view_is in
    let at = found d.seats.items c.len.result k s c.index_mut-2.result.now size c.if-at-len.false
    c.index_mut-2.ensures.value c.behind-self-2.view_is in
    let there = found d.units.items c.len-2.result c.in-Some.unit_index c.index_mut.result.now c.index_mut.result.now
    many c.if-unit_index-len.false c.index_mut.ensures.value refl in
    let one = one_there d.seats.items k s seen at at_seen in
    let unit : committing_unit s.hand ≡ Some c.in-Some.unit_index =
    ap (λ (z : KeptSeat). committing_unit z.hand) one ∙ sym c.in-Some.ensures in
    let after = c.commit_or_defer.new.self in
    let t : KeptSeat = seat.the_view (record { hand = c.commit_or_defer.new.hand; out = c.behind-self-2.inside.out }) in
    let w = standing shared m (the_view d) in
    let next = with_aside after.aside (with_unit_and_seat w c.in-Some.unit_index c.commit_or_defer.new.unit d.seats.items k t) in
    turns_seen shared m _ _ (Event.Commit k) c.commit_or_defer.result (record next { woken = after.woken }) c.self.view_is
    (subst (λ (l : List PlainJob). Turns w (Event.Commit k) c.commit_or_defer.result (record next { woken = l }))
    (sym c.commit_or_defer.ensures.woken)
    (commits_or_defers w d.seats.items k c.in-Some.unit_index s.hand s.jobs s.limit c.index_mut.result.now
    c.commit_or_defer.new.unit _ d.jobs_aside.limit (waiting_of after) c.commit_or_defer.result
    (sound_seen shared m _ _ c.self.view_is sound) refl at unit there c.commit_or_defer.ensures.commits))

-- there is always room
pub returns-then-not-has_room : goal.returns-then-not-has_room
returns-then-not-has_room c shared m sound =
    let d = c.self.inside in
    let firm = sound_seen shared m _ _ c.self.view_is sound in
    let many : d.jobs_aside.limit ≡ 64 * length d.units.items + 64 = c.self.invariant.aside in
    let waits : length d.jobs_aside.aside + length d.jobs_aside.woken ≤ 64 * length d.units.items = firm.room.waiting in
    absurd (false_true (c.if-not-has_room.ensures.1 (omega (arith, many, waits))))
