use Rattle.std.proofs.Common.{◌≡◌, [], ◌∷◌, length, refl, sym, ap, ◌∙◌, subst, arith}
use Rattle.std.proofs.lemmas.Option.{slice_get_read}
use Rattle.handoff.specs.Inner.Rule.{after_put}
use Rattle.handoff.specs.Inner.Ends.{knowing}
use Rattle.handoff.specs.Seats.{Hub, PlainSeat, seat_of}
use Rattle.handoff.specs.Inner.Seats.{putting, account_at, IsSeated}
use Rattle.handoff.proofs.Seating.{has_one, seat_put, put_seated}
use Rattle.handoff.proofs.Holding.{queues_met, count_met, same_queue, on_either, on_ok, on_err, same_put, same_still, still, held_as, accounts_are}
use Rattle.handoff.proofs.queue.Handoff.put.Goals as goal

pub put-requires-clause-at : goal.put-requires-clause-at
put-requires-clause-at g c =
    let ends = c.seat.inside.ends.items in
    let lanes = c.self.inside.lanes.items in
    let k = c.seat.inside.number in
    let queues = queues_met k c.self.inside.capacity ends c.seat.inside.taken.items lanes _ _ c.seat.view_is c.self.view_is c.requires in
    let count = count_met k c.self.inside.capacity ends c.seat.inside.taken.items lanes _ _ c.seat.view_is c.self.view_is c.requires in
    let at = slice_get_read ends (length ends) k c.index_mut.result.now refl c.seat.invariant.number c.index_mut.ensures.value in
    let lane = slice_get_read lanes (length lanes) k c.index.result.now refl (omega (arith, count, c.seat.invariant.number)) c.index.ensures in
    same_queue lanes ends k _ _ queues lane at

pub put-requires-clause-one : goal.put-requires-clause-one
put-requires-clause-one g c =
    let ends = c.seat.inside.ends.items in
    let k = c.seat.inside.number in
    let at = slice_get_read ends (length ends) k c.index_mut.result.now refl c.seat.invariant.number c.index_mut.ensures.value in
    has_one k (seat_of k ends c.seat.inside.taken.items) ends _ c.seat.invariant at

pub invariant_of-seat : goal.invariant_of-seat
invariant_of-seat g c =
    let ends = c.seat.inside.ends.items in
    let taken = c.seat.inside.taken.items in
    let k = c.seat.inside.number in
    let p = c.index_mut.result.now in
    let new = c.put.new.end in
    let at = slice_get_read ends (length ends) k p refl c.seat.invariant.number c.index_mut.ensures.value in
    on_either c.put.result c.put.ensures.put c.put.ensures.unchanged
    (λ (e : new ≡ knowing (after_put p.knows c.args.job) p). put_seated k ends taken c.args.job p new c.seat.invariant at e)
    (λ (e : new ≡ p). subst (λ ps. IsSeated (seat_of k ps taken) ps) (sym (still ends k p new at e)) c.seat.invariant)

pub returns-clause-seat : goal.returns-clause-seat
returns-clause-seat g c =
    let ends = c.seat.inside.ends.items in
    let taken = c.seat.inside.taken.items in
    let k = c.seat.inside.number in
    let p = c.index_mut.result.now in
    let new = c.put.new.end in
    let at = slice_get_read ends (length ends) k p refl c.seat.invariant.number c.index_mut.ensures.value in
    on_either c.put.result c.put.ensures.put c.put.ensures.unchanged
    (λ (e : new ≡ knowing (after_put p.knows c.args.job) p).
    same_put _ _ c.args.job (seat_put k ends taken c.args.job p new c.seat.invariant at e
    ∙ ap (λ (z : PlainSeat). putting z c.args.job) c.seat.view_is))
    (λ (e : new ≡ p). same_still _ _ (ap (λ ps. seat_of k ps taken) (still ends k p new at e) ∙ c.seat.view_is))

pub returns-clause-put : goal.returns-clause-put
returns-clause-put g c =
    let ends = c.seat.inside.ends.items in
    let taken = c.seat.inside.taken.items in
    let k = c.seat.inside.number in
    let p = c.index_mut.result.now in
    let new = c.put.new.end in
    let at = slice_get_read ends (length ends) k p refl c.seat.invariant.number c.index_mut.ensures.value in
    on_ok c.put.result c.put.ensures.put
    (λ (e : new ≡ knowing (after_put p.knows c.args.job) p).
    seat_put k ends taken c.args.job p new c.seat.invariant at e
    ∙ ap (λ (z : PlainSeat). putting z c.args.job) c.seat.view_is)

pub returns-clause-full : goal.returns-clause-full
returns-clause-full g c =
    let ends = c.seat.inside.ends.items in
    let lanes = c.self.inside.lanes.items in
    let taken = c.seat.inside.taken.items in
    let k = c.seat.inside.number in
    let p = c.index_mut.result.now in
    let l = c.index.result.now in
    let count = count_met k c.self.inside.capacity ends taken lanes _ _ c.seat.view_is c.self.view_is c.requires in
    let at = slice_get_read ends (length ends) k p refl c.seat.invariant.number c.index_mut.ensures.value in
    let lane = slice_get_read lanes (length lanes) k l refl (omega (arith, count, c.seat.invariant.number)) c.index.ensures in
    let is = accounts_are k (seat_of k ends taken) c.args.seat.now p (c.seat.invariant.each k p at) c.seat.view_is in
    let own = ap (λ (z : PlainSeat). z.number) c.seat.view_is in
    on_err c.put.result c.put.ensures.full
    (λ h.
    held_as l.capacity c.args.self.now.capacity p.knows.accounts _
    (c.self.invariant k l lane ∙ ap (λ (z : Hub). z.capacity) c.self.view_is)
    (subst (λ n. p.knows.accounts ≡ account_at n c.args.seat.now ∷ []) own is) h)
