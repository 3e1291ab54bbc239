use Rattle.std.proofs.Common.{ℕ, List, [], false, ◌∷◌, ◌≡◌, ◌∙◌, ◌<◌, ◌≤◌, length, Some, Ok, Err, refl, sym, ap, subst, inr, arith}
use Rattle.std.specs.Prelude.{slice_get, slice_set, map, drop}
use Rattle.std.proofs.lemmas.Option.{slice_get_read, slice_get_within}
use Rattle.std.proofs.lemmas.List.{length-map}
use Rattle.device_model.specs.World.{PlainQueue}
use Rattle.device_model.specs.Parts.{Slot, Hand}
use Rattle.phases.proofs.Behind.{each_read, read_once}
use Rattle.phases.specs.Slots.{slot_of}
use Rattle.phases.specs.Queue.{with_slot}
use Rattle.phases.specs.Inner.ServingInMemory.{ServesIn}
use Rattle.device_steps.specs.Kept.{KeptSeat, seat_of}
use Rattle.unit_model.specs.Jobs.{Jobs}
use Rattle.device_steps.specs.declared.cursor.Progress.{Progress}
use Rattle.device_steps.specs.declared.cursor.Cursor.TheVariants as cursor
use Rattle.device_model.specs.Events.{Event}
use Rattle.device_steps.specs.Inner.Steps.{TurnsOrWants}
use Rattle.device_steps.specs.Apart.{PlainDevice, standing, FitsIn, Stored}
use Rattle.device_steps.specs.Sound.{IsWhole}
use Rattle.device_steps.specs.Serving.{ServesSeen, FollowsSeen}
use Rattle.device_steps.specs.Inner.Cursors.{MayServe, StepsNext, Sees, ServesNextIn, NoneBeforeFetch, NoFetchBelow, served_of}
use Rattle.device_steps.specs.contracts.device.Device.{the_view}
use Rattle.device_steps.specs.contracts.bay.Bay as bay
use Rattle.device_steps.specs.contracts.seat.Seat as seat
use Rattle.device_steps.specs.Settling.{asks}
use Rattle.device_steps.proofs.Seats.{keeps_unit, found, length_set, one_there}
use Rattle.device_steps.proofs.Fetches.{request_turns}
use Rattle.device_steps.proofs.Handing.{begins}
use Rattle.device_steps.proofs.Leave.{seat_with}
use Rattle.device_steps.proofs.InMemory.{each_from, fits_at, none_known}
use Rattle.device_steps.proofs.AnyMemory.{before_any}
use Rattle.device_steps.proofs.EachTurn.{device_of, one_fetch, one_seen}
use Rattle.device_steps.proofs.AtOnce.{bare, get_set, set_all, fetches_only, takes_next, seat_bare, has_room, serves_keeps, later_of, steps_are, some_steps, few_steps, ServedKept, serves_kept}
use Rattle.device_steps.proofs.device.Device.serve.Goals as goal

pub returns-in-Err-clause-turns : goal.returns-in-Err-clause-turns
returns-in-Err-clause-turns g c =
    let d = c.self.inside in
    let k = c.args.number in
    let shared = g.M.Memory.shared in
    let q = bay.the_view c.bay.inside in
    let take = c.take_request-taken in
    let v : PlainDevice = the_view d in
    let v' : PlainDevice =
    record v { queues = slice_set v.queues k (with_slot (slot_of take.new.slot) take.new.queue) } in
    let some = c.requires.ready.some in
    let there = (c.requires.at_once some.0 some.1).there in
    let within : k < d.bays.len =
    omega (arith, there, ap (λ (z : PlainDevice). length z.queues) c.self.view_is, d.bays.ok.0) in
    let at : slice_get d.bays.items k ≡ Some q =
    slice_get_read d.bays.items d.bays.len k c.index_mut-bay.result.now d.bays.ok.0 within c.index_mut-bay.ensures.value
    ∙ ap (λ (z : PlainQueue). Some z) (sym c.bay.view_is) in
    let turn : (m : List ℕ) → g.M.Memory.may_be take.new.memory m
    → TurnsOrWants (standing shared m v) (Event.Fetch k) (Err c.in-Err.field-0) (standing shared m v') =
    λ m may.
    let was = take.ensures.stays m may in
    let w = standing shared m (the_view d) in
    let serves : MayServe k w =
    subst (λ (z : PlainDevice). MayServe k (standing shared m z)) (sym c.self.view_is) (c.requires.at_once m was) in
    let whole = subst (λ (z : PlainDevice). IsWhole (standing shared m z)) (sym c.self.view_is) (c.requires.ready.whole m was) in
    let fits = fits_at (g.M.Memory.extent c.args.memory.now) m _ _ c.self.view_is (g.met.M.Memory.sized c.args.memory.now m was)
    c.requires.ready.fits in
    request_turns w k q (with_slot (slot_of take.new.slot) take.new.queue) (Err c.in-Err.field-0)
    (c.all_are_sound.ensures w whole.reached) serves.request at (fits k q at) (c.in-Err.ensures.takes m may) in
    let seen = c.size-read.ensures.some in
    rw (← c.self.view_is) (
      ap device_of (turn seen.0 seen.1).1,
      (λ m may. (take.ensures.stays m may, (c.requires.asked, (turn m may).0))),
      none_known g.M.Memory.stored g.M.Memory.storing g.met.M.Memory.none c.args.memory.now take.new.memory take.ensures.stores,
    )

pub returns-in-Ok-Nothing-clause-turns : goal.returns-in-Ok-Nothing-clause-turns
returns-in-Ok-Nothing-clause-turns g c =
    let d = c.self.inside in
    let k = c.args.number in
    let shared = g.M.Memory.shared in
    let q = bay.the_view c.bay.inside in
    let take = c.take_request-taken in
    let v : PlainDevice = the_view d in
    let v' : PlainDevice =
    record v { queues = slice_set v.queues k (with_slot (slot_of take.new.slot) take.new.queue) } in
    let some = c.requires.ready.some in
    let there = (c.requires.at_once some.0 some.1).there in
    let within : k < d.bays.len =
    omega (arith, there, ap (λ (z : PlainDevice). length z.queues) c.self.view_is, d.bays.ok.0) in
    let at : slice_get d.bays.items k ≡ Some q =
    slice_get_read d.bays.items d.bays.len k c.index_mut-bay.result.now d.bays.ok.0 within c.index_mut-bay.ensures.value
    ∙ ap (λ (z : PlainQueue). Some z) (sym c.bay.view_is) in
    let takes = rw c.in-Ok-Nothing.field-0-is at c.in-Ok-Nothing.ensures.takes in
    let turn : (m : List ℕ) → g.M.Memory.may_be take.new.memory m
    → TurnsOrWants (standing shared m v) (Event.Fetch k) (Ok false) (standing shared m v') =
    λ m may.
    let was = take.ensures.stays m may in
    let w = standing shared m (the_view d) in
    let serves : MayServe k w =
    subst (λ (z : PlainDevice). MayServe k (standing shared m z)) (sym c.self.view_is) (c.requires.at_once m was) in
    let whole = subst (λ (z : PlainDevice). IsWhole (standing shared m z)) (sym c.self.view_is) (c.requires.ready.whole m was) in
    let fits = fits_at (g.M.Memory.extent c.args.memory.now) m _ _ c.self.view_is (g.met.M.Memory.sized c.args.memory.now m was)
    c.requires.ready.fits in
    request_turns w k q (with_slot (slot_of take.new.slot) take.new.queue) (Ok false) (c.all_are_sound.ensures w whole.reached)
    serves.request at (fits k q at) (takes m may) in
    let seen = c.size-read.ensures.some in
    rw (← c.self.view_is) (
      ap device_of (turn seen.0 seen.1).0,
      (λ m may. (take.ensures.stays m may, λ on. (turn m may).1)),
      none_known g.M.Memory.stored g.M.Memory.storing g.met.M.Memory.none c.args.memory.now take.new.memory take.ensures.stores,
    )

pub returns-in-Ok-Other-clause-turns : goal.returns-in-Ok-Other-clause-turns
returns-in-Ok-Other-clause-turns g c =
    let d = c.self.inside in
    let k = c.args.number in
    let shared = g.M.Memory.shared in
    let asked = asks c.args.queues in
    let q = bay.the_view c.bay.inside in
    let take = c.take_request-taken in
    let q' = with_slot (slot_of take.new.slot) take.new.queue in
    let v : PlainDevice = the_view d in
    let v' : PlainDevice = record v { queues = slice_set v.queues k q' } in
    let some = c.requires.ready.some in
    let there = (c.requires.at_once some.0 some.1).there in
    let within : k < d.bays.len =
    omega (arith, there, ap (λ (z : PlainDevice). length z.queues) c.self.view_is, d.bays.ok.0) in
    let at : slice_get d.bays.items k ≡ Some q =
    slice_get_read d.bays.items d.bays.len k c.index_mut-bay.result.now d.bays.ok.0 within c.index_mut-bay.ensures.value
    ∙ ap (λ (z : PlainQueue). Some z) (sym c.bay.view_is) in
    let takes = rw c.in-Ok-Other.field-0-is at c.in-Ok-Other.ensures.takes in
    let stored = Stored g.M.Memory.stored g.M.Memory.storing in
    let made = stored c.args.memory.now take.new.memory in
    let nothing : made [] = none_known g.M.Memory.stored g.M.Memory.storing g.met.M.Memory.none c.args.memory.now take.new.memory
    take.ensures.stores in
    rw (← c.self.view_is)
    (one_fetch shared g.M.Memory.may_be stored asked c.args.most c.args.memory.now v cursor.Start c.one.result take.new.memory v'
    (omega (arith, c.requires.most)) c.one.ensures c.size-read.ensures.some
    (read_once shared g.M.Memory.may_be c.args.memory.now take.new.memory
    (λ found left seen. StepsNext asked (Sees made left seen) (standing shared found v) cursor.Start (standing shared left v'))
    take.ensures.stays
    (λ m may.
    let was = take.ensures.stays m may in
    let w = standing shared m v in
    let serves : MayServe k w =
    subst (λ (z : PlainDevice). MayServe k (standing shared m z)) (sym c.self.view_is) (c.requires.at_once m was) in
    let whole = subst (λ (z : PlainDevice). IsWhole (standing shared m z)) (sym c.self.view_is) (c.requires.ready.whole m was) in
    let fits = fits_at (g.M.Memory.extent c.args.memory.now) m _ _ c.self.view_is (g.met.M.Memory.sized c.args.memory.now m was)
    c.requires.ready.fits in
    let before = subst (λ (z : PlainDevice). NoneBeforeFetch (standing shared m z)) (sym c.self.view_is)
    (c.requires.before m was) in
    let below = subst (λ (z : PlainDevice). NoFetchBelow asked k (standing shared m z)) (sym c.self.view_is)
    (c.requires.below m was) in
    fetches_only made nothing asked w k q q' (c.all_are_sound.ensures w whole.reached) serves at (fits k q at) before below c.requires.asked
    (takes m may))))

pub returns-then-unit_index-len-clause-turns : goal.returns-then-unit_index-len-clause-turns
returns-then-unit_index-len-clause-turns g c =
    let d = c.self.inside in
    let k = c.args.number in
    let shared = g.M.Memory.shared in
    let asked = asks c.args.queues in
    let q = bay.the_view c.bay.inside in
    let take = c.take_request-taken in
    let q' = with_slot (Slot.Arrived c.in-Ok-Arrived.arrival) take.new.queue in
    let v : PlainDevice = the_view d in
    let v' : PlainDevice = record v { queues = slice_set v.queues k q' } in
    let some = c.requires.ready.some in
    let there = (c.requires.at_once some.0 some.1).there in
    let within : k < d.bays.len =
    omega (arith, there, ap (λ (z : PlainDevice). length z.queues) c.self.view_is, d.bays.ok.0) in
    let at : slice_get d.bays.items k ≡ Some q =
    slice_get_read d.bays.items d.bays.len k c.index_mut-bay.result.now d.bays.ok.0 within c.index_mut-bay.ensures.value
    ∙ ap (λ (z : PlainQueue). Some z) (sym c.bay.view_is) in
    let takes = rw c.in-Ok-Arrived.field-0-is at c.in-Ok-Arrived.ensures.takes in
    let stored = Stored g.M.Memory.stored g.M.Memory.storing in
    let made = stored c.args.memory.now take.new.memory in
    let nothing : made [] = none_known g.M.Memory.stored g.M.Memory.storing g.met.M.Memory.none c.args.memory.now take.new.memory
    take.ensures.stores in
    rw (← c.self.view_is)
    (one_fetch shared g.M.Memory.may_be stored asked c.args.most c.args.memory.now v cursor.Start c.one-then-unit_index-len.result
    take.new.memory v' (omega (arith, c.requires.most)) c.one-then-unit_index-len.ensures c.size-read.ensures.some
    (read_once shared g.M.Memory.may_be c.args.memory.now take.new.memory
    (λ found left seen. StepsNext asked (Sees made left seen) (standing shared found v) cursor.Start (standing shared left v'))
    take.ensures.stays
    (λ m may.
    let was = take.ensures.stays m may in
    let w = standing shared m v in
    let serves : MayServe k w =
    subst (λ (z : PlainDevice). MayServe k (standing shared m z)) (sym c.self.view_is) (c.requires.at_once m was) in
    let whole = subst (λ (z : PlainDevice). IsWhole (standing shared m z)) (sym c.self.view_is) (c.requires.ready.whole m was) in
    let fits = fits_at (g.M.Memory.extent c.args.memory.now) m _ _ c.self.view_is (g.met.M.Memory.sized c.args.memory.now m was)
    c.requires.ready.fits in
    let before = subst (λ (z : PlainDevice). NoneBeforeFetch (standing shared m z)) (sym c.self.view_is)
    (c.requires.before m was) in
    let below = subst (λ (z : PlainDevice). NoFetchBelow asked k (standing shared m z)) (sym c.self.view_is)
    (c.requires.below m was) in
    fetches_only made nothing asked w k q q' (c.all_are_sound.ensures w whole.reached) serves at (fits k q at) before below c.requires.asked
    (takes m may).0)))

pub serve_request-done-requires-clause-places : goal.serve_request-done-requires-clause-places
serve_request-done-requires-clause-places g c =
    let d = c.self.inside in
    let s : KeptSeat = seat.the_view c.behind-self.inside in
    let shared = g.M.Memory.shared in
    let any = c.requires.ready.some in
    let w = standing shared any.0 (the_view d) in
    let may = subst (λ (z : PlainDevice). MayServe c.args.number (standing shared any.0 z)) (sym c.self.view_is)
    (c.requires.at_once any.0 any.1) in
    let some : 0 < d.seats.len =
    omega (arith, slice_get_within (map seat_of d.seats.items) 0 _ may.seat, length-map d.seats.items seat_of, d.seats.ok.0) in
    let at = found d.seats.items d.seats.len 0 s c.index_mut-in-Ok-Arrived.result.now d.seats.ok.0 some
    c.index_mut-in-Ok-Arrived.ensures.value c.behind-self.view_is in
    has_room s (length d.units.items) (seat_bare w c.args.number d.seats.items s refl at may)
    (c.self.invariant.limits 0 s at)

pub serve_request-done-requires-clause-empty : goal.serve_request-done-requires-clause-empty
serve_request-done-requires-clause-empty g c =
    let any = c.size-read.ensures.some in
    let takes = (rw c.in-Ok-Arrived.field-0-is at c.in-Ok-Arrived.ensures.takes) any.0 any.1 in
    takes.1 ∙ takes.0.1.empty

pub invariant_of-self-in-Ok-Arrived : goal.invariant_of-self-in-Ok-Arrived
invariant_of-self-in-Ok-Arrived g c =
    let d = c.self.inside in
    let shared = g.M.Memory.shared in
    let any = c.requires.ready.some in
    let may : MayServe c.args.number (standing shared any.0 (the_view d)) =
    subst (λ (z : PlainDevice). MayServe c.args.number (standing shared any.0 z)) (sym c.self.view_is)
    (c.requires.at_once any.0 any.1) in
    let s : KeptSeat = seat.the_view c.behind-self.inside in
    let some : 0 < d.seats.len =
    omega (arith, slice_get_within (map seat_of d.seats.items) 0 _ may.seat, length-map d.seats.items seat_of, d.seats.ok.0) in
    let seat_at : slice_get d.seats.items 0 ≡ Some s = found d.seats.items d.seats.len 0 s
    c.index_mut-in-Ok-Arrived.result.now d.seats.ok.0 some c.index_mut-in-Ok-Arrived.ensures.value c.behind-self.view_is in
    let done = c.serve_request-done in
    let behind = c.size-bytes.ensures.some in
    let each = done.ensures.serves behind.0 behind.1 in
    let left = each.2 in
    let keeps = serves_keeps shared (Stored g.M.Memory.stored g.M.Memory.storing c.take_request-taken.new.memory done.new.memory)
    c.in-Ok-Arrived.arrival c.index_mut.result.now done.new.unit
    c.take_request-taken.new.queue done.new.queue each.0 left.0 behind.0 (slot_of c.take_request-taken.new.slot)
    (slot_of done.new.slot) c.behind-self.inside.out done.new.out done.result left.2 in
    let t : KeptSeat = seat.the_view (record { hand = c.behind-self.inside.hand; out = done.new.out }) in
    keeps_unit d.units.items d.seats.items 0 c.unit-unit_index.result done.new.unit s t seat_at keeps c.self.invariant

pub returns-else-unit_index-len-clause-turns : goal.returns-else-unit_index-len-clause-turns
returns-else-unit_index-len-clause-turns g c =
    let d = c.self.inside in
    let k = c.args.number in
    let shared = g.M.Memory.shared in
    let asked = asks c.args.queues in
    let q = bay.the_view c.bay.inside in
    let v : PlainDevice = the_view d in
    let take = c.take_request-taken in
    let any = c.requires.ready.some in
    let known : MayServe k (standing shared any.0 v) =
    subst (λ (z : PlainDevice). MayServe k (standing shared any.0 z)) (sym c.self.view_is) (c.requires.at_once any.0 any.1) in
    let within : k < d.bays.len = omega (arith, known.there, d.bays.ok.0) in
    let at : slice_get d.bays.items k ≡ Some q =
    slice_get_read d.bays.items d.bays.len k c.index_mut-bay.result.now d.bays.ok.0 within c.index_mut-bay.ensures.value
    ∙ ap (λ (z : PlainQueue). Some z) (sym c.bay.view_is) in
    let takes = rw c.in-Ok-Arrived.field-0-is at c.in-Ok-Arrived.ensures.takes in
    let s : KeptSeat = seat.the_view c.behind-self.inside in
    let some : 0 < d.seats.len =
    omega (arith, slice_get_within (map seat_of d.seats.items) 0 _ known.seat, length-map d.seats.items seat_of, d.seats.ok.0) in
    let seat_at : slice_get d.seats.items 0 ≡ Some s = found d.seats.items d.seats.len 0 s
    c.index_mut-in-Ok-Arrived.result.now d.seats.ok.0 some c.index_mut-in-Ok-Arrived.ensures.value c.behind-self.view_is in
    let x = c.in-Ok-Arrived.arrival in
    let lent = take.new.queue in
    let q1 = with_slot (Slot.Arrived x) lent in
    let v1 : PlainDevice = record v { queues = slice_set v.queues k q1 } in
    let done = c.serve_request-done in
    let bare_is = seat_bare (standing shared any.0 v) k d.seats.items s refl seat_at known in
    let kept : d.seats.items ≡ bare Hand.Empty s.limit ∷ drop 1 d.seats.items =
    begins d.seats.items s seat_at ∙ ap (λ (z : KeptSeat). z ∷ drop 1 d.seats.items) bare_is in
    let out' = done.new.out in
    let s1 = slot_of take.new.slot in
    let s' = slot_of done.new.slot in
    let u = c.index_mut.result.now in
    let u' = done.new.unit in
    let q' = with_slot s' done.new.queue in
    let unit_at : slice_get d.units.items c.unit-unit_index.result ≡ Some u =
    found d.units.items c.len.result c.unit-unit_index.result u u (omega (arith, d.units.ok.0, c.len.ensures)) c.if-unit_index-len.false
    c.index_mut.ensures.value refl in
    let u_at : slice_get d.units.items x.unit ≡ Some u =
    ap (λ (n : ℕ). slice_get d.units.items n) (sym c.unit-unit_index.ensures) ∙ unit_at in
    let t : KeptSeat = seat_with s.hand out' in
    let there : slice_get (slice_set d.seats.items 0 t) 0 ≡ Some t =
    get_set d.seats.items 0 t (omega (arith, some, d.seats.ok.0)) in
    let last : KeptSeat = seat.the_view c.behind-self-in-Ok-Arrived.inside in
    let last_at : slice_get (slice_set d.seats.items 0 t) 0 ≡ Some last =
    found (slice_set d.seats.items 0 t) d.seats.len 0 last c.index.result.now
    (d.seats.ok.0 ∙ sym (length_set 0 d.seats.items t)) some c.index.ensures c.behind-self-in-Ok-Arrived.view_is in
    let jobs : c.len-in-Ok-Arrived.result ≡ length out'.jobs =
    c.len-in-Ok-Arrived.ensures
    ∙ ap (λ (z : KeptSeat). length z.jobs) (one_there (slice_set d.seats.items 0 t) 0 last t last_at there) in
    let n = c.len-in-Ok-Arrived.result in
    let x0 = c.args.memory.now in
    let mid = take.new.memory in
    let y = done.new.memory in
    let may_be = g.M.Memory.may_be in
    let stored = Stored g.M.Memory.stored g.M.Memory.storing in
    let first = stored x0 mid in
    let nothing : first [] = none_known g.M.Memory.stored g.M.Memory.storing g.met.M.Memory.none x0 mid take.ensures.stores in
    let later = stored mid y in
    let s_of : KeptSeat → Jobs = λ z. record { jobs = z.jobs; limit = z.limit } in
    let v' : PlainDevice =
    record v {
      queues = slice_set v.queues k q';
      units = slice_set v.units c.unit-unit_index.result u';
      seats = map seat_of (slice_set d.seats.items 0 t);
    } in
    let served_at : (m : List ℕ) → may_be mid m → MayServe k (standing shared m v) =
    λ m may.
    subst (λ (z : PlainDevice). MayServe k (standing shared m z)) (sym c.self.view_is)
    (c.requires.at_once m (take.ensures.stays m may)) in
    let whole_at : (m : List ℕ) → may_be mid m → IsWhole (standing shared m v) =
    λ m may.
    subst (λ (z : PlainDevice). IsWhole (standing shared m z)) (sym c.self.view_is)
    (c.requires.ready.whole m (take.ensures.stays m may)) in
    let fits_there : (m : List ℕ) → may_be mid m → FitsIn (length m) v =
    λ m may.
    fits_at (g.M.Memory.extent x0) m _ _ c.self.view_is (g.met.M.Memory.sized x0 m (take.ensures.stays m may))
    c.requires.ready.fits in
    let before_at : (m : List ℕ) → may_be mid m → NoneBeforeFetch (standing shared m v) =
    λ m may.
    subst (λ (z : PlainDevice). NoneBeforeFetch (standing shared m z)) (sym c.self.view_is)
    (c.requires.before m (take.ensures.stays m may)) in
    let below_at : (m : List ℕ) → may_be mid m → NoFetchBelow asked k (standing shared m v) =
    λ m may.
    subst (λ (z : PlainDevice). NoFetchBelow asked k (standing shared m z)) (sym c.self.view_is)
    (c.requires.below m (take.ensures.stays m may)) in
    let taken_at : (m : List ℕ) → may_be mid m
    → StepsNext asked (Sees first m m) (standing shared m v) (cursor.Enter k) (standing shared m v1) =
    λ m may.
    takes_next first nothing c.all_are_sound.ensures asked (standing shared m v) (whole_at m may) k q (fits_there m may) (served_at m may) at
    (before_at m may) (below_at m may) c.requires.asked x lent (takes m may).0 in
    let kept_at : (found left seen : List ℕ) → may_be mid found
    → ServesIn shared later x u lent found s1 c.behind-self.inside.out done.result u' done.new.queue left seen s' out'
    → ServedKept asked later seen (standing shared found v1) (standing shared left v') done.result n =
    λ found left seen was h.
    let w = standing shared found v in
    let w1 = standing shared found v1 in
    let fetched = (takes found was).0 in
    let empty : s1 ≡ Slot.Empty = (takes found was).1 ∙ fetched.1.empty in
    let h' = subst (λ (o : Jobs). ServesIn shared later x u lent found s1 o done.result u' done.new.queue left seen s' out')
    (ap s_of bare_is) h in
    let base = serves_kept later c.all_are_sound.ensures asked w (whole_at found was) k q s.limit d.seats.items
    (drop 1 d.seats.items) kept refl (fits_there found was) c.self.invariant.limits (served_at found was) at
    (before_at found was) (below_at found was) c.requires.asked x lent fetched u u' u_at s1 s' done.new.queue left seen out'
    empty done.result h' n jobs in
    let with_hand = subst (λ (e : Hand).
    ServedKept asked later seen w1 (set_all w left k q' x.unit u' d.seats.items (seat_with e out')) done.result n)
    (sym (ap (λ (z : KeptSeat). z.hand) bare_is)) base in
    subst (λ (p : ℕ). ServedKept asked later seen w1 (set_all w left k q' p u' d.seats.items (seat_with s.hand out')) done.result n)
    (sym c.unit-unit_index.ensures) with_hand in
    let behind = c.size-bytes.ensures.some in
    let each = done.ensures.serves behind.0 behind.1 in
    let left = each.2 in
    let last_kept = kept_at each.0 left.0 behind.0 each.1 left.2 in
    let next = (served_of done.result n c.number-from.result).next in
    let steps = steps_are done.result n c.number-from.result in
    rw (← c.self.view_is)
    (subst (λ (r : Progress). ServesNextIn shared may_be stored asked c.args.most x0 v r y v') (sym c.progress_of.ensures)
    (record {
      some = subst (λ (j : ℕ). 1 ≤ j) (sym steps) (some_steps done.result);
      few = subst (λ (j : ℕ). j ≤ c.args.most) (sym steps) (few_steps done.result c.args.most c.requires.most);
      serves = inr (inr (record {
        read = mid;
        taken = v1;
        later = later_of done.result;
        counted = steps;
        stays = take.ensures.stays;
        takes = each_read shared (may_be x0) (may_be mid)
            (λ found left seen. ServesSeen asked first seen (standing shared found v) 1 (standing shared left v1))
            take.ensures.stays
            (λ m may. one_seen asked first (standing shared m v) (cursor.Enter k) (standing shared m v1) m (taken_at m may));
        follows = each_from shared (may_be mid) (may_be y)
            (λ found left seen.
            ServesIn shared later x u lent found s1 c.behind-self.inside.out done.result u' done.new.queue left seen s' out')
            (λ found left seen.
            FollowsSeen asked later seen (standing shared found v1) (later_of done.result) (standing shared left v'))
            (λ found left seen was h. (kept_at found left seen was h).follows) done.ensures.serves;
      }));
      before = λ m. before_any shared left.0 m v' next (last_kept.before c.number-from.result);
    }))

pub returns-in-Err-clause-room : goal.returns-in-Err-clause-room
returns-in-Err-clause-room g c = λ n is h. absurd (cc is)

pub returns-in-Ok-Other-clause-room : goal.returns-in-Ok-Other-clause-room
returns-in-Ok-Other-clause-room g c = λ n is h. absurd (cc is)

pub returns-then-unit_index-len-clause-room : goal.returns-then-unit_index-len-clause-room
returns-then-unit_index-len-clause-room g c = λ n is h. absurd (cc is)

pub returns-else-unit_index-len-clause-room : goal.returns-else-unit_index-len-clause-room
returns-else-unit_index-len-clause-room g c = λ n is h. absurd (cc is)
