-- A request that is served at once: seven events, each the first that applies, one after another.
use Rattle.std.proofs.Common.{◌≡◌, ◌≤◌, ◌<◌, ◌+◌, ◌*◌, ℕ, zero, suc, Bool, true, false, List, [], ◌∷◌, length, Option, Some, None, Ok, refl, sym, ap, ◌∙◌, ◌++◌, subst, inl, inr, append-nil, arith}
use Rattle.std.specs.Prelude.{slice_get, slice_set, map, drop, ⊤}
use Rattle.std.specs.List.{AllByRecursion}
use Rattle.std.proofs.lemmas.Option.{slice_get_within}
use Rattle.ring_core.specs.Writes.{Write}
use Rattle.unit_model.specs.Jobs.{PlainJob, Jobs}
use Rattle.unit_model.specs.Unit.{PlainUnit}
use Rattle.device_model.specs.Parts.{Slot, Hand}
use Rattle.device_model.specs.World.{PlainQueue, PlainWorld, Seat, Everywhere, IsBefore, change}
use Rattle.device_model.specs.Events.{Event}
use Rattle.device_model.specs.Transitions.{Transition, event_of, action_of, completion_of}
use Rattle.device_model.specs.Waking.{IsFetch}
use Rattle.device_model.specs.Changing.{slotted, with_job}
use Rattle.device_model.specs.Applies.{Applies}
use Rattle.device_model.specs.Event.HandOff.{MayPut, MayTake}
use Rattle.device_model.specs.Event.Wake.{MayResume}
use Rattle.device_model.specs.Found.{HasHand}
use Rattle.device_model.specs.Standing.{SlotOwns}
use Rattle.device_model.specs.Turns.{Turns}
use Rattle.device_model.proofs.Lists.{same, get_change}
use Rattle.device_model.specs.Order.{of_seat}
use Rattle.virtqueue.specs.Queue.{BareQueue}
use Rattle.phases.specs.Queue.{with_slot}
use Rattle.phases.specs.declared.serving.Brought.{Brought}
use Rattle.phases.specs.declared.serving.Brought.TheVariants as brought
use Rattle.phases.specs.DoingUnit.{with_more}
use Rattle.phases.specs.Fetching.{FetchesRequest}
use Rattle.phases.specs.Units as phases
use Rattle.phases.specs.EventsInMemory.{SeesBy}
use Rattle.phases.specs.Inner.ServingInMemory.{ServesAtOnceIn, OnlyEntersIn, ServesIn}
use Rattle.device_steps.specs.Kept.{KeptSeat, seat_of}
use Rattle.device_steps.specs.Sound.{IsWhole}
use Rattle.device_steps.specs.Inner.Sound.{AreSound, IsSound}
use Rattle.device_steps.specs.Settling.{ServesBy}
use Rattle.device_steps.specs.Serving.{IsNoticedBy, TakesNoChain, FollowsSeen, writes_by}
use Rattle.device_steps.specs.Inner.Cursors.{MayServe, served_of, StepsNext, Sees, IsNone, TurnsBy, TurnsFirst, NoneBefore, NoneBeforeFetch, NoFetchBelow, NoSeat, NoEnter, NoSeatBelow}
use Rattle.device_steps.specs.declared.cursor.Cursor.{Cursor}
use Rattle.device_steps.specs.declared.cursor.Cursor.TheVariants as cursor
use Rattle.device_steps.proofs.Placing.{everywhere_set}
use Rattle.device_steps.proofs.Setting.{set_length, listing}
use Rattle.device_steps.proofs.Seats.{with_unit_and_seat, with_queue_and_seat, shown}
use Rattle.device_steps.proofs.Fetches.{request_turns, request_memory}
use Rattle.device_steps.proofs.Entering.{enters, entered_in}
use Rattle.device_steps.proofs.Handing.{puts, takes, no_item}
use Rattle.device_steps.proofs.Commit.{commits}
use Rattle.device_steps.proofs.Answer as answering
use Rattle.device_steps.proofs.Leave.{leaves, seat_with, keeps_limit}
use Rattle.device_steps.proofs.Stages as stages
use Rattle.device_steps.proofs.Choosing.{taken}
use Rattle.device_steps.proofs.Woken.{fetch_next, enter_next, seat_next}
use Rattle.device_steps.proofs.Reached.{whole_by_step}
use Rattle.device_steps.proofs.Sequences.{serves_none, serves_next}
use Rattle.device_steps.proofs.InMemory.{NeedsNone, fetch_seen}
use Rattle.device_steps.proofs.Once.{seen_left}
use Rattle.device_steps.proofs.EachTurn.{noticed, SeenToo}

-- what is set stands there
pub get_set : {X : Type 0} (xs : List X) (k : ℕ) (y : X) → k < length xs → slice_get (slice_set xs k y) k ≡ Some y
get_set [] k y lt = absurd (omega (arith, lt))
get_set (x ∷ xs) zero y lt = refl
get_set (x ∷ xs) (suc k) y lt = get_set xs k y (omega (arith, lt))

-- to set twice is to set once
set_twice : {X : Type 0} (xs : List X) (k : ℕ) (y z : X) → slice_set (slice_set xs k y) k z ≡ slice_set xs k z
set_twice [] k y z = refl
set_twice (x ∷ xs) zero y z = refl
set_twice (x ∷ xs) (suc k) y z = ap (λ l. x ∷ l) (set_twice xs k y z)

-- no list comes before the first seat's on its way round
none_before : (i : ℕ) → IsBefore 0 i 0 → ⊥
none_before i (inl p) = elim p.1 [ inl lt ↦ omega (arith, lt) | inr lt ↦ omega (arith, lt) ]
none_before i (inr p) = omega (arith, p.0)

-- a job that was put into the first list, which was empty, and taken from it leaves the lists as they were
put_taken : (x : PlainJob) (lists : List (List PlainJob)) → slice_get lists 0 ≡ Some []
    → change (drop 1) 0 (change (with_job x) 0 lists) ≡ lists
put_taken x [] e = refl
put_taken x (l ∷ ls) e =
    ap (λ (z : List PlainJob). z ∷ ls) (ap (λ (z : List PlainJob). drop 1 (with_job x z)) (same e) ∙ sym (same e))

empty_arrived : (y : PlainJob) → Slot.Empty ≡ Slot.Arrived y → ⊥
empty_arrived y e = cc

-- a seat with this in its hand and no jobs
abbrev pub bare : Hand → ℕ → KeptSeat
bare h limit = record { hand = h; jobs = []; limit = limit }

abbrev none : ℕ → Jobs
none limit = record { jobs = []; limit = limit }

none_below : (w : PlainWorld) → NoSeatBelow 0 w
none_below w k lt = absurd (omega (arith, lt))

-- the device once a request was served: memory, its queue, its unit and the first seat are set
abbrev pub set_all : PlainWorld → List ℕ → ℕ → PlainQueue → ℕ → PlainUnit → List KeptSeat → KeptSeat → PlainWorld
set_all w m i q p u kept s =
    record w {
      memory = m;
      queues = slice_set w.queues i q;
      units = slice_set w.units p u;
      seats = map seat_of (slice_set kept 0 s);
    }

-- What follows a chain that was taken

-- a transition that takes no chain and writes nothing; by this memory the notice of what it completes is decided
record Follows (seen : List ℕ) (t : Transition) : Type 0 where
  notice : IsNoticedBy seen (completion_of t)
  no_chain : TakesNoChain t
  unwritten : IsNone (action_of t).writes

-- events that need no memory complete nothing
quiet : (t : Transition) → NeedsNone (event_of t) → completion_of t ≡ None
quiet (Transition.UseBuffer f xs) none = absurd none
quiet (Transition.Direct c o xs) none = absurd none
quiet (Transition.Answer k x o xs) none = absurd none
quiet (Transition.Respond c r xs) none = absurd none
quiet (Transition.Give r c xs) none = absurd none
quiet t none = refl

unwritten : (t : Transition) → NeedsNone (event_of t) → IsNone (action_of t).writes
unwritten (Transition.UseBuffer f xs) none = absurd none
unwritten (Transition.Direct c o xs) none = absurd none
unwritten (Transition.Answer k x o xs) none = absurd none
unwritten (Transition.Respond c r xs) none = absurd none
unwritten (Transition.Give r c xs) none = absurd none
unwritten (Transition.Poke x) none = absurd none
unwritten t none = refl

no_fetch : (e : Event) → NeedsNone e → IsFetch e → ⊥
no_fetch (Event.Fetch i) none is = absurd none
no_fetch e none is = absurd is

by_quiet : (seen : List ℕ) (w : PlainWorld) (e : Event) (w' : PlainWorld) → NeedsNone e → Turns w e true w'
    → TurnsBy (Follows seen) w e w'
by_quiet seen w e w' none t =
    let needs : NeedsNone (event_of t.0) = subst NeedsNone (sym t.1) none in (
      t.0,
      t.1,
      t.2,
      t.3,
      record {
        notice = subst (λ o. IsNoticedBy seen o) (sym (quiet t.0 needs)) tt;
        no_chain = λ is. no_fetch (event_of t.0) needs is;
        unwritten = unwritten t.0 needs;
      },
    )

no_answer : (k : ℕ) → IsFetch (Event.Answer k) → ⊥
no_answer k h = h

-- some events follow
record Followed (asked : ℕ → Bool) (seen : List ℕ) (w : PlainWorld) (n : ℕ) (v : PlainWorld) : Type 0 where
  serves : ServesBy asked w n v
  each : AllByRecursion (λ t. IsNoticedBy seen (completion_of t)) serves.transitions
  no_chain : AllByRecursion TakesNoChain serves.transitions
  unwritten : IsNone (writes_by serves.transitions)

followed_none : (asked : ℕ → Bool) (seen : List ℕ) (w : PlainWorld) → Followed asked seen w 0 w
followed_none asked seen w = record { serves = serves_none asked w; each = tt; no_chain = tt; unwritten = refl }

none_more : (us ws : List Write) → IsNone us → IsNone ws → IsNone (us ++ ws)
none_more us ws none none' = ap (λ (xs : List Write). xs ++ ws) none ∙ none'

followed_next : (asked : ℕ → Bool) (seen : List ℕ) (w v : PlainWorld) (n : ℕ) (c : Cursor) (u : PlainWorld)
    → Followed asked seen w n v → StepsNext asked (Follows seen) v c u → Followed asked seen w (n + 1) u
followed_next asked seen w v n c u h t =
    let q = t.5 in
    record {
      serves = serves_next asked (Follows seen) w v n c u h.serves t;
      each = (q.notice, h.each);
      no_chain = (q.no_chain, h.no_chain);
      unwritten = none_more (writes_by h.serves.transitions) (action_of t.0).writes h.unwritten q.unwritten;
    }

-- behind what wrote nothing, its writes are all
all_writes : (stored : List Write → Type 0) (us ws : List Write) → IsNone us → stored ws → stored (us ++ ws)
all_writes stored us ws none made = subst stored (sym (ap (λ (xs : List Write). xs ++ ws) none)) made

followed_seen : (asked : ℕ → Bool) (stored : List Write → Type 0) (seen : List ℕ) (w v : PlainWorld) (n : ℕ) (c : Cursor)
    (u : PlainWorld) → Followed asked seen w n v → StepsNext asked (SeenToo stored u.memory seen) v c u
    → FollowsSeen asked stored seen w (n + 1) u
followed_seen asked stored seen w v n c u h t =
    let q = t.5 in
    record {
      serves = serves_next asked (SeenToo stored u.memory seen) w v n c u h.serves t;
      notices = record {
        each = (noticed u.memory seen (completion_of t.0) q.sees.sees, h.each);
        none = λ all. seen_left u.memory seen (completion_of t.0) q.sees.sees all.0;
      };
      stores = all_writes stored (writes_by h.serves.transitions) (action_of t.0).writes h.unwritten q.sees.stores;
      no_chain = (q.no_chain, h.no_chain);
    }

-- and where none follows, the writes are those of before
no_more : (stored : List Write → Type 0) (us ws : List Write) → IsNone ws → stored us → stored (us ++ ws)
no_more stored us ws none made = subst stored (sym (ap (λ (xs : List Write). us ++ xs) none ∙ append-nil us)) made

-- and one behind it that leaves memory as it was
followed_behind : (asked : ℕ → Bool) (stored : List Write → Type 0) (seen : List ℕ) (w v : PlainWorld) (n : ℕ) (c : Cursor)
    (u : PlainWorld) → FollowsSeen asked stored seen w n v → u.memory ≡ v.memory → StepsNext asked (Follows seen) v c u
    → FollowsSeen asked stored seen w (n + 1) u
followed_behind asked stored seen w v n c u h kept t =
    let q = t.5 in
    record {
      serves = serves_next asked (Follows seen) w v n c u h.serves t;
      notices = record { each = (q.notice, h.notices.each); none = λ all. h.notices.none all.1 ∙ sym kept };
      stores = no_more stored (writes_by h.serves.transitions) (action_of t.0).writes q.unwritten h.stores;
      no_chain = (q.no_chain, h.no_chain);
    }

-- the same device, by another name
follows_at : (asked : ℕ → Bool) (stored : List Write → Type 0) (seen : List ℕ) (w : PlainWorld) (n : ℕ) (v u : PlainWorld) → v ≡ u
    → FollowsSeen asked stored seen w n v → FollowsSeen asked stored seen w n u
follows_at asked stored seen w n v u is h = subst (λ z. FollowsSeen asked stored seen w n z) is h

-- the first seat's first event, where its hand is empty
first_put : (Q : Transition → Type 0) (w w' : PlainWorld) → HasHand w 0 Hand.Empty → TurnsBy Q w (Event.Put 0) w'
    → TurnsFirst Q (of_seat 0) w w'
first_put Q w w' there t =
    let idle = stages.free w 0 there in
    taken Q (of_seat 0) (Event.Put 0) w w'
    (λ a. inr (idle.leave, inr (idle.answer, inr (idle.commit, inl (a, refl))))) t

first_take : (Q : Transition → Type 0) (w w' : PlainWorld)
    → slice_get w.seats 0 ≡ Some (record { hand = Hand.Empty; out = [] }) → (Applies w (Event.Resume 0) → ⊥)
    → TurnsBy Q w (Event.Take 0) w' → TurnsFirst Q (of_seat 0) w w'
first_take Q w w' there no_resume t =
    let idle = stages.free w 0 ([], there) in
    let no_put : Applies w (Event.Put 0) → ⊥ =
    λ (m : MayPut w 0). no_item (ap (λ (z : Seat). z.out) (same (sym there ∙ m.seat))) in
    taken Q (of_seat 0) (Event.Take 0) w w'
    (λ a. inr (idle.leave, inr (idle.answer, inr (idle.commit, inr (no_put, inr (no_resume, inl (a, refl))))))) t

-- a fetch alone is one event, whatever comes behind it
pub fetches_only : (stored : List Write → Type 0) → stored [] → (asked : ℕ → Bool) (w : PlainWorld) (i : ℕ) (q q' : PlainQueue)
    → IsSound w → MayServe i w
    → slice_get w.queues i ≡ Some q → q.ring.memory ≡ length w.memory → NoneBeforeFetch w → NoFetchBelow asked i w
    → asked i ≡ true → FetchesRequest w.inventory w.memory q (Ok true) q'
    → StepsNext asked (Sees stored w.memory w.memory) w cursor.Start (record w { queues = slice_set w.queues i q' })
fetches_only stored nothing asked w i q q' sound may at fits before below is_asked fetched =
    let w' = record w { queues = slice_set w.queues i q' } in
    let turn = fetch_seen stored w i (Ok true) w' nothing (λ one. omega (arith, one, may.request))
    (request_turns w i q q' (Ok true) sound may.request at fits fetched) in
    fetch_next asked (Sees stored w.memory w.memory) w w' i cursor.Start before below may.there is_asked
    (turn.0, turn.1, turn.2, turn.3, record { sees = turn.4; stores = turn.5 }) (inl refl)

-- and where a request arrives, it comes to its unit next
pub takes_next : (stored : List Write → Type 0) → stored [] → (sound : AreSound) (asked : ℕ → Bool) (w : PlainWorld) → IsWhole w → (i : ℕ) (q : PlainQueue)
    → Everywhere (λ j (z : PlainQueue). z.ring.memory ≡ length w.memory) w.queues → MayServe i w → slice_get w.queues i ≡ Some q
    → NoneBeforeFetch w → NoFetchBelow asked i w → asked i ≡ true → (x : PlainJob) (lent : BareQueue)
    → FetchesRequest w.inventory w.memory q (Ok true) (with_slot (Slot.Arrived x) lent)
    → StepsNext asked (Sees stored w.memory w.memory) w (cursor.Enter i)
    (record w { queues = slice_set w.queues i (with_slot (Slot.Arrived x) lent) })
takes_next stored nothing sound asked w whole i q fits may at before below on x lent fetched =
    let q1 = with_slot (Slot.Arrived x) lent in
    let w1 = record w { queues = slice_set w.queues i q1 } in
    let turn = fetch_seen stored w i (Ok true) w1 nothing (λ one. omega (arith, one, may.request))
    (request_turns w i q q1 (Ok true) (sound w whole.reached) may.request at (fits i q at) fetched) in
    fetch_next asked (Sees stored w.memory w.memory) w w1 i (cursor.Enter i) before below may.there on
    (turn.0, turn.1, turn.2, turn.3, record { sees = turn.4; stores = turn.5 })
    (inr (refl, may.closed, (x, (q1, get_set w.queues i q1 may.there, refl))))

-- whatever was stored
abbrev Any : List Write → Type 0
Any ws = ⊤

module _ (sound : AreSound) (asked : ℕ → Bool) (w : PlainWorld) (whole : IsWhole w) (i : ℕ) (q : PlainQueue) (limit : ℕ)
    (rest : List KeptSeat)
    (are : w.seats ≡ map seat_of (bare Hand.Empty limit ∷ rest))
    (fits : Everywhere (λ j (z : PlainQueue). z.ring.memory ≡ length w.memory) w.queues)
    (limits : Everywhere (λ k (s : KeptSeat). s.limit ≡ 64 * length w.units + 64) (bare Hand.Empty limit ∷ rest))
    (may : MayServe i w) (q_at : slice_get w.queues i ≡ Some q) (before : NoneBeforeFetch w) (below : NoFetchBelow asked i w)
    (is_asked : asked i ≡ true)
    (x : PlainJob) (lent : BareQueue)
    (fetched : FetchesRequest w.inventory w.memory q (Ok true) (with_slot (Slot.Arrived x) lent)) where
  abbrev q1 : PlainQueue
  q1 = with_slot (Slot.Arrived x) lent

  abbrev w1 : PlainWorld
  w1 = record w { queues = slice_set w.queues i q1 }

  at1 : slice_get w1.queues i ≡ Some q1
  at1 = get_set w.queues i q1 may.there

  next1 : StepsNext asked (Sees Any w.memory w.memory) w (cursor.Enter i) w1
  next1 = takes_next Any tt sound asked w whole i q fits may q_at before below is_asked x lent fetched

  whole1 : IsWhole w1
  whole1 = whole_by_step asked (Sees Any w.memory w.memory) w (cursor.Enter i) w1 whole next1

  lt1 : i < length w1.queues
  lt1 = omega (arith, set_length i w.queues q1, may.there)

  fits1 : Everywhere (λ j (z : PlainQueue). z.ring.memory ≡ length w.memory) w1.queues
  fits1 =
      everywhere_set (λ j (z : PlainQueue). z.ring.memory ≡ length w.memory) i w.queues q1 fits
      (request_memory w.inventory w.memory q q1 (Ok true) fetched ∙ fits i q q_at)

  own : x.chain.ticket.queue ≡ i
  own = let owns : SlotOwns w1 i (Slot.Arrived x) = (sound w1 whole1.reached).owned.slots i q1 at1 in owns.0

  module _ (stored : List Write → Type 0) (u u' : PlainUnit) (u_at : slice_get w.units x.unit ≡ Some u) (s' : Slot) (q' : BareQueue) (m' seen : List ℕ)
      (out' : Jobs) where
    enter_turn : (v : PlainUnit) (slot : Slot) (out : Jobs) → phases.EntersAs x u (none limit) v slot out
        → Turns w1 (Event.Enter i) true
        (entered_in w1 (bare Hand.Empty limit ∷ rest) i (slotted slot q1) x.unit v 0 (listing out (bare Hand.Empty limit)))
    enter_turn v slot out e =
        enters w1 (bare Hand.Empty limit ∷ rest) are (sound w1 whole1.reached) limits i x.unit 0 q1 u
        (bare Hand.Empty limit) (sym may.own) at1 u_at refl slot v out (Slot.Arrived x) refl refl true e

    module _ (s : OnlyEntersIn stored x u lent w.memory (none limit) u' q' m' seen s' out') where
      abbrev e2 : PlainWorld
      e2 =
          entered_in w1 (bare Hand.Empty limit ∷ rest) i (slotted s' q1) x.unit u' 0
          (listing (with_more s.more (none limit)) (bare Hand.Empty limit))

      only_next : StepsNext asked (SeenToo stored w.memory seen) w1 cursor.Start e2
      only_next =
          let t = enter_turn u' s' (with_more s.more (none limit)) (s.enters (none limit)) in
          let q = by_quiet seen w1 (Event.Enter i) e2 tt t in
          let needs : NeedsNone (event_of q.0) = subst NeedsNone (sym q.1) tt in
          let sees : SeesBy (completion_of q.0) w.memory seen =
          subst (λ o. SeesBy o w.memory seen) (sym (quiet q.0 needs)) s.at_queue.seen in
          let follows = q.4 in
          enter_next asked (SeenToo stored w.memory seen) w1 e2 i cursor.Start next1.4.0 next1.4.1 next1.4.2 next1.4.3 lt1 (
            q.0,
            q.1,
            q.2,
            q.3,
            record {
              sees = record { sees = sees; stores = subst stored (sym follows.unwritten) s.stores };
              no_chain = follows.no_chain;
            },
          ) (inl refl)

      pub only_is : e2 ≡ set_all w m' i (with_slot s' q') x.unit u' (bare Hand.Empty limit ∷ rest) (seat_with Hand.Empty out')
      only_is =
          let seats = map seat_of (seat_with Hand.Empty (with_more s.more (none limit)) ∷ rest) in
          let units = slice_set w.units x.unit u' in
          ap (λ (qs : List PlainQueue). record w { queues = qs; units = units; seats = seats })
          (set_twice w.queues i q1 (with_slot s' lent))
          ∙ ap (λ (l : BareQueue). record w { queues = slice_set w.queues i (with_slot s' l); units = units; seats = seats })
          (sym s.at_queue.queue)
          ∙ ap (λ (m : List ℕ). record w {
            memory = m;
            queues = slice_set w.queues i (with_slot s' q');
            units = units;
            seats = seats;
          }) (sym s.at_queue.memory)
          ∙ ap (λ (o : Jobs). set_all w m' i (with_slot s' q') x.unit u' (bare Hand.Empty limit ∷ rest) (seat_with Hand.Empty o))
          (sym s.jobs)

      pub only_follows : FollowsSeen asked stored seen w1 1
          (set_all w m' i (with_slot s' q') x.unit u' (bare Hand.Empty limit ∷ rest) (seat_with Hand.Empty out'))
      only_follows =
          follows_at asked stored seen w1 1 e2
          (set_all w m' i (with_slot s' q') x.unit u' (bare Hand.Empty limit ∷ rest) (seat_with Hand.Empty out')) only_is
          (followed_seen asked stored seen w1 w1 0 cursor.Start e2 (followed_none asked seen w1) only_next)

    module _ (gone : Bool) (s : ServesAtOnceIn w.shared stored x u lent w.memory (none limit) gone u' q' m' seen out') where
      abbrev w2 : PlainWorld
      w2 =
          entered_in w1 (bare Hand.Empty limit ∷ rest) i (slotted Slot.Empty q1) x.unit s.entered 0
          (listing (with_more (x ∷ []) (none limit)) (bare Hand.Empty limit))

      at2 : slice_get w2.queues i ≡ Some (slotted Slot.Empty q1)
      at2 = get_set w1.queues i (slotted Slot.Empty q1) lt1

      next2 : StepsNext asked (Follows seen) w1 cursor.Seats w2
      next2 =
          enter_next asked (Follows seen) w1 w2 i cursor.Seats next1.4.0 next1.4.1 next1.4.2 next1.4.3 lt1
          (by_quiet seen w1 (Event.Enter i) w2 tt
          (enter_turn s.entered Slot.Empty (with_more (x ∷ []) (none limit)) (s.enters (none limit))))
          (inr (refl, (slotted Slot.Empty q1, at2, refl)))

      whole2 : IsWhole w2
      whole2 = whole_by_step asked (Follows seen) w1 cursor.Seats w2 whole1 next2

      abbrev w3 : PlainWorld
      w3 =
          record w2 {
            seats = map seat_of (bare Hand.Empty limit ∷ rest);
            handed_off = change (with_job x) 0 w.handed_off;
            limit = w.limit;
          }

      next3 : StepsNext asked (Follows seen) w2 cursor.Seats w3
      next3 =
          let put = puts w2 (record { hand = Hand.Empty; jobs = x ∷ []; limit = limit } ∷ rest) refl 0
          (record { hand = Hand.Empty; jobs = x ∷ []; limit = limit }) (bare Hand.Empty limit) refl x
          (record { lists = change (with_job x) 0 w.handed_off; limit = w.limit }) refl refl refl
          (record { off = []; there = may.handed_off; room = may.room; after = refl }) in
          seat_next asked (Follows seen) w2 w3 0 cursor.Seats next2.4.0 next2.4.1 (none_below w2) (omega arith)
          (first_put (Follows seen) w2 w3 (x ∷ [], refl) (by_quiet seen w2 (Event.Put 0) w3 tt put)) (inr (refl, may.closed))

      whole3 : IsWhole w3
      whole3 = whole_by_step asked (Follows seen) w2 cursor.Seats w3 whole2 next3

      abbrev w4 : PlainWorld
      w4 =
          record w3 {
            seats = map seat_of (bare (Hand.Taken x) limit ∷ rest);
            handed_off = change (drop 1) 0 (change (with_job x) 0 w.handed_off);
            limit = w.limit;
          }

      next4 : StepsNext asked (Follows seen) w3 cursor.Seats w4
      next4 =
          let worker : 0 < w.workers = omega (arith, (sound w whole.reached).working) in
          let take = takes w3 (bare Hand.Empty limit ∷ rest) refl 0 (bare Hand.Empty limit) (bare (Hand.Taken x) limit) refl x
          (record { lists = change (drop 1) 0 (change (with_job x) 0 w.handed_off); limit = w.limit }) worker refl refl refl
          (record {
            from = 0;
            rest = [];
            there = get_change (with_job x) 0 w.handed_off [] may.handed_off;
            first = λ i jobs before there. absurd (none_before i before);
            after = refl;
          }) in
          let there : slice_get w.seats 0 ≡ Some (record { hand = Hand.Empty; out = [] }) =
          ap (λ (l : List Seat). slice_get l 0) are in
          let seat : 0 < length w.seats = subst (λ (l : List Seat). 0 < length l) (sym are) (omega arith) in
          let no_resume : Applies w3 (Event.Resume 0) → ⊥ =
          λ (m : MayResume w3 0). (before.2 0 seat).1.1.1.1.0
          (record { worker = m.worker; free = ([], there); job = m.job; rest = m.rest; first = m.first }) in
          seat_next asked (Follows seen) w3 w4 0 cursor.Seats next3.4.0 next3.4.1 (none_below w3) (omega arith)
          (first_take (Follows seen) w3 w4 refl no_resume (by_quiet seen w3 (Event.Take 0) w4 tt take)) (inr (refl, may.closed))

      whole4 : IsWhole w4
      whole4 = whole_by_step asked (Follows seen) w3 cursor.Seats w4 whole3 next4

      unit_there : x.unit < length w.units
      unit_there = slice_get_within w.units x.unit u u_at

      abbrev w5 : PlainWorld
      w5 =
          with_unit_and_seat w4 x.unit s.committed (bare (Hand.Taken x) limit ∷ rest) 0
          (bare (Hand.Done x s.outcome) limit)

      next5 : StepsNext asked (Follows seen) w4 cursor.Seats w5
      next5 =
          let commit = commits w4 (bare (Hand.Taken x) limit ∷ rest) 0 x.unit (Hand.Taken x) [] limit s.entered s.committed
          (Hand.Done x s.outcome) (sound w4 whole4.reached) refl refl refl
          (get_set w.units x.unit s.entered unit_there) s.commits in
          seat_next asked (Follows seen) w4 w5 0 cursor.Seats next4.4.0 next4.4.1 (none_below w4) (omega arith)
          (taken (Follows seen) (of_seat 0) (Event.Commit 0) w4 w5 (λ a. stages.commits_first w4 0 (Hand.Taken x) ([], refl) refl)
          (by_quiet seen w4 (Event.Commit 0) w5 tt commit)) (inr (refl, may.closed))

      whole5 : IsWhole w5
      whole5 = whole_by_step asked (Follows seen) w4 cursor.Seats w5 whole4 next5

      abbrev w6 : PlainWorld
      w6 =
          with_queue_and_seat w5 m' i (with_slot Slot.Empty q') (bare (Hand.Done x s.outcome) limit ∷ rest) 0
          (bare (Hand.Answered x.unit x.chain.ticket) limit)

      next6 : StepsNext asked (SeenToo stored m' seen) w5 cursor.Seats w6
      next6 =
          let answer = answering.answers stored w5 (bare (Hand.Done x s.outcome) limit ∷ rest) 0 i (Hand.Done x s.outcome) [] limit
          Slot.Empty lent q' m' seen (Hand.Answered x.unit x.chain.ticket) true (sound w5 whole5.reached)
          (everywhere_set (λ j (z : PlainQueue). z.ring.memory ≡ length w.memory) i w1.queues (slotted Slot.Empty q1) fits1
          (fits1 i q1 at1)) refl refl (ap (λ (k : ℕ). Some k) own) at2 s.stores s.answers in
          let by : TurnsBy (SeenToo stored m' seen) w5 (Event.Answer 0) w6 = (
            answer.0,
            answer.1,
            answer.2,
            answer.3,
            record {
              sees = record { sees = answer.4; stores = answer.5 };
              no_chain = λ is. no_answer 0 (subst IsFetch answer.1 is);
            },
          ) in
          seat_next asked (SeenToo stored m' seen) w5 w6 0 cursor.Seats next5.4.0 next5.4.1 (none_below w5) (omega arith)
          (taken (SeenToo stored m' seen) (of_seat 0) (Event.Answer 0) w5 w6
          (λ a. stages.answers_first w5 0 (Hand.Done x s.outcome) ([], refl) refl) by) (inr (refl, may.closed))

      whole6 : IsWhole w6
      whole6 = whole_by_step asked (SeenToo stored m' seen) w5 cursor.Seats w6 whole5 next6

      limits6 : Everywhere (λ k (z : KeptSeat). z.limit ≡ 64 * length w6.units + 64)
          (bare (Hand.Answered x.unit x.chain.ticket) limit ∷ rest)
      limits6 =
          let size : length w.units ≡ length w6.units =
          sym (set_length x.unit (slice_set w.units x.unit s.entered) s.committed ∙ set_length x.unit w.units s.entered) in
          subst (λ (n : ℕ). Everywhere (λ k (z : KeptSeat). z.limit ≡ 64 * n + 64)
          (bare (Hand.Answered x.unit x.chain.ticket) limit ∷ rest)) size
          (everywhere_set (λ k (z : KeptSeat). z.limit ≡ 64 * length w.units + 64) 0 (bare Hand.Empty limit ∷ rest)
          (bare (Hand.Answered x.unit x.chain.ticket) limit) limits (limits 0 (bare Hand.Empty limit) refl))

      abbrev w7 : PlainWorld
      w7 =
          with_unit_and_seat w6 x.unit u' (bare (Hand.Answered x.unit x.chain.ticket) limit ∷ rest) 0
          (seat_with Hand.Empty out')

      leave_turn : Turns w6 (Event.Leave 0) gone w7
      leave_turn =
          let there : x.unit < length (slice_set w.units x.unit s.entered) =
          omega (arith, set_length x.unit w.units s.entered, unit_there) in
          leaves w6 (bare (Hand.Answered x.unit x.chain.ticket) limit ∷ rest) 0 x.unit
          (Hand.Answered x.unit x.chain.ticket) s.committed u' (none limit) out' Hand.Empty gone (sound w6 whole6.reached)
          limits6 refl refl refl (get_set (slice_set w.units x.unit s.entered) x.unit s.committed there) s.leaves

      -- the task is known, so that it leaves
      left_so : (b : Bool) → Turns w6 (Event.Leave 0) b w7 → Turns w6 (Event.Leave 0) true w7
      left_so true t = t
      left_so false t = absurd (t.1 (x.unit, x.chain.ticket, ([], refl)))

      next7 : StepsNext asked (Follows seen) w6 cursor.Seats w7
      next7 =
          seat_next asked (Follows seen) w6 w7 0 cursor.Seats next6.4.0 next6.4.1 (none_below w6) (omega arith)
          (taken (Follows seen) (of_seat 0) (Event.Leave 0) w6 w7
          (λ a. stages.leaves_first w6 0 (Hand.Answered x.unit x.chain.ticket) ([], refl) refl)
          (by_quiet seen w6 (Event.Leave 0) w7 tt (left_so gone leave_turn))) (inr (refl, may.closed))

      abbrev last : PlainWorld
      last = set_all w m' i (with_slot Slot.Empty q') x.unit u' (bare Hand.Empty limit ∷ rest) (seat_with Hand.Empty out')

      last_is : w7 ≡ last
      last_is =
          let seats = map seat_of (seat_with Hand.Empty out' ∷ rest) in
          ap (λ (qs : List PlainQueue). record w7 { queues = qs })
          (set_twice (slice_set w.queues i q1) i (slotted Slot.Empty q1) (with_slot Slot.Empty q')
          ∙ set_twice w.queues i q1 (with_slot Slot.Empty q'))
          ∙ ap (λ (us : List PlainUnit). record w7 { queues = slice_set w.queues i (with_slot Slot.Empty q'); units = us })
          (set_twice (slice_set w.units x.unit s.entered) x.unit s.committed u'
          ∙ set_twice w.units x.unit s.entered u')
          ∙ ap (λ (l : List (List PlainJob)). record last { handed_off = l }) (put_taken x w.handed_off may.handed_off)

      pub follows : FollowsSeen asked stored seen w1 6 last
      follows =
          let f5 = followed_next asked seen w1 w4 3 cursor.Seats w5
          (followed_next asked seen w1 w3 2 cursor.Seats w4
          (followed_next asked seen w1 w2 1 cursor.Seats w3
          (followed_next asked seen w1 w1 0 cursor.Seats w2 (followed_none asked seen w1) next2) next3) next4) next5 in
          follows_at asked stored seen w1 6 w7 last last_is
          (followed_behind asked stored seen w1 w6 5 cursor.Seats w7
          (followed_seen asked stored seen w1 w5 4 cursor.Seats w6 f5 next6) refl next7)

      pub before_seats : NoneBefore cursor.Seats last
      before_seats = subst (NoneBefore cursor.Seats) last_is next7.4

      -- where the seat has no job to hand off, it is as it was
      seats_are : out'.jobs ≡ [] → last.seats ≡ w.seats
      seats_are empty =
          ap (λ (l : List PlainJob). record { hand = Hand.Empty; out = l } ∷ map seat_of rest) empty ∙ sym are

      still_seat : (l : List Seat) → l ≡ w.seats → NoSeat (record last { seats = l })
      still_seat l is =
          subst (λ (z : List Seat). NoSeat (record last { seats = z })) (sym is)
          (λ k lt.
          let h = before.2 k lt in (
            h.0,
            (
              h.1.0,
              (
                h.1.1.0,
                (
                  (λ (m : MayPut (record last { seats = w.seats }) k).
                      h.1.1.1.0 (record { job = m.job; rest = m.rest; seat = m.seat })),
                  (
                    (λ (m : MayResume (record last { seats = w.seats }) k).
                        h.1.1.1.1.0 (record {
                          worker = m.worker;
                          free = m.free;
                          job = m.job;
                          rest = m.rest;
                          first = m.first;
                        })),
                    (
                      (λ (m : MayTake (record last { seats = w.seats }) k).
                          h.1.1.1.1.1.0 (record {
                            worker = m.worker;
                            seat = m.seat;
                            from = m.from;
                            job = m.job;
                            rest = m.rest;
                            handed_off = m.handed_off;
                          })),
                      tt,
                    ),
                  ),
                ),
              ),
            ),
          ))

      no_enter : NoEnter last
      no_enter j lt a =
          let old : Everywhere (λ k (z : PlainQueue). (y : PlainJob) → z.slot ≡ Slot.Arrived y → ⊥) w.queues =
          λ k z at y is. before.3 k (slice_get_within w.queues k z at) (y, (z, at, is)) in
          let all = everywhere_set (λ k (z : PlainQueue). (y : PlainJob) → z.slot ≡ Slot.Arrived y → ⊥) i w.queues
          (with_slot Slot.Empty q') old (λ y is. empty_arrived y is) in
          all j a.1.0 a.1.1 a.0 a.1.2

      pub before_fetch : out'.jobs ≡ [] → (k : ℕ) → NoneBefore (cursor.Fetch k) last
      before_fetch empty k =
          (before_seats.0, before_seats.1, still_seat last.seats (seats_are empty), no_enter)

-- the first seat has nothing in its hand and no jobs
pub seat_bare : (w : PlainWorld) (i : ℕ) (kept : List KeptSeat) (s : KeptSeat) → w.seats ≡ map seat_of kept
    → slice_get kept 0 ≡ Some s → MayServe i w → s ≡ bare Hand.Empty s.limit
seat_bare w i kept s are at may =
    let there : slice_get w.seats 0 ≡ Some (seat_of s) = shown w kept 0 s are at in
    ap (λ (z : Seat). record { hand = z.hand; jobs = z.out; limit = s.limit }) (same (sym there ∙ may.seat))

-- so its list has room for all that a unit may hand out
pub has_room : (s : KeptSeat) (n : ℕ) → s ≡ bare Hand.Empty s.limit → s.limit ≡ 64 * n + 64 → length s.jobs + 64 ≤ s.limit
has_room s n is many =
    let none : length s.jobs ≡ 0 = ap (λ (z : KeptSeat). length z.jobs) is in
    omega (arith, none, many)

-- what is served keeps the room of the list
pub serves_keeps : (shared : Bool) (stored : List Write → Type 0) (x : PlainJob) (u u' : PlainUnit) (q q' : BareQueue) (m m' seen : List ℕ) (s s' : Slot)
    (out out' : Jobs) (done : Brought) → ServesIn shared stored x u q m s out done u' q' m' seen s' out'
    → out'.limit ≡ out.limit
serves_keeps shared stored x u u' q q' m m' seen s s' out out' brought.Waits h = ap (λ (z : Jobs). z.limit) h.jobs
serves_keeps shared stored x u u' q q' m m' seen s s' out out' (brought.Answered gone) h =
    keeps_limit (Hand.Answered x.unit x.chain.ticket) h.0.committed u' out out' gone Hand.Empty h.0.leaves

-- how many events follow its chain
abbrev pub later_of : Brought → ℕ
later_of brought.Waits = 1
later_of (brought.Answered gone) = 6

pub steps_are : (done : Brought) (n k : ℕ) → (served_of done n k).steps ≡ 1 + later_of done
steps_are brought.Waits n k = refl
steps_are (brought.Answered gone) zero k = refl
steps_are (brought.Answered gone) (suc n) k = refl

pub some_steps : (done : Brought) → 1 ≤ 1 + later_of done
some_steps brought.Waits = omega arith
some_steps (brought.Answered gone) = omega arith

pub few_steps : (done : Brought) (most : ℕ) → 7 ≤ most → 1 + later_of done ≤ most
few_steps brought.Waits most few = omega (arith, few)
few_steps (brought.Answered gone) most few = omega (arith, few)

-- where to look then
looks_so : (v : PlainWorld) (n k : ℕ) (gone : Bool) (jobs : List PlainJob) → n ≡ length jobs → NoneBefore cursor.Seats v
    → (jobs ≡ [] → NoneBefore (cursor.Fetch k) v) → NoneBefore (served_of (brought.Answered gone) n k).next v
looks_so v zero k gone [] is seats fetch = fetch refl
looks_so v zero k gone (j ∷ jobs) is seats fetch = absurd (omega (arith, is))
looks_so v (suc n) k gone jobs is seats fetch = seats

-- what follows of a request that was taken: so many events, each the first that applies; and where to look then
pub record ServedKept (asked : ℕ → Bool) (stored : List Write → Type 0) (seen : List ℕ) (w v : PlainWorld) (done : Brought)
    (n : ℕ) : Type 0 where
  pub follows : FollowsSeen asked stored seen w (later_of done) v
  pub before : (k : ℕ) → NoneBefore (served_of done n k).next v

pub serves_kept : (stored : List Write → Type 0) (sound : AreSound) (asked : ℕ → Bool) (w : PlainWorld) → IsWhole w → (i : ℕ) (q : PlainQueue) (limit : ℕ)
    (kept rest : List KeptSeat) → kept ≡ bare Hand.Empty limit ∷ rest → w.seats ≡ map seat_of kept
    → Everywhere (λ j (z : PlainQueue). z.ring.memory ≡ length w.memory) w.queues
    → Everywhere (λ k (s : KeptSeat). s.limit ≡ 64 * length w.units + 64) kept
    → MayServe i w → slice_get w.queues i ≡ Some q → NoneBeforeFetch w → NoFetchBelow asked i w → asked i ≡ true
    → (x : PlainJob) (lent : BareQueue) → FetchesRequest w.inventory w.memory q (Ok true) (with_slot (Slot.Arrived x) lent)
    → (u u' : PlainUnit) → slice_get w.units x.unit ≡ Some u → (s s' : Slot) (q' : BareQueue) (m' seen : List ℕ) (out' : Jobs)
    → s ≡ Slot.Empty → (done : Brought)
    → ServesIn w.shared stored x u lent w.memory s (record { jobs = []; limit = limit }) done u' q' m' seen s' out' → (n : ℕ)
    → n ≡ length out'.jobs
    → ServedKept asked stored seen (record w { queues = slice_set w.queues i (with_slot (Slot.Arrived x) lent) })
    (set_all w m' i (with_slot s' q') x.unit u' kept (seat_with Hand.Empty out')) done n
serves_kept stored a asked w b i q l kept rest ka are f g may at bf bl on x t ft u u' ut s s' q' m' seen out' e brought.Waits h n is =
    let are' = are ∙ ap (λ (ks : List KeptSeat). map seat_of ks) ka in
    let limits' = subst (λ (ks : List KeptSeat). Everywhere (λ k (z : KeptSeat). z.limit ≡ 64 * length w.units + 64) ks) ka
    g in
    let w1 = record w { queues = slice_set w.queues i (with_slot (Slot.Arrived x) t) } in
    subst (λ (ks : List KeptSeat).
    ServedKept asked stored seen w1 (set_all w m' i (with_slot s' q') x.unit u' ks (seat_with Hand.Empty out')) brought.Waits n) (sym ka)
    (record {
      follows = only_follows a asked w b i q l rest are' f limits' may at bf bl on x t ft stored u u' ut s' q' m' seen out' h;
      before = λ k. tt;
    })
serves_kept stored a asked w b i q l kept rest ka are f g may at bf bl on x t ft u u' ut s s' q' m' seen out' e (brought.Answered gone) h n is =
    let are' = are ∙ ap (λ (ks : List KeptSeat). map seat_of ks) ka in
    let limits' = subst (λ (ks : List KeptSeat). Everywhere (λ k (z : KeptSeat). z.limit ≡ 64 * length w.units + 64) ks) ka
    g in
    let slot : Slot.Empty ≡ s' = sym (h.1 ∙ e) in
    let w1 = record w { queues = slice_set w.queues i (with_slot (Slot.Arrived x) t) } in
    let v = set_all w m' i (with_slot Slot.Empty q') x.unit u' (bare Hand.Empty l ∷ rest) (seat_with Hand.Empty out') in
    let seats : NoneBefore cursor.Seats v =
    before_seats a asked w b i q l rest are' f limits' may at bf bl on x t ft stored u u' ut s' q' m' seen out' gone h.0 in
    let fetch : out'.jobs ≡ [] → (k : ℕ) → NoneBefore (cursor.Fetch k) v =
    before_fetch a asked w b i q l rest are' f limits' may at bf bl on x t ft stored u u' ut s' q' m' seen out' gone h.0 in
    let base : ServedKept asked stored seen w1 v (brought.Answered gone) n =
    record {
      follows = follows a asked w b i q l rest are' f limits' may at bf bl on x t ft stored u u' ut s' q' m' seen out' gone h.0;
      before = λ k. looks_so v n k gone out'.jobs is seats (λ none. fetch none k);
    } in
    subst (λ (ks : List KeptSeat).
    ServedKept asked stored seen w1 (set_all w m' i (with_slot s' q') x.unit u' ks (seat_with Hand.Empty out')) (brought.Answered gone) n) (sym ka)
    (subst (λ (z : Slot).
    ServedKept asked stored seen w1 (set_all w m' i (with_slot z q') x.unit u' (bare Hand.Empty l ∷ rest) (seat_with Hand.Empty out'))
    (brought.Answered gone) n) slot base)
