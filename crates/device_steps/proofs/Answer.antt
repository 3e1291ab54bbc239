-- The phase that answers the job in a seat's hand takes the turn of its event.
use Rattle.std.proofs.Common.{◌≡◌, ℕ, Bool, true, false, List, length, Some, refl, sym, ap, ◌∙◌, subst}
use Rattle.std.specs.Prelude.{slice_get, slice_set, map, ⊤}
use Rattle.ring_core.specs.State.{Owns}
use Rattle.ring_core.specs.Writes.{Write}
use Rattle.unit_model.specs.Jobs.{PlainJob}
use Rattle.device_model.specs.Parts.{Outcome, Slot, Hand}
use Rattle.device_model.specs.World.{PlainQueue, Seat, PlainWorld, Everywhere, change}
use Rattle.device_model.specs.Transitions.{Transition}
use Rattle.device_model.specs.Events.{Event}
use Rattle.device_model.specs.Changing.{completing, with_hand}
use Rattle.device_model.specs.Found.{HasHand}
use Rattle.device_model.proofs.Lists.{same, nothing}
use Rattle.device_model.proofs.Joining.{joins}
use Rattle.phases.specs.Parts.{answering_queue}
use Rattle.virtqueue.specs.Queue.{BareQueue}
use Rattle.phases.specs.Queue.{with_slot}
use Rattle.phases.specs.Direct.{decided_writes, StaysQueue}
use Rattle.phases.specs.Answering.{Answers}
use Rattle.phases.specs.Inner.Stored.{answered_writes}
use Rattle.phases.specs.Inner.InMemory.{as_seen, DoesQueueIn, AtQueueIn, AnswersIn, LetsGoIn, StaysQueueIn}
use Rattle.device_steps.specs.Kept.{KeptSeat, seat_of}
use Rattle.device_model.specs.Turns.{Turns}
use Rattle.device_steps.specs.Apart.{TurnsSeen}
use Rattle.device_steps.specs.Inner.Sound.{IsSound}
use Rattle.device_steps.proofs.Setting.{set_change}
use Rattle.device_steps.proofs.Seats.{seat_set, shown, one_there, with_queue_and_seat, moved_queue}
use Rattle.device_steps.proofs.InMemory.{turned}

module _ (stored : List Write → Type 0) (w : PlainWorld) (kept : List KeptSeat) (k : ℕ) (x : PlainJob) (o : Outcome) (jobs : List PlainJob) (limit : ℕ)
    (slot : Slot) (q r : BareQueue) (m n : List ℕ) (h : Hand) (seats : w.seats ≡ map seat_of kept)
    (at : slice_get kept k ≡ Some (record { hand = Hand.Done x o; jobs = jobs; limit = limit }))
    (there : slice_get w.queues x.chain.ticket.queue ≡ Some (with_slot slot q)) where
  -- the seat, as the device shows it
  abbrev held : HasHand w k (Hand.Done x o)
  held = (jobs, shown w kept k (record { hand = Hand.Done x o; jobs = jobs; limit = limit }) seats at)

  -- the job is answered
  answered : AtQueueIn w.shared (Transition.Answer k x o (as_seen n (decided_writes q.ring x.chain o))) q w.memory r m
      → h ≡ Hand.Answered x.unit x.chain.ticket → stored (decided_writes q.ring x.chain o)
      → TurnsSeen stored n w (Event.Answer k) true (with_queue_and_seat w m x.chain.ticket.queue (with_slot slot r) kept k
      (record { hand = h; jobs = jobs; limit = limit }))
  answered at_queue hs wrote =
      let xs = decided_writes q.ring x.chain o in
      let d = Transition.Answer k x o (as_seen n xs) in
      let i = x.chain.ticket.queue in
      let does = at_queue w.inventory slot in
      let hand = Hand.Answered x.unit x.chain.ticket in
      let s : KeptSeat = record { hand = Hand.Done x o; jobs = jobs; limit = limit } in
      let t : KeptSeat = record { hand = h; jobs = jobs; limit = limit } in
      let es : map seat_of (slice_set kept k t) ≡ change (with_hand hand) k w.seats =
      seat_set (with_hand hand) k kept s t at (ap (λ (z : Hand). record { hand = z; out = jobs }) hs)
      ∙ ap (λ (zs : List Seat). change (with_hand hand) k zs) (sym seats) in
      let g : PlainQueue → PlainQueue = completing n x.chain in
      let eq : slice_set w.queues i (with_slot slot r) ≡ change g i w.queues =
      ap (λ (z : PlainQueue). slice_set w.queues i z) does.queue ∙ set_change g i w.queues (with_slot slot q) there in (
        d,
        refl,
        joins d w held tt (with_slot slot q, there, does.asks w.missed),
        moved_queue w _ _ _ _ _ _ does.memory eq es,
        refl,
        wrote,
      )

  -- the queue owns the chain, so it isn't let go
  must_answer : IsSound w → Everywhere (λ i (q : PlainQueue). q.ring.memory ≡ length w.memory) w.queues
      → LetsGoIn q w.memory x.chain r m n → ⊥
  must_answer sound fits c =
      let job = (sound.owned.seats k _ held.1).0 in
      let is : job.chain.queue ≡ with_slot slot q =
      one_there w.queues x.chain.ticket.queue job.chain.queue (with_slot slot q) job.chain.there there in
      c.why (record {
        fits = sym (fits x.chain.ticket.queue _ there);
        owned = subst (λ (z : PlainQueue). Owns z.ring x.chain) is job.chain.owned;
      })

-- the phase takes the event's turn
pub answers : (stored : List Write → Type 0) (w : PlainWorld) (kept : List KeptSeat) (k i : ℕ) (hand : Hand) (jobs : List PlainJob) (limit : ℕ)
    (slot : Slot) (q r : BareQueue) (m n : List ℕ) (h : Hand) (b : Bool) → IsSound w
    → Everywhere (λ i (q : PlainQueue). q.ring.memory ≡ length w.memory) w.queues
    → w.seats ≡ map seat_of kept → slice_get kept k ≡ Some (record { hand = hand; jobs = jobs; limit = limit })
    → answering_queue hand ≡ Some i → slice_get w.queues i ≡ Some (with_slot slot q)
    → stored (answered_writes hand q.ring b) → AnswersIn w.shared hand q w.memory b r m n h
    → TurnsSeen stored n w (Event.Answer k) b (with_queue_and_seat w m i (with_slot slot r) kept k
    (record { hand = h; jobs = jobs; limit = limit }))
answers stored w kept k i Hand.Empty jobs limit slot q r m n h b sound fits seats at queue there wrote c = absurd (nothing queue)
answers stored w kept k i (Hand.Taken x) jobs limit slot q r m n h b sound fits seats at queue there wrote c = absurd (nothing queue)
answers stored w kept k i (Hand.Answered p t) jobs limit slot q r m n h b sound fits seats at queue there wrote c = absurd (nothing queue)
answers stored w kept k i (Hand.Done x o) jobs limit slot q r m n h true sound fits seats at queue there wrote c =
    let is : x.chain.ticket.queue ≡ i = same queue in
    subst (λ j. TurnsSeen stored n w (Event.Answer k) true (with_queue_and_seat w m j (with_slot slot r) kept k
    (record { hand = h; jobs = jobs; limit = limit }))) is
    (answered stored w kept k x o jobs limit slot q r m n h seats at (ap (λ n. slice_get w.queues n) is ∙ there) (c.0 k) c.1 wrote)
answers stored w kept k i (Hand.Done x o) jobs limit slot q r m n h false sound fits seats at queue there wrote c =
    let there_x = ap (λ n. slice_get w.queues n) (same queue) ∙ there in
    absurd (must_answer stored w kept k x o jobs limit slot q r m n h seats at there_x sound fits c.0)

-- where nothing is changed, what is left is found
own_stays : (q r : BareQueue) (m m' : List ℕ) → StaysQueue q r m m' → StaysQueueIn q r m m' m'
own_stays q r m m' h = record { queue = h.queue; memory = h.memory; seen = h.memory }

-- what the phase does on a memory of the device's own, as on any
own_answers : (shared : Bool) (hand : Hand) (q r : BareQueue) (m m' : List ℕ) (b : Bool) (h : Hand) → Answers hand q m b r m' h
    → AnswersIn shared hand q m b r m' m' h
own_answers shared Hand.Empty q r m m' true h c = absurd c
own_answers shared Hand.Empty q r m m' false h c = (own_stays q r m m' c.0, c.1)
own_answers shared (Hand.Taken x) q r m m' true h c = absurd c
own_answers shared (Hand.Taken x) q r m m' false h c = (own_stays q r m m' c.0, c.1)
own_answers shared (Hand.Answered p t) q r m m' true h c = absurd c
own_answers shared (Hand.Answered p t) q r m m' false h c = (own_stays q r m m' c.0, c.1)
own_answers shared (Hand.Done x o) q r m m' false h c =
    (record { why = c.0.why; stays = own_stays q r m m' c.0.stays }, c.1)
own_answers shared (Hand.Done x o) q r m m' true h c = (
  λ k inventory s.
      let does = c.0 k inventory s in
      subst (λ n. DoesQueueIn shared inventory (Transition.Answer k x o (as_seen n (decided_writes q.ring x.chain o)))
      (with_slot s q) m (with_slot s r) m') (sym does.memory)
      (record { asks = λ missed. does.asks shared missed; queue = does.queue; memory = does.memory }),
  c.1,
)

pub answers_own : (w : PlainWorld) (kept : List KeptSeat) (k i : ℕ) (hand : Hand) (jobs : List PlainJob) (limit : ℕ)
    (slot : Slot) (q r : BareQueue) (m : List ℕ) (h : Hand) (b : Bool) → IsSound w
    → Everywhere (λ i (q : PlainQueue). q.ring.memory ≡ length w.memory) w.queues
    → w.seats ≡ map seat_of kept → slice_get kept k ≡ Some (record { hand = hand; jobs = jobs; limit = limit })
    → answering_queue hand ≡ Some i → slice_get w.queues i ≡ Some (with_slot slot q) → Answers hand q w.memory b r m h
    → Turns w (Event.Answer k) b (with_queue_and_seat w m i (with_slot slot r) kept k
    (record { hand = h; jobs = jobs; limit = limit }))
answers_own w kept k i hand jobs limit slot q r m h b sound fits seats at queue there c =
    turned (λ ws. ⊤) m w (Event.Answer k) b _
    (answers (λ ws. ⊤) w kept k i hand jobs limit slot q r m m h b sound fits seats at queue there tt
    (own_answers w.shared hand q r w.memory m b h c))
