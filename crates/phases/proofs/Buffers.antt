-- What a fetch from the event queue does, as transitions.
use Rattle.std.proofs.Common.{◌≡◌, ℕ, List, [], ◌∷◌, ◌++◌, length, Bool, true, false, ◌||◌, refl, ap, sym, ◌∙◌, subst, arith}
use Rattle.std.specs.Prelude.{take, drop, min}
use Rattle.std.proofs.lemmas.List.{length-append, length-take, length-drop}
use Rattle.guest_mem.specs.Memory.{with_bytes}
use Rattle.ring_core.specs.State.{RingState, PlainChain}
use Rattle.ring_core.specs.Fetch.{Takes}
use Rattle.ring_core.specs.Writes.{Write, all_written}
use Rattle.ring_core.specs.declared.log.Ticket.{Ticket}
use Rattle.event_queue.specs.Port.{PlainPort}
use Rattle.device_model.specs.Parts.{PlainFetch, IsSeen, Slot, answer_writes, is_short}
use Rattle.device_model.specs.Transitions.{Transition, completion_of}
use Rattle.device_model.specs.Changing.{with_chain}
use Rattle.device_model.specs.Event.Fetch.{spent_bytes}
use Rattle.device_model.proofs.Seeing.{seen_as_left}
use Rattle.virtqueue.specs.Queue.{BareQueue, completing}
use Rattle.phases.specs.Queue.{with_slot}
use Rattle.virtqueue.specs.Looking.{Breaks}
use Rattle.phases.specs.EventQueue.{IsEventFetch}
use Rattle.phases.specs.Inner.InMemory.{as_seen}
use Rattle.phases.specs.Inner.EventsInMemory.{DoesAtPortIn, TakesBuffer}
use Rattle.phases.specs.Inner.Stored.{spent_writes, writes_of}

-- what one lock lends is the same where its parts are
same_lent : (q : BareQueue) (r : RingState) (n : ℕ) → q.ring ≡ r → q.notices ≡ n → q ≡ record { ring = r; notices = n }
same_lent q r n ring notices =
    ap (λ (x : RingState). record q { ring = x }) ring ∙ ap (λ (x : ℕ). record { ring = r; notices = x }) notices

-- A chain with these bytes was taken from the event queue:
module _ (old new : BareQueue) (m : List ℕ) (c : PlainChain) (bytes : List ℕ) (s : Slot) (p : PlainPort)
    (taken : Takes old.ring m c bytes new.ring) (same : new.notices ≡ old.notices) (event : old.ring.queue ≡ 1) where
  abbrev fetch : PlainFetch
  fetch = record { chain = c; bytes = bytes }

  -- the queue with the chain accepted
  abbrev accepted : BareQueue
  accepted = record { ring = with_chain c old.ring; notices = old.notices }

  abbrev writes : List Write
  writes = answer_writes (with_chain c old.ring) c (spent_bytes c)

  gives : Takes old.ring m c bytes (with_chain c old.ring)
  gives = subst (λ (r : RingState). Takes old.ring m c bytes r) taken.after taken

  of_queue : c.ticket.queue ≡ 1
  of_queue = ap (λ (t : Ticket). t.queue) taken.ticket ∙ event

  is_accepted : new ≡ accepted
  is_accepted = same_lent new (with_chain c old.ring) old.notices taken.after same

  -- the transition that the taking of the buffer is
  pub buffer_taken : (shared : Bool) (stored : List Write → Type 0) (q' : BareQueue) (left seen : List ℕ) (p' : PlainPort) (b : Bool)
      → (is_short c || p.missed) ≡ b → IsSeen shared left seen → TakesBuffer b c new m p q' left seen p' → stored (spent_writes b c new.ring)
      → (d : Transition) × IsEventFetch d × DoesAtPortIn shared d (with_slot s old) m p (with_slot s q') left seen p'
      × stored (writes_of (completion_of d))
  buffer_taken shared stored q' left seen p' false held is (stays, port) made = (
    Transition.Hold fetch,
    of_queue,
    record {
      asks = λ inventory. (gives, held);
      queue = ap (with_slot s) (stays.queue ∙ is_accepted);
      memory = stays.memory;
      sees = stays.seen ∙ sym stays.memory;
      port = port;
    },
    made,
  )
  buffer_taken shared stored q' left seen p' true spent is (uses, port) made =
      let memory : left ≡ all_written m writes =
      uses.memory ∙ ap (λ (n : BareQueue). all_written m (answer_writes n.ring c (spent_bytes c))) is_accepted in (
        Transition.UseBuffer fetch (as_seen seen writes),
        of_queue,
        record {
          asks = λ inventory. (gives, spent, refl, subst (λ (k : List ℕ). IsSeen shared k seen) memory is);
          queue = ap (with_slot s) (uses.queue ∙ ap (λ (n : BareQueue). completing seen c n) is_accepted);
          memory = memory;
          sees = refl;
          port = port;
        },
        subst stored (ap (λ (n : BareQueue). answer_writes n.ring c (spent_bytes c)) is_accepted) made,
      )

-- a fault of the guest that breaks the event queue is the transition that breaks it
pub broken_at_port : (shared : Bool) (old new : BareQueue) (m : List ℕ) (s : Slot) (p : PlainPort) (b : Breaks old m new)
    → DoesAtPortIn shared (Transition.Break old.ring.queue b.fault) (with_slot s old) m p (with_slot s new) m m p
broken_at_port shared old new m s p b =
    record {
      asks = λ inventory. (b.whole, b.offered);
      queue = ap (with_slot s) b.after;
      memory = refl;
      sees = refl;
      port = refl;
    }

-- The taking of a buffer by each memory that may have been found

-- as many bytes are as many once the same was written
with_alike : (m n : List ℕ) (at : ℕ) (bs : List ℕ) → length m ≡ length n → length (with_bytes m at bs) ≡ length (with_bytes n at bs)
with_alike m n at bs e =
    let rest : List ℕ → List ℕ = λ k. drop (length bs) (drop at k) in
    let front : length (take at m) ≡ length (take at n) =
    length-take at m ∙ ap (λ (i : ℕ). min at i) e ∙ sym (length-take at n) in
    omega (
      arith,
      e,
      front,
      length-append (take at m) (bs ++ rest m),
      length-append (take at n) (bs ++ rest n),
      length-append bs (rest m),
      length-append bs (rest n),
      length-drop at m,
      length-drop at n,
      length-drop (length bs) (drop at m),
      length-drop (length bs) (drop at n),
    )

written_alike : (m n : List ℕ) (ws : List Write) → length m ≡ length n → length (all_written m ws) ≡ length (all_written n ws)
written_alike m n [] e = e
written_alike m n (w ∷ ws) e =
    written_alike (with_bytes m w.addr w.bytes) (with_bytes n w.addr w.bytes) ws (with_alike m n w.addr w.bytes e)

-- what is seen behind writes into the one may be seen behind them into the other
seen_alike : (shared : Bool) (m n left seen : List ℕ) (ws : List Write) → (shared ≡ false → m ≡ n) → length m ≡ length n
    → left ≡ all_written m ws → IsSeen shared left seen → IsSeen shared (all_written n ws) seen
seen_alike false m n left seen ws own long is h = h ∙ is ∙ ap (λ (k : List ℕ). all_written k ws) (own refl)
seen_alike true m n left seen ws own long is h = h ∙ ap (λ (k : List ℕ). length k) is ∙ written_alike m n ws long

-- where it was so of one that was found, it is so of another
pub buffer_alike : (shared b : Bool) (c : PlainChain) (q : BareQueue) (found m : List ℕ) (p : PlainPort) (q' : BareQueue)
    (left seen : List ℕ) (p' : PlainPort) → (shared ≡ false → found ≡ m) → length found ≡ length m → IsSeen shared left seen
    → TakesBuffer b c q found p q' left seen p'
    → (left' : List ℕ) × (seen' : List ℕ) × IsSeen shared left' seen' × TakesBuffer b c q m p q' left' seen' p'
buffer_alike shared false c q found m p q' left seen p' own long is (stays, port) =
    (m, m, seen_as_left shared m, (record { queue = stays.queue; memory = refl; seen = refl }, port))
buffer_alike shared true c q found m p q' left seen p' own long is (uses, port) =
    let ws = answer_writes q.ring c (spent_bytes c) in (
      all_written m ws,
      seen,
      seen_alike shared found m left seen ws own long uses.memory is,
      (record { memory = refl; queue = uses.queue }, port),
    )
