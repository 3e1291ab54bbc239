-- Which phases take a chain of a request queue, and what is known of the fetches behind them.
use Rattle.std.proofs.Common.{◌≡◌, ℕ, zero, suc, ◌+◌, ◌<◌, ◌≤◌, Bool, true, false, List, [], ◌∷◌, ◌++◌, length, map, Option, Some, None, slice_get, Result, Ok, Err, refl, sym, subst, ap, ◌∙◌, inl, inr, ◌⊎◌, arith}
use Rattle.std.proofs.lemmas.List.{map-append, length-map, append-nil}
use Rattle.std.proofs.lemmas.List.Elements.{filter_map-append}
use Rattle.foundation.specs.declared.NoMemory.{NoMemory}
use Rattle.scsi_codec.specs.declared.event_queue.Event.{Event as EventRecord}
use Rattle.ring_core.specs.declared.log.Ticket.{Ticket}
use Rattle.ring_core.specs.State.{PlainChain, next_ticket}
use Rattle.request_intake.specs.Inventory.{PlainInventory}
use Rattle.event_queue.specs.Port.{PlainPort}
use Rattle.task_mgmt.specs.Functions.{is_over}
use Rattle.device_model.specs.Parts.{Slot, Hand, Outcome}
use Rattle.device_model.specs.World.{PlainQueue, Opened}
use Rattle.device_model.specs.Transitions.{Transition}
use Rattle.virtqueue.specs.Queue.{BareQueue}
use Rattle.phases.specs.declared.slot.Slot as declared_slot
use Rattle.phases.specs.declared.slot.Slot.TheVariants as slot
use Rattle.phases.specs.declared.note.Cause.TheVariants as cause
use Rattle.phases.specs.Notes.{PlainNote, note_of}
use Rattle.phases.specs.DirectChain.{note_in, cause_for}
use Rattle.phases.specs.Slots.{slot_of, is_direct}
use Rattle.phases.specs.Queue.{with_slot}
use Rattle.phases.specs.DoingQueue.{DoesQueue}
use Rattle.phases.specs.Fetching.{FetchesRequest, FetchesControl, IsRequestFetch, IsControlFetch}
use Rattle.phases.specs.Direct.{Directs, Responds, RespondsWhere}
use Rattle.phases.specs.Answering.{Answers}
use Rattle.phases.specs.EventQueue.{FetchesEvent, IsEventFetch, DoesAtPort, RaisesTo, RaisesNext}
use Rattle.lock_scopes.specs.Lending.{TakesNone}
use Rattle.lock_scopes.specs.Fetches.{ticket_in, ticket_left, ticket_of, note_left, notes_left, IsDecided, KeepsFetches, AreNoted}
use Rattle.lock_scopes.specs.Inner.Fetches.{Loses, with_left, with_fetch, with_note, with_answer}
use Rattle.lock_scopes.specs.Joined.{Fills}

-- a queue that is as before
pub stays_none : (q r : BareQueue) → r ≡ q → TakesNone q r
stays_none q r e = record { number = ap (λ (z : BareQueue). z.ring.queue) e; accepted = λ two. ap (λ (z : BareQueue). z.ring.log.accepted) e }

-- and the same of what a closure was lent
pub lent_none : (q r a b : BareQueue) → a ≡ q → b ≡ r → TakesNone a b → TakesNone q r
lent_none q r a b first last none = subst (λ (z : BareQueue). TakesNone z r) first (subst (λ (z : BareQueue). TakesNone a z) last none)

-- a transition left this of the queue
by_ring : (q r : BareQueue) (s : Slot) (p : PlainQueue) → with_slot s r ≡ p → p.ring.queue ≡ q.ring.queue
    → p.ring.log.accepted ≡ q.ring.log.accepted → TakesNone q r
by_ring q r s p e number accepted =
    record { number = ap (λ (z : PlainQueue). z.ring.queue) e ∙ number; accepted = λ two. ap (λ (z : PlainQueue). z.ring.log.accepted) e ∙ accepted }

pub answers_none : (h : Hand) (q : BareQueue) (m : List ℕ) (b : Bool) (r : BareQueue) (n : List ℕ) (h' : Hand)
    → Answers h q m b r n h' → TakesNone q r
answers_none (Hand.Done x o) q m true r n h' (did, is) = by_ring q r Slot.Empty _ (did 0 (record { addresses = []; profiles = [] }) Slot.Empty).queue refl refl
answers_none (Hand.Done x o) q m false r n h' (lets, is) = stays_none q r lets.stays.queue
answers_none Hand.Empty q m true r n h' e = absurd e
answers_none Hand.Empty q m false r n h' e = stays_none q r e.0.queue
answers_none (Hand.Taken x) q m true r n h' e = absurd e
answers_none (Hand.Taken x) q m false r n h' e = stays_none q r e.0.queue
answers_none (Hand.Answered unit_index t) q m true r n h' e = absurd e
answers_none (Hand.Answered unit_index t) q m false r n h' e = stays_none q r e.0.queue

pub directs_none : (s : Slot) (q : BareQueue) (m : List ℕ) (b : Bool) (r : BareQueue) (n : List ℕ) (s' : Slot)
    → Directs s q m b r n s' → TakesNone q r
directs_none (Slot.Direct c o) q m true r n s' (did, is) = by_ring q r s' _ (did (record { addresses = []; profiles = [] })).queue refl refl
directs_none (Slot.Direct c o) q m false r n s' (lets, is) = stays_none q r lets.stays.queue
directs_none Slot.Empty q m true r n s' e = absurd e
directs_none Slot.Empty q m false r n s' e = stays_none q r e.0.queue
directs_none (Slot.Arrived x) q m true r n s' e = absurd e
directs_none (Slot.Arrived x) q m false r n s' e = stays_none q r e.0.queue

responds_where : (over : Bool) (f : Opened) (q : BareQueue) (m : List ℕ) (b : Bool) (r : BareQueue) (n : List ℕ) (f' : Option Opened)
    → RespondsWhere over f q m b r n f' → TakesNone q r
responds_where true f q m true r n f' (did, is) = by_ring q r Slot.Empty _ (did (record { addresses = []; profiles = [] }) Slot.Empty).queue refl refl
responds_where true f q m false r n f' (lets, is) = stays_none q r lets.stays.queue
responds_where false f q m true r n f' e = absurd e
responds_where false f q m false r n f' e = stays_none q r e.0.queue

pub responds_none : (f : Option Opened) (q : BareQueue) (m : List ℕ) (b : Bool) (r : BareQueue) (n : List ℕ) (f' : Option Opened)
    → Responds f q m b r n f' → TakesNone q r
responds_none (Some f) q m b r n f' e = responds_where (is_over f.function) f q m b r n f' e
responds_none None q m true r n f' e = absurd e
responds_none None q m false r n f' e = stays_none q r e.0.queue

raises_to : (held : List PlainChain) (e : EventRecord) (later : List EventRecord) (q : BareQueue) (m : List ℕ) (p : PlainPort) (b : Bool)
    (r : BareQueue) (n : List ℕ) (p' : PlainPort) (w' : List EventRecord) → RaisesTo held e later q m p b r n p' w' → TakesNone q r
raises_to (c ∷ more) e later q m p true r n p' w' did = by_ring q r Slot.Empty _ (did.0 (record { addresses = []; profiles = [] }) Slot.Empty).queue refl refl
raises_to (c ∷ more) e later q m p false r n p' w' did = stays_none q r did.1.at_queue.queue
raises_to [] e later q m p true r n p' w' did = stays_none q r did.0.queue
raises_to [] e later q m p false r n p' w' did = absurd did

pub raises_none : (w : List EventRecord) (q : BareQueue) (m : List ℕ) (p : PlainPort) (b : Bool) (r : BareQueue) (n : List ℕ)
    (p' : PlainPort) (w' : List EventRecord) → RaisesNext w q m p b r n p' w' → TakesNone q r
raises_none (e ∷ later) q m p b r n p' w' did = raises_to p.buffers e later q m p b r n p' w' did
raises_none [] q m p true r n p' w' did = absurd did
raises_none [] q m p false r n p' w' did = stays_none q r did.at_queue.queue

same_slotted : (q r : BareQueue) (s s' : Slot) → with_slot s' r ≡ with_slot s q → TakesNone q r
same_slotted q r s s' e = by_ring q r s' (with_slot s q) e refl refl

-- a queue with another number is no request queue
other_none : (q r : BareQueue) (k : ℕ) → q.ring.queue ≡ k → k < 2 → r.ring.queue ≡ q.ring.queue → TakesNone q r
other_none q r k is few number = record { number = number; accepted = λ two. absurd (omega (arith, is, few, two)) }

control_number : (inventory : PlainInventory) (d : Transition) (q r : PlainQueue) (m n : List ℕ) → IsControlFetch d → DoesQueue inventory d q m r n
    → r.ring.queue ≡ q.ring.queue
control_number inventory (Transition.Refuse f a) q r m n is did = ap (λ (z : PlainQueue). z.ring.queue) did.queue
control_number inventory (Transition.Open f g) q r m n is did = ap (λ (z : PlainQueue). z.ring.queue) did.queue
control_number inventory (Transition.Break i f) q r m n is did = ap (λ (z : PlainQueue). z.ring.queue) did.queue
control_number inventory d q r m n is did = absurd is

pub control_none : (inventory : PlainInventory) (m : List ℕ) (s s' : Slot) (q r : BareQueue) (f f' : Option Opened) (b : Result Bool NoMemory)
    → FetchesControl inventory m (with_slot s q) f b (with_slot s' r) f' → TakesNone q r
control_none inventory m s s' q r f f' (Ok true) (zeroth, free, closed, (d, is, did, opened)) =
    other_none q r 0 zeroth (omega arith) (control_number inventory d (with_slot s q) (with_slot s' r) m m is did)
control_none inventory m s s' q r f f' (Ok false) e = same_slotted q r s s' e.0
control_none inventory m s s' q r f f' (Err refused) e = same_slotted q r s s' e.0

event_number : (d : Transition) (q r : PlainQueue) (m n : List ℕ) (p p' : PlainPort) → IsEventFetch d → DoesAtPort d q m p r n p'
    → r.ring.queue ≡ q.ring.queue
event_number (Transition.Hold f) q r m n p p' is did = ap (λ (z : PlainQueue). z.ring.queue) did.queue
event_number (Transition.UseBuffer f xs) q r m n p p' is did = ap (λ (z : PlainQueue). z.ring.queue) did.queue
event_number (Transition.Break i f) q r m n p p' is did = ap (λ (z : PlainQueue). z.ring.queue) did.queue
event_number d q r m n p p' is did = absurd is

pub event_none : (m n : List ℕ) (s s' : Slot) (q r : BareQueue) (p p' : PlainPort) (b : Result Bool NoMemory)
    → FetchesEvent (with_slot s q) m p b (with_slot s' r) n p' → TakesNone q r
event_none m n s s' q r p p' (Ok true) (first, free, (d, is, did)) =
    other_none q r 1 first (omega arith) (event_number d (with_slot s q) (with_slot s' r) m n p p' is did)
event_none m n s s' q r p p' (Ok false) e = same_slotted q r s s' e.0.queue
event_none m n s s' q r p p' (Err refused) e = same_slotted q r s s' e.0.queue

-- What takes no chain keeps what is known of the fetches.
pub keeps_on : (q r : BareQueue) (fetched : List declared_slot.Slot) (notes : List PlainNote) → KeepsFetches q fetched notes → TakesNone q r
    → KeepsFetches r fetched notes
keeps_on q r fetched notes k none =
    record {
      each = λ two. let is : 2 ≤ q.ring.queue = omega (arith, two, none.number) in k.each is ∙ ap (map ticket_of) (sym (none.accepted is));
      decided = k.decided;
      of_queue = λ i n there. k.of_queue i n there ∙ sym none.number;
    }

-- Lists with one more at their end.
push_here : {X : Type 0} (xs : List X) (y : X) → slice_get (xs ++ y ∷ []) (length xs) ≡ Some y
push_here [] y = refl
push_here (x ∷ xs) y = push_here xs y

left_before : (xs : List declared_slot.Slot) (y : declared_slot.Slot) (n : PlainNote) (k : ℕ) → note_left (slice_get xs k) ≡ Some n
    → note_left (slice_get (xs ++ y ∷ []) k) ≡ Some n
left_before [] y n k e = cc
left_before (z ∷ xs) y n zero e = e
left_before (z ∷ xs) y n (suc k) e = left_before xs y n k e

at_push : {X : Type 0} (xs : List X) (y x : X) (k : ℕ) → slice_get (xs ++ y ∷ []) k ≡ Some x → (slice_get xs k ≡ Some x) ⊎ (x ≡ y)
at_push [] y x zero e = inr cc
at_push [] y x (suc k) e = cc
at_push (z ∷ xs) y x zero e = inl e
at_push (z ∷ xs) y x (suc k) e = at_push xs y x k e

-- A fetch from a request queue took a chain:
record Fetched (q r : BareQueue) (s : Slot) : Type 0 where
  number : r.ring.queue ≡ q.ring.queue
  accepted : r.ring.log.accepted ≡ q.ring.log.accepted ++ next_ticket q.ring ∷ []
  ticket : ticket_in s ≡ Some (next_ticket q.ring)
  noted : (n : PlainNote) → note_in s ≡ Some n → n ≡ note_of (next_ticket q.ring) cause.Direct

-- or none
record Nothing (q r : BareQueue) (s : Slot) : Type 0 where
  none : TakesNone q r
  empty : s ≡ Slot.Empty

some_is : {X : Type 0} {x y : X} → Some x ≡ Some y → x ≡ y
some_is e = cc

came : (inventory : PlainInventory) (m : List ℕ) (q r : BareQueue) (s s' : Slot) (d : Transition) → s ≡ Slot.Empty → IsRequestFetch q.ring.queue d
    → DoesQueue inventory d (with_slot s q) m (with_slot s' r) m → Fetched q r s' ⊎ Nothing q r s'
came inventory m q r s s' (Transition.Arrive f x) free is did =
    let asks = did.asks false false in
    let left = ap (λ (z : PlainQueue). z.slot) did.queue in
    let ticket = ap (λ (c : PlainChain). c.ticket) asks.1 ∙ asks.0.ticket in
    inl (record {
      number = ap (λ (z : PlainQueue). z.ring.queue) did.queue;
      accepted = ap (λ (z : PlainQueue). z.ring.log.accepted) did.queue;
      ticket = ap ticket_in left ∙ ap ticket_of ticket;
      noted = λ n e. absurd (no_note (sym (ap note_in left) ∙ e));
    })
  where
    no_note : {n : PlainNote} → None ≡ Some n → ⊥
    no_note e = cc
came inventory m q r s s' (Transition.Refuse f a) free is did =
    let gives = (did.asks false false).0 in
    let left = ap (λ (z : PlainQueue). z.slot) did.queue in
    inl (record {
      number = ap (λ (z : PlainQueue). z.ring.queue) did.queue;
      accepted = ap (λ (z : PlainQueue). z.ring.log.accepted) did.queue;
      ticket = ap ticket_in left ∙ ap ticket_of gives.ticket;
      noted = λ n e. sym (some_is (sym (ap note_in left) ∙ e)) ∙ ap (λ (t : Ticket). note_of t cause.Direct) gives.ticket;
    })
came inventory m q r s s' (Transition.Break i f) free is did =
    inr (record {
      none = by_ring q r s' _ did.queue refl refl;
      empty = ap (λ (z : PlainQueue). z.slot) did.queue ∙ free;
    })
came inventory m q r s s' d free is did = absurd is

-- and so one more fetch is known.
module _ (q r : BareQueue) (fetched : List declared_slot.Slot) (notes : List PlainNote) (k : KeepsFetches q fetched notes)
    (two : 2 ≤ q.ring.queue) where
  as_many : length fetched ≡ length q.ring.log.accepted
  as_many = sym (length-map fetched ticket_left) ∙ ap length (k.each two) ∙ length-map q.ring.log.accepted ticket_of

  one_more : (s : declared_slot.Slot) → Fetched q r (slot_of s) → KeepsFetches r (fetched ++ s ∷ []) notes
  one_more s f =
      record {
        each = λ again. map-append ticket_left fetched (s ∷ [])
            ∙ ap (λ (z : List (Option Ticket)). z ++ ticket_left s ∷ []) (k.each two)
            ∙ ap (λ (z : Option Ticket). map ticket_of q.ring.log.accepted ++ z ∷ []) f.ticket
            ∙ sym (map-append ticket_of q.ring.log.accepted (next_ticket q.ring ∷ []))
            ∙ ap (map ticket_of) (sym f.accepted);
        decided = λ i n there.
            let d = k.decided i n there in
            record { direct = d.direct; decided = left_before fetched s n n.ticket.number d.decided };
        of_queue = λ i n there. k.of_queue i n there ∙ sym f.number;
      }

  left_more : (s : declared_slot.Slot) → Fetched q r (slot_of s) → KeepsFetches r (with_left s fetched) notes
  left_more slot.Empty f = absurd (none f.ticket)
    where
      none : {t : Ticket} → None ≡ Some t → ⊥
      none e = cc
  left_more (slot.Arrived x) f = one_more (slot.Arrived x) f
  left_more (slot.Direct c) f = one_more (slot.Direct c) f

  -- the note of the chain that it left is of that fetch
  is_decided : (s : declared_slot.Slot) (n : PlainNote) → Fetched q r (slot_of s) → note_in (slot_of s) ≡ Some n
      → IsDecided (fetched ++ s ∷ []) n
  is_decided s n f e =
      let is = f.noted n e in
      record {
        direct = ap (λ (z : PlainNote). z.cause) is;
        decided = ap note_left (ap (λ (i : ℕ). slice_get (fetched ++ s ∷ []) i) (ap (λ (z : PlainNote). z.ticket.number) is ∙ sym as_many) ∙ push_here fetched s) ∙ e;
      }

-- One more note is of the chain that a fetch left.
with_one : (r : BareQueue) (fetched : List declared_slot.Slot) (notes : List PlainNote) (n : PlainNote) → KeepsFetches r fetched notes
    → IsDecided fetched n → n.ticket.queue ≡ r.ring.queue → KeepsFetches r fetched (notes ++ n ∷ [])
with_one r fetched notes n k d of_queue =
    record {
      each = k.each;
      decided = λ i o there. was i o (at_push notes n o i there);
      of_queue = λ i o there. of i o (at_push notes n o i there);
    }
  where
    was : (i : ℕ) (o : PlainNote) → (slice_get notes i ≡ Some o) ⊎ (o ≡ n) → IsDecided fetched o
    was i o (inl e) = k.decided i o e
    was i o (inr e) = subst (λ (z : PlainNote). IsDecided fetched z) (sym e) d

    of : (i : ℕ) (o : PlainNote) → (slice_get notes i ≡ Some o) ⊎ (o ≡ n) → o.ticket.queue ≡ r.ring.queue
    of i o (inl e) = k.of_queue i o e
    of i o (inr e) = ap (λ (z : PlainNote). z.ticket.queue) e ∙ of_queue

answers_no_empty : (s : Slot) (q : BareQueue) (m : List ℕ) (r : BareQueue) (n : List ℕ) (s' : Slot) → s ≡ Slot.Empty
    → Directs s q m true r n s' → ⊥
answers_no_empty s q m r n s' e did = subst (λ (z : Slot). Directs z q m true r n s') e did

module _ (q p r : BareQueue) (fetched : List declared_slot.Slot) (notes : List PlainNote) (m n : List ℕ) (s' : Slot)
    (k : KeepsFetches q fetched notes) where
  answered : (b : Bool) (s : declared_slot.Slot) → 2 ≤ q.ring.queue → Fetched q p (slot_of s) → Directs (slot_of s) p m b r n s'
      → KeepsFetches r (with_left s fetched) (with_answer b (slot_of s) notes)
  answered false s two f did =
      keeps_on p r (with_left s fetched) notes (left_more q p fetched notes k two s f) (directs_none (slot_of s) p m false r n s' did)
  answered true slot.Empty two f did = absurd did
  answered true (slot.Arrived x) two f did = absurd did
  answered true (slot.Direct c) two f did =
      let none = directs_none (slot_of (slot.Direct c)) p m true r n s' did in
      let now = keeps_on p r (fetched ++ slot.Direct c ∷ []) notes (one_more q p fetched notes k two (slot.Direct c) f) none in
      let left = is_decided q p fetched notes k two (slot.Direct c) _ f refl in
      let number = ap (λ (z : PlainNote). z.ticket.queue) (f.noted _ refl) in
      with_one r (fetched ++ slot.Direct c ∷ []) notes _ now left (number ∙ sym f.number ∙ sym none.number)

  unanswered : (b : Bool) (s : declared_slot.Slot) → TakesNone q p → slot_of s ≡ Slot.Empty → Directs (slot_of s) p m b r n s'
      → KeepsFetches r fetched (with_answer b (slot_of s) notes)
  unanswered false s none empty did =
      keeps_on p r fetched notes (keeps_on q p fetched notes k none) (directs_none (slot_of s) p m false r n s' did)
  unanswered true s none empty did = absurd (answers_no_empty (slot_of s) p m r n s' empty did)

  pub keeps_take : (inventory : PlainInventory) (a : Bool) (s : declared_slot.Slot) (b : Result Bool NoMemory)
      → FetchesRequest inventory m (with_slot Slot.Empty q) b (with_slot (slot_of s) p) → Directs (slot_of s) p m a r n s'
      → KeepsFetches r (with_fetch b s fetched) (with_answer a (slot_of s) notes)
  keeps_take inventory a s (Ok true) (two, free, (d, is, did)) directs =
      by_came a s (came inventory m q p Slot.Empty (slot_of s) d refl is did) directs
    where
      by_came : (a : Bool) (s : declared_slot.Slot) → Fetched q p (slot_of s) ⊎ Nothing q p (slot_of s) → Directs (slot_of s) p m a r n s'
          → KeepsFetches r (with_left s fetched) (with_answer a (slot_of s) notes)
      by_came a s (inl f) directs = answered a s two f directs
      by_came a slot.Empty (inr none) directs = unanswered a slot.Empty none.none none.empty directs
      by_came a (slot.Arrived x) (inr none) directs = absurd (arrived none.empty)
        where
          arrived : Slot.Arrived x ≡ Slot.Empty → ⊥
          arrived e = cc
      by_came a (slot.Direct c) (inr none) directs = absurd (direct none.empty)
        where
          direct : Slot.Direct c.chain c.outcome ≡ Slot.Empty → ⊥
          direct e = cc
  keeps_take inventory a s (Ok false) e directs =
      unanswered a s (same_slotted q p Slot.Empty (slot_of s) e.0) (ap (λ (z : PlainQueue). z.slot) e.0) directs
  keeps_take inventory a s (Err refused) e directs =
      unanswered a s (same_slotted q p Slot.Empty (slot_of s) e.0) (ap (λ (z : PlainQueue). z.slot) e.0) directs

-- what a fetch into an empty slot did
pub fills : (inventory : PlainInventory) (m : List ℕ) (q r : BareQueue) (s s' : Slot) (b : Result Bool NoMemory) → s ≡ Slot.Empty
    → FetchesRequest inventory m (with_slot s q) b (with_slot s' r) → Fills inventory m q b r s'
fills inventory m q r s s' (Ok b) empty e = subst (λ (z : Slot). FetchesRequest inventory m (with_slot z q) (Ok b) (with_slot s' r)) empty e
fills inventory m q r s s' (Err refused) empty e =
    (same_bare q r s s' e.0, ap (λ (z : PlainQueue). z.slot) e.0 ∙ empty)
  where
    same_bare : (q r : BareQueue) (s s' : Slot) → with_slot s' r ≡ with_slot s q → r ≡ q
    same_bare q r s s' e = ap (λ (z : PlainQueue). record { ring = z.ring; notices = z.notices }) e

-- The notes of what was decided, too.
abbrev left_of : declared_slot.Slot → Option PlainNote
left_of s = note_in (slot_of s)

-- a chain that a fetch left has its note where it was answered
noted_left : (lost after : Option Ticket) (fetched : List declared_slot.Slot) (notes : List PlainNote) (a : Bool) (s : declared_slot.Slot)
    → AreNoted lost fetched notes → Loses lost (is_direct (slot_of s)) a after
    → (after ≡ None → with_answer a (slot_of s) notes ≡ notes_left (with_left s fetched))
noted_left lost after fetched notes true slot.Empty old loses none = old (loses none).0
noted_left lost after fetched notes false slot.Empty old loses none = old (loses none).0
noted_left lost after fetched notes true (slot.Arrived x) old loses none =
    old (loses none).0 ∙ sym (append-nil (notes_left fetched)) ∙ sym (filter_map-append left_of fetched (slot.Arrived x ∷ []))
noted_left lost after fetched notes false (slot.Arrived x) old loses none =
    old (loses none).0 ∙ sym (append-nil (notes_left fetched)) ∙ sym (filter_map-append left_of fetched (slot.Arrived x ∷ []))
noted_left lost after fetched notes true (slot.Direct c) old loses none =
    ap (λ (z : List PlainNote). z ++ note_of c.chain.ticket (cause_for c.outcome) ∷ []) (old (loses none).0)
    ∙ sym (filter_map-append left_of fetched (slot.Direct c ∷ []))
noted_left lost after fetched notes false (slot.Direct c) old loses none = absurd (unlike ((loses none).1 refl))
  where
    unlike : false ≡ true → ⊥
    unlike e = cc

-- where nothing was fetched, nothing is answered
noted_none : (lost after : Option Ticket) (fetched : List declared_slot.Slot) (notes : List PlainNote) (a : Bool) (s : Slot) (q r : BareQueue)
    (m n : List ℕ) (s' : Slot) → AreNoted lost fetched notes → (after ≡ None → lost ≡ None) → s ≡ Slot.Empty → Directs s q m a r n s'
    → (after ≡ None → with_answer a s notes ≡ notes_left fetched)
noted_none lost after fetched notes true s q r m n s' old loses empty did none = absurd (answers_no_empty s q m r n s' empty did)
noted_none lost after fetched notes false s q r m n s' old loses empty did none = old (loses none)

pub noted_take : (inventory : PlainInventory) (lost after : Option Ticket) (fetched : List declared_slot.Slot) (notes : List PlainNote) (a : Bool)
    (s : declared_slot.Slot) (b : Result Bool NoMemory) (q p r : BareQueue) (m n : List ℕ) (s' : Slot) → AreNoted lost fetched notes
    → Loses lost (is_direct (slot_of s)) a after → FetchesRequest inventory m (with_slot Slot.Empty q) b (with_slot (slot_of s) p)
    → Directs (slot_of s) p m a r n s' → AreNoted after (with_fetch b s fetched) (with_answer a (slot_of s) notes)
noted_take inventory lost after fetched notes a s (Ok true) q p r m n s' old loses e did = noted_left lost after fetched notes a s old loses
noted_take inventory lost after fetched notes a s (Ok false) q p r m n s' old loses e did =
    noted_none lost after fetched notes a (slot_of s) p r m n s' old (λ none. (loses none).0) (ap (λ (z : PlainQueue). z.slot) e.0) did
noted_take inventory lost after fetched notes a s (Err refused) q p r m n s' old loses e did =
    noted_none lost after fetched notes a (slot_of s) p r m n s' old (λ none. (loses none).0) (ap (λ (z : PlainQueue). z.slot) e.0) did

-- What a fetch left, once it was recorded, and its note where it was answered.
pub take_kept : (inventory : PlainInventory) (m n : List ℕ) (q p r : BareQueue) (fetched fetched' : List declared_slot.Slot)
    (notes room notes' : List PlainNote) (lost after : Option Ticket) (s : Slot) (left : declared_slot.Slot) (s' : Slot)
    (b : Result Bool NoMemory) (a direct told : Bool) → s ≡ Slot.Empty → KeepsFetches q fetched notes → AreNoted lost fetched notes
    → FetchesRequest inventory m (with_slot s q) b (with_slot (slot_of left) p) → Directs (slot_of left) p m a r n s'
    → fetched' ≡ with_fetch b left fetched → room ≡ notes → notes' ≡ with_answer a (slot_of left) room → direct ≡ is_direct (slot_of left)
    → told ≡ a → Loses lost direct told after → KeepsFetches r fetched' notes' × AreNoted after fetched' notes'
take_kept inventory m n q p r fetched fetched' notes room notes' lost after s left s' b a direct told empty k old e did recorded same noted is is_told loses =
    let fetches = subst (λ (z : Slot). FetchesRequest inventory m (with_slot z q) b (with_slot (slot_of left) p)) empty e in
    let now : notes' ≡ with_answer a (slot_of left) notes = noted ∙ ap (λ (z : List PlainNote). with_answer a (slot_of left) z) same in
    let losing = subst (λ (z : Bool). Loses lost z a after) is (subst (λ (z : Bool). Loses lost direct z after) is_told loses) in (
      subst (λ (z : List declared_slot.Slot). KeepsFetches r z notes') (sym recorded)
          (subst (λ (z : List PlainNote). KeepsFetches r (with_fetch b left fetched) z) (sym now) (keeps_take q p r fetched notes m n s' k inventory a left b fetches did)),
      subst (λ (z : List declared_slot.Slot). AreNoted after z notes') (sym recorded)
          (subst (λ (z : List PlainNote). AreNoted after (with_fetch b left fetched) z) (sym now) (noted_take inventory lost after fetched notes a left b q p r m n s' old losing fetches did)),
    )
