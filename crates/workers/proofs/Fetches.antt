-- What is gathered of queues, and what a report has of that.
use Rattle.std.proofs.Common.{◌≡◌, ℕ, zero, suc, ◌+◌, ◌<◌, ◌≤◌, List, [], ◌∷◌, ◌++◌, length, map, Option, Some, None, slice_get, Result, Ok, Err, refl, sym, subst, ap, ◌∙◌, inl, inr, ◌⊎◌, arith}
use Rattle.std.specs.Prelude.{IfOk}
use Rattle.std.specs.List.{cons_option}
use Rattle.std.proofs.lemmas.List.{length-append}
use Rattle.std.proofs.lemmas.Option.{slice_get_within}
use Rattle.foundation.specs.declared.record.Record.{Record}
use Rattle.ring_core.specs.declared.log.Ticket.{Ticket}
use Rattle.request_intake.specs.declared.inventory.UnitSpec.{UnitSpec}
use Rattle.unit_model.specs.Jobs.{PlainJob}
use Rattle.virtqueue.specs.Queue.{BareQueue}
use Rattle.phases.specs.declared.slot.Slot.{Slot}
use Rattle.phases.specs.declared.slot.Slot.TheVariants as slot
use Rattle.phases.specs.Slots.{slot_of}
use Rattle.phases.specs.Notes.{PlainNote}
use Rattle.phases.specs.DirectChain.{note_in}
use Rattle.phases.specs.declared.note.Cause.TheVariants as cause
use Rattle.lock_scopes.specs.Fetches.{ticket_left, ticket_of, note_left, notes_left, KeepsFetches, AreNoted}
use Rattle.close_audit.specs.Keeping.{notes_of_all}
use Rattle.close_audit.specs.Undirected.{AreUndirected}
use Rattle.close_audit.specs.Opened.{AreInPlace}
use Rattle.close_audit.specs.Closed.{IsReport}
use Rattle.close_audit.specs.declared.kept.Kept.{Kept}
use Rattle.close_audit.specs.declared.report.Report.{Report}
use Rattle.close_audit.specs.declared.fault.CloseFault.{CloseFault}
use Rattle.close_audit.specs.declared.closing.ClosedQueues.{ClosedQueues}
use Rattle.workers.specs.Fetches.{left_in, left_at, AreDecided}
use Rattle.workers.specs.Inner.Fetches.{IsOfOne, AreGathered}

-- Indexes in lists with more at their end.
push_here : {X : Type 0} (xs : List X) (y : X) → slice_get (xs ++ y ∷ []) (length xs) ≡ Some y
push_here [] y = refl
push_here (x ∷ xs) y = push_here xs y

before : {X : Type 0} (xs ys : List X) (x : X) (k : ℕ) → slice_get xs k ≡ Some x → slice_get (xs ++ ys) k ≡ Some x
before [] ys x k e = cc
before (z ∷ xs) ys x zero e = e
before (z ∷ xs) ys x (suc k) e = before xs ys x k e

behind : {X : Type 0} (xs ys : List X) (x : X) (k : ℕ) → slice_get ys k ≡ Some x → (j : ℕ) × (slice_get (xs ++ ys) j ≡ Some x)
behind [] ys x k e = (k, e)
behind (z ∷ xs) ys x k e = let (j, at) = behind xs ys x k e in (suc j, at)

at_push : {X : Type 0} (xs : List X) (y x : X) (k : ℕ) → slice_get (xs ++ y ∷ []) k ≡ Some x → (slice_get xs k ≡ Some x) ⊎ ((k ≡ length xs) × (x ≡ y))
at_push [] y x zero e = inr (refl, cc)
at_push [] y x (suc k) e = cc
at_push (z ∷ xs) y x zero e = inl e
at_push (z ∷ xs) y x (suc k) e = further (at_push xs y x k e)
  where
    further : (slice_get xs k ≡ Some x) ⊎ ((k ≡ length xs) × (x ≡ y)) → (slice_get xs k ≡ Some x) ⊎ ((suc k ≡ suc (length xs)) × (x ≡ y))
    further (inl e) = inl e
    further (inr e) = inr (ap suc e.0, e.1)

at_append : {X : Type 0} (xs ys : List X) (x : X) (k : ℕ) → slice_get (xs ++ ys) k ≡ Some x
    → (slice_get xs k ≡ Some x) ⊎ ((i : ℕ) × (slice_get ys i ≡ Some x))
at_append [] ys x k e = inr (k, e)
at_append (z ∷ xs) ys x zero e = inl e
at_append (z ∷ xs) ys x (suc k) e = at_append xs ys x k e

within : {X : Type 0} (xs : List X) (k : ℕ) → k < length xs → (x : X) × (slice_get xs k ≡ Some x)
within [] k e = absurd (omega (arith, e))
within (x ∷ xs) zero e = (x, refl)
within (x ∷ xs) (suc k) e = within xs k (omega (arith, e))

some_is : {X : Type 0} {x y : X} → Some x ≡ Some y → x ≡ y
some_is e = cc

-- the note of what a fetch left is among those of all
in_left : (fetched : List Slot) (i : ℕ) (s : Slot) (n : PlainNote) → slice_get fetched i ≡ Some s → note_in (slot_of s) ≡ Some n
    → (j : ℕ) × (slice_get (notes_left fetched) j ≡ Some n)
in_left [] i s n there e = cc
in_left (l ∷ fetched) zero s n there e = (zero, ap (λ (z : Option PlainNote). slice_get (cons_option z (notes_left fetched)) zero) (ap (λ (z : Slot). note_in (slot_of z)) (some_is there) ∙ e))
in_left (l ∷ fetched) (suc i) s n there e = let (j, at) = in_left fetched i s n there e in further (note_in (slot_of l)) j at
  where
    further : (o : Option PlainNote) (j : ℕ) → slice_get (notes_left fetched) j ≡ Some n → (k : ℕ) × (slice_get (cons_option o (notes_left fetched)) k ≡ Some n)
    further None j at = (j, at)
    further (Some m) j at = (suc j, at)

-- One more queue is gathered.
module _ (qs : List BareQueue) (fs : List (Record Slot)) (ns : List PlainNote) (q : BareQueue) (f : Record Slot) (ms : List PlainNote)
    (g : AreGathered qs fs ns) (k : KeepsFetches q f.items ms) (noted : AreNoted None f.items ms) where
  each_more : (i : ℕ) (r : BareQueue) (h : Record Slot) → slice_get (qs ++ q ∷ []) i ≡ Some r → slice_get (fs ++ f ∷ []) i ≡ Some h
      → 2 ≤ r.ring.queue → map ticket_left h.items ≡ map ticket_of r.ring.log.accepted
  each_more i r h there left two = by_places (at_push qs q r i there) (at_push fs f h i left)
    where
      by_places : (slice_get qs i ≡ Some r) ⊎ ((i ≡ length qs) × (r ≡ q)) → (slice_get fs i ≡ Some h) ⊎ ((i ≡ length fs) × (h ≡ f))
          → map ticket_left h.items ≡ map ticket_of r.ring.log.accepted
      by_places (inl a) (inl b) = g.each i r h a b two
      by_places (inl a) (inr b) = absurd (omega (arith, slice_get_within qs i r a, b.0, g.count))
      by_places (inr a) (inl b) = absurd (omega (arith, slice_get_within fs i h b, a.0, g.count))
      by_places (inr a) (inr b) =
          ap (λ (z : Record Slot). map ticket_left z.items) b.1
          ∙ k.each (subst (λ (z : BareQueue). 2 ≤ z.ring.queue) a.1 two)
          ∙ ap (λ (z : BareQueue). map ticket_of z.ring.log.accepted) (sym a.1)

  decided_more : (j : ℕ) (n : PlainNote) → slice_get (ns ++ ms) j ≡ Some n → IsOfOne (qs ++ q ∷ []) (fs ++ f ∷ []) n
  decided_more j n there = by_place (at_append ns ms n j there)
    where
      by_place : (slice_get ns j ≡ Some n) ⊎ ((i : ℕ) × (slice_get ms i ≡ Some n)) → IsOfOne (qs ++ q ∷ []) (fs ++ f ∷ []) n
      by_place (inl e) =
          let o = g.decided j n e in
          record {
            queue_index = o.queue_index;
            queue = o.queue;
            fetches = o.fetches;
            there = before qs (q ∷ []) o.queue o.queue_index o.there;
            left = before fs (f ∷ []) o.fetches o.queue_index o.left;
            of_queue = o.of_queue;
            decided = o.decided;
          }
      by_place (inr (i, e)) =
          record {
            queue_index = length qs;
            queue = q;
            fetches = f;
            there = push_here qs q;
            left = ap (λ (z : ℕ). slice_get (fs ++ f ∷ []) z) (sym g.count) ∙ push_here fs f;
            of_queue = k.of_queue i n e;
            decided = k.decided i n e;
          }

  noted_more : (p i : ℕ) (h : Record Slot) (s : Slot) (n : PlainNote) → slice_get (fs ++ f ∷ []) p ≡ Some h → slice_get h.items i ≡ Some s
      → note_in (slot_of s) ≡ Some n → (j : ℕ) × (slice_get (ns ++ ms) j ≡ Some n)
  noted_more p i h s n left there e = by_place (at_push fs f h p left)
    where
      by_place : (slice_get fs p ≡ Some h) ⊎ ((p ≡ length fs) × (h ≡ f)) → (j : ℕ) × (slice_get (ns ++ ms) j ≡ Some n)
      by_place (inl was) = let (j, at) = g.noted p i h s n was there e in (j, before ns ms n j at)
      by_place (inr is) =
          let (j, at) = in_left f.items i s n (subst (λ (z : Record Slot). slice_get z.items i ≡ Some s) is.1 there) e in
          behind ns ms n j (ap (λ (z : List PlainNote). slice_get z j) (noted refl) ∙ at)

  pub one_gathered : AreGathered (qs ++ q ∷ []) (fs ++ f ∷ []) (ns ++ ms)
  one_gathered =
      record {
        count = length-append fs (f ∷ []) ∙ ap (λ (z : ℕ). z + 1) g.count ∙ sym (length-append qs (q ∷ []));
        each = each_more;
        decided = decided_more;
        noted = noted_more;
      }

none_left : {X : Type 0} (o : Option X) → ((x : X) → o ≡ Some x → ⊥) → o ≡ None
none_left None without = refl
none_left (Some x) without = absurd (without x refl)

-- the same of what stands there then, where the queue lost no ticket
pub gathered_more : (qs qs' : List BareQueue) (fs fs' : List (Record Slot)) (ns ns' : List PlainNote) (q : BareQueue) (f : Record Slot)
    (ms : List PlainNote) (lost : Option Ticket) → AreGathered qs fs ns → KeepsFetches q f.items ms → AreNoted lost f.items ms
    → ((t : Ticket) → lost ≡ Some t → ⊥) → qs' ≡ qs ++ q ∷ [] → fs' ≡ fs ++ f ∷ [] → ns' ≡ ns ++ ms → AreGathered qs' fs' ns'
gathered_more qs qs' fs fs' ns ns' q f ms lost g k noted without e1 e2 e3 =
    subst (λ (z : List BareQueue). AreGathered z fs' ns') (sym e1)
    (subst (λ (z : List (Record Slot)). AreGathered (qs ++ q ∷ []) z ns') (sym e2)
    (subst (λ (z : List PlainNote). AreGathered (qs ++ q ∷ []) (fs ++ f ∷ []) z) (sym e3)
    (one_gathered qs fs ns q f ms g k (λ none. noted (none_left lost without)))))

pub none_gathered : AreGathered [] [] []
none_gathered =
    record {
      count = refl;
      each = λ k q f there left two. cc;
      decided = λ j n there. cc;
      noted = λ k i f s n left there e. cc;
    }

-- What seats kept has no note Direct.
all_undirected : (all : List Kept) → AreUndirected (notes_of_all all)
all_undirected [] k n e direct = cc
all_undirected (one ∷ all) k n e direct =
    by_place (λ i later. all_undirected all i n later direct) (at_append one.notes.items (notes_of_all all) n k e)
  where
    by_place : ((i : ℕ) → slice_get (notes_of_all all) i ≡ Some n → ⊥)
        → (slice_get one.notes.items k ≡ Some n) ⊎ ((i : ℕ) × (slice_get (notes_of_all all) i ≡ Some n)) → ⊥
    by_place rest (inl e) = one.undirected k n e direct
    by_place rest (inr (i, e)) = rest i e

module _ (qs : List BareQueue) (fs : List (Record Slot)) (ns : List PlainNote) (all : List Kept) (g : AreGathered qs fs ns)
    (in_place : AreInPlace qs) where
  each_there : (k : ℕ) (q : BareQueue) → slice_get qs k ≡ Some q → 2 ≤ k
      → (f : Record Slot) × (slice_get fs k ≡ Some f) × (map ticket_left f.items ≡ map ticket_of q.ring.log.accepted)
  each_there k q there two =
      let few = slice_get_within qs k q there in
      let (f, left) = within fs k (omega (arith, few, g.count)) in
      let number = in_place k q there in
      (f, left, g.each k q f there left (omega (arith, number, two)))

  left_there : (n : PlainNote) → IsOfOne qs fs n → (s : Slot) × (left_at fs n.ticket ≡ Some s) × (note_in (slot_of s) ≡ Some n)
  left_there n o = by_slot (slice_get o.fetches.items n.ticket.number) refl o.decided.decided
    where
      queue_index : n.ticket.queue ≡ o.queue_index
      queue_index = o.of_queue ∙ in_place o.queue_index o.queue o.there

      by_slot : (l : Option Slot) → slice_get o.fetches.items n.ticket.number ≡ l → note_left l ≡ Some n
          → (s : Slot) × (left_at fs n.ticket ≡ Some s) × (note_in (slot_of s) ≡ Some n)
      by_slot None is e = cc
      by_slot (Some s) is e =
          (s, ap (λ (z : Option (Record Slot)). left_in z n.ticket.number) (ap (slice_get fs) queue_index ∙ o.left) ∙ is, e)

  decided_there : (j : ℕ) (n : PlainNote) → slice_get (ns ++ notes_of_all all) j ≡ Some n → n.cause ≡ cause.Direct
      → (s : Slot) × (left_at fs n.ticket ≡ Some s) × (note_in (slot_of s) ≡ Some n)
  decided_there j n there direct = by_place (at_append ns (notes_of_all all) n j there)
    where
      by_place : (slice_get ns j ≡ Some n) ⊎ ((i : ℕ) × (slice_get (notes_of_all all) i ≡ Some n))
          → (s : Slot) × (left_at fs n.ticket ≡ Some s) × (note_in (slot_of s) ≡ Some n)
      by_place (inl e) = left_there n (g.decided j n e)
      by_place (inr (i, e)) = absurd (all_undirected all i n e direct)

  noted_there : (t : Ticket) (s : Slot) (n : PlainNote) → left_at fs t ≡ Some s → note_in (slot_of s) ≡ Some n
      → (j : ℕ) × (slice_get (ns ++ notes_of_all all) j ≡ Some n)
  noted_there t s n left e = by_fetches (slice_get fs t.queue) refl left
    where
      by_fetches : (o : Option (Record Slot)) → slice_get fs t.queue ≡ o → left_in o t.number ≡ Some s
          → (j : ℕ) × (slice_get (ns ++ notes_of_all all) j ≡ Some n)
      by_fetches None is left = cc
      by_fetches (Some f) is left =
          let (j, at) = g.noted t.queue t.number f s n is left e in
          (j, before ns (notes_of_all all) n j at)

  are_decided : AreDecided qs fs (ns ++ notes_of_all all)
  are_decided =
      record {
        each = each_there;
        decided = decided_there;
        noted = noted_there;
        arrived = λ j n x there left direct.
            let (s, at, e) = decided_there j n there direct in
            arrived_not n x (ap (λ (z : Slot). note_in (slot_of z)) (some_is (sym left ∙ at)) ∙ e);
      }
    where
      arrived_not : (n : PlainNote) (x : PlainJob) → note_in (slot_of (slot.Arrived x)) ≡ Some n → ⊥
      arrived_not n x e = cc

-- and so of a report, if there is one
pub decided_report : (result : Result Report CloseFault) (specs : List UnitSpec) (closed : ClosedQueues) (all : List Kept)
    → AreGathered closed.queues.items closed.fetched.items closed.notes.items
    → IfOk result (λ r. IsReport specs r.units.items r.queues.items r.receipts.items r.notes.items)
    → IfOk result (λ r. (r.queues ≡ closed.queues) × (r.fetched ≡ closed.fetched))
    → IfOk result (λ r. r.notes.items ≡ closed.notes.items ++ notes_of_all all)
    → IfOk result (λ r. AreDecided r.queues.items r.fetched.items r.notes.items)
decided_report (Err fault) specs closed all g report same notes = tt
decided_report (Ok r) specs closed all g report same notes =
    let qs = ap (λ z. z.items) same.0 in
    let fs = ap (λ z. z.items) same.1 in
    let in_place = subst AreInPlace qs report.in_place in
    subst (λ z. AreDecided z r.fetched.items r.notes.items) (sym qs)
    (subst (λ z. AreDecided closed.queues.items z r.notes.items) (sym fs)
    (subst (λ z. AreDecided closed.queues.items closed.fetched.items z) (sym notes)
    (are_decided closed.queues.items closed.fetched.items closed.notes.items all g in_place)))
