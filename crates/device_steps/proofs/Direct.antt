-- The phase that answers the chain that is ready on a queue takes the turn of its event.
use Rattle.std.proofs.Common.{◌≡◌, ℕ, Bool, true, false, List, [], length, Some, refl, sym, ap, ◌∙◌, subst}
use Rattle.std.specs.Prelude.{slice_get, slice_set}
use Rattle.ring_core.specs.State.{PlainChain, Owns}
use Rattle.ring_core.specs.Writes.{Write}
use Rattle.device_model.specs.Parts.{Outcome, Slot}
use Rattle.device_model.specs.World.{PlainQueue, PlainWorld, Everywhere, change}
use Rattle.device_model.specs.Transitions.{Transition}
use Rattle.device_model.specs.Events.{Event}
use Rattle.device_model.specs.Changing.{directing}
use Rattle.device_model.proofs.Joining.{joins}
use Rattle.virtqueue.specs.Queue.{BareQueue}
use Rattle.phases.specs.Queue.{with_slot}
use Rattle.phases.specs.Direct.{decided_writes}
use Rattle.phases.specs.Inner.Stored.{directed_writes}
use Rattle.phases.specs.Inner.InMemory.{as_seen, DoesQueueIn, DirectsIn, LetsGoIn, StaysQueueIn}
use Rattle.device_steps.specs.Apart.{TurnsSeen}
use Rattle.device_steps.specs.Inner.Sound.{IsSound}
use Rattle.device_steps.proofs.Setting.{set_change, set_same}
use Rattle.device_steps.proofs.Seats.{one_there}

-- the device with memory and a queue set
abbrev pub with_queue : PlainWorld → List ℕ → ℕ → PlainQueue → PlainWorld
with_queue w m i q = record w { memory = m; queues = slice_set w.queues i q }

-- the device is one where its memory and its queues are
moved : (w : PlainWorld) (m m' : List ℕ) (queues queues' : List PlainQueue) → m ≡ m' → queues ≡ queues'
    → record w { memory = m; queues = queues } ≡ record w { memory = m'; queues = queues' }
moved w m m' queues queues' em eq =
    ap (λ (z : List ℕ). record w { memory = z; queues = queues }) em
    ∙ ap (λ (z : List PlainQueue). record w { memory = m'; queues = z }) eq

module _ (stored : List Write → Type 0) (w : PlainWorld) (i : ℕ) (d : PlainChain) (o : Outcome) (q r : BareQueue)
    (m n : List ℕ) (s : Slot) (there : slice_get w.queues i ≡ Some (with_slot (Slot.Direct d o) q)) where
  -- the chain is answered
  directed : d.ticket.queue ≡ i → stored (decided_writes q.ring d o)
      → DoesQueueIn w.shared w.inventory (Transition.Direct d o (as_seen n (decided_writes q.ring d o))) (with_slot (Slot.Direct d o) q) w.memory
      (with_slot s r) m → TurnsSeen stored n w (Event.Direct i) true (with_queue w m i (with_slot s r))
  directed is wrote does =
      let xs = decided_writes q.ring d o in
      let z = with_slot (Slot.Direct d o) q in
      let there_d : slice_get w.queues d.ticket.queue ≡ Some z = ap (λ n. slice_get w.queues n) is ∙ there in
      let g : PlainQueue → PlainQueue = directing n d in
      let eq : slice_set w.queues i (with_slot s r) ≡ change g d.ticket.queue w.queues =
      ap (λ (y : PlainQueue). slice_set w.queues i y) does.queue
      ∙ (set_change g i w.queues z there ∙ ap (λ n. change g n w.queues) (sym is)) in
      let e = Transition.Direct d o (as_seen n xs) in (
        e,
        ap (λ n. Event.Direct n) is,
        joins e w (z, there_d, refl) tt (z, there_d, does.asks w.missed),
        moved w _ _ _ _ does.memory eq,
        refl,
        wrote,
      )

  -- the queue owns the chain, so it isn't let go
  must_direct : IsSound w → Everywhere (λ i (q : PlainQueue). q.ring.memory ≡ length w.memory) w.queues
      → LetsGoIn q w.memory d r m n → ⊥
  must_direct sound fits c =
      let (is, owned) = sound.owned.slots i _ there in
      let there_d = ap (λ n. slice_get w.queues n) is ∙ there in
      let one : owned.queue ≡ with_slot (Slot.Direct d o) q =
      one_there w.queues d.ticket.queue owned.queue (with_slot (Slot.Direct d o) q) owned.there there_d in
      c.why (record {
        fits = sym (fits i _ there);
        owned = subst (λ (z : PlainQueue). Owns z.ring d) one owned.owned;
      })

-- nothing is changed, and no chain is ready
stays : (stored : List Write → Type 0) (w : PlainWorld) (i : ℕ) (slot s : Slot) (q r : BareQueue) (m n : List ℕ)
    → stored [] → slice_get w.queues i ≡ Some (with_slot slot q) → ((d : PlainChain) (o : Outcome) → slot ≡ Slot.Direct d o → ⊥)
    → StaysQueueIn q r w.memory m n × (s ≡ slot)
    → TurnsSeen stored n w (Event.Direct i) false (with_queue w m i (with_slot s r))
stays stored w i slot s q r m n none there not_ready (same_queue, ss) =
    let eq : slice_set w.queues i (with_slot s r) ≡ w.queues =
    ap (λ (z : BareQueue). slice_set w.queues i (with_slot s z)) same_queue.queue
    ∙ (ap (λ (z : Slot). slice_set w.queues i (with_slot z q)) ss ∙ set_same i w.queues (with_slot slot q) there) in (
      moved w _ _ _ _ same_queue.memory eq,
      λ (d, o, (z, there_z, is)).
          not_ready d o (ap (λ (y : PlainQueue). y.slot) (one_there w.queues i _ z there there_z) ∙ is),
      same_queue.seen,
      none,
    )

-- the phase takes the event's turn
pub directs : (stored : List Write → Type 0) (w : PlainWorld) (i : ℕ) (slot s : Slot) (q r : BareQueue) (m n : List ℕ) (b : Bool) → IsSound w
    → Everywhere (λ i (q : PlainQueue). q.ring.memory ≡ length w.memory) w.queues
    → slice_get w.queues i ≡ Some (with_slot slot q) → stored (directed_writes slot q.ring b)
    → DirectsIn w.shared slot q w.memory b r m n s → TurnsSeen stored n w (Event.Direct i) b (with_queue w m i (with_slot s r))
directs stored w i Slot.Empty s q r m n true sound fits there wrote c = absurd c
directs stored w i Slot.Empty s q r m n false sound fits there wrote c =
    stays stored w i Slot.Empty s q r m n wrote there (λ d o e. cc) c
directs stored w i (Slot.Arrived x) s q r m n true sound fits there wrote c = absurd c
directs stored w i (Slot.Arrived x) s q r m n false sound fits there wrote c =
    stays stored w i (Slot.Arrived x) s q r m n wrote there (λ d o e. cc) c
directs stored w i (Slot.Direct d o) s q r m n true sound fits there wrote c =
    directed stored w i d o q r m n s there (sound.owned.slots i _ there).0 wrote (c.0 w.inventory)
directs stored w i (Slot.Direct d o) s q r m n false sound fits there wrote c =
    absurd (must_direct stored w i d o q r m n s there sound fits c.0)
