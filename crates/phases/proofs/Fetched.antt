-- What a fetch does to its queue, as transitions.
use Rattle.std.proofs.Common.{◌≡◌, ℕ, List, Option, None, zero, suc, ◌≤◌, inl, inr, refl, ap, ◌∙◌, subst, arith}
use Rattle.ring_core.specs.State.{RingState, PlainChain}
use Rattle.ring_core.specs.Fetch.{Takes}
use Rattle.ring_core.specs.declared.log.Ticket.{Ticket}
use Rattle.request_intake.specs.Inventory.{PlainInventory}
use Rattle.request_intake.specs.declared.decision.Decision.TheVariants as decision
use Rattle.task_mgmt.specs.declared.control.ControlDecision.TheVariants as managed
use Rattle.device_model.specs.Parts.{PlainFetch, Outcome, Slot}
use Rattle.device_model.specs.World.{PlainQueue, Opened}
use Rattle.device_model.specs.Transitions.{Transition}
use Rattle.device_model.specs.Changing.{with_chain}
use Rattle.device_model.specs.Event.Fetch.{DecidesRequest, DecidesControl, IsDirect}
use Rattle.virtqueue.specs.Queue.{BareQueue}
use Rattle.phases.specs.Queue.{with_slot}
use Rattle.phases.specs.DoingQueue.{DoesQueue}
use Rattle.virtqueue.specs.Looking.{Breaks}
use Rattle.phases.specs.Fetching.{IsRequestFetch, IsControlFetch, opens}
use Rattle.phases.specs.Inner.Fetching.{Arrives, IsDecided}

-- a direct answer to a chain of a request queue is decided as that of a request
request_direct : (inventory : PlainInventory) (n : ℕ) (f : PlainFetch) (a : List ℕ) → 2 ≤ n
    → DecidesRequest inventory f (decision.Direct a) → IsDirect inventory n f a
request_direct inventory zero f a two decides = absurd (omega (arith, two))
request_direct inventory (suc n) f a two decides = decides

-- a direct answer to a chain of the control queue is decided as that of a control request
control_direct : (inventory : PlainInventory) (n : ℕ) (f : PlainFetch) (a : List ℕ) → n ≡ 0
    → DecidesControl inventory f (managed.Direct a) → IsDirect inventory n f a
control_direct inventory zero f a none decides = decides
control_direct inventory (suc n) f a none decides = absurd (omega (arith, none))

-- queues are the same where their parts are
same_queue : (q : PlainQueue) (r : RingState) (s : Slot) (n : ℕ) → q.ring ≡ r → q.slot ≡ s → q.notices ≡ n
    → q ≡ record { ring = r; slot = s; notices = n }
same_queue q r s n ring slot notices =
    ap (λ (x : RingState). record q { ring = x }) ring
    ∙ ap (λ (x : Slot). record q { ring = r; slot = x }) slot
    ∙ ap (λ (x : ℕ). record q { ring = r; slot = s; notices = x }) notices

-- A chain with these bytes was taken from a queue:
module _ (inventory : PlainInventory) (old new : BareQueue) (m : List ℕ) (c : PlainChain) (bytes : List ℕ) (s : Slot)
    (taken : Takes old.ring m c bytes new.ring) (same : new.notices ≡ old.notices) where
  abbrev fetch : PlainFetch
  fetch = record { chain = c; bytes = bytes }

  gives : Takes old.ring m c bytes (with_chain c old.ring)
  gives = subst (λ (r : RingState). Takes old.ring m c bytes r) taken.after taken

  of_queue : c.ticket.queue ≡ old.ring.queue
  of_queue = ap (λ (t : Ticket). t.queue) taken.ticket

  left : (s' : Slot) → with_slot s' new ≡ record { ring = with_chain c old.ring; slot = s'; notices = old.notices }
  left s' = same_queue (with_slot s' new) (with_chain c old.ring) s' old.notices taken.after refl same

  -- of a request queue: the transition that what was decided of it is
  pub request_taken : (s' : Slot) → 2 ≤ old.ring.queue → Arrives inventory c bytes s'
      → (d : Transition) × IsRequestFetch old.ring.queue d × DoesQueue inventory d (with_slot s old) m (with_slot s' new) m
  request_taken Slot.Empty two arrives = absurd arrives
  request_taken (Slot.Arrived x) two arrives = (
    Transition.Arrive fetch x,
    of_queue,
    record {
      asks = λ shared missed. (gives, arrives.0, arrives.1, arrives.2, arrives.3);
      queue = left (Slot.Arrived x);
      memory = refl;
    },
  )
  request_taken (Slot.Direct d o) two arrives =
      let (a, chain, told, decides) = arrives in
      let ready : Slot.Direct d o ≡ Slot.Direct c (Outcome.Decided a) =
      ap (λ (x : PlainChain). Slot.Direct x o) chain ∙ ap (λ (x : Outcome). Slot.Direct c x) told in
      let two_of : 2 ≤ c.ticket.queue = omega (arith, two, of_queue) in (
        Transition.Refuse fetch a,
        of_queue,
        record {
          asks = λ shared missed. (gives, request_direct inventory c.ticket.queue fetch a two_of decides);
          queue = ap (λ (x : Slot). with_slot x new) ready ∙ left (Slot.Direct c (Outcome.Decided a));
          memory = refl;
        },
      )

  -- of the control queue, where no function is open: the transition that what was decided of it is
  pub control_taken : (s' : Slot) (f f' : Option Opened) → old.ring.queue ≡ 0 → f ≡ None
      → IsDecided inventory c bytes s f s' f'
      → (d : Transition) × IsControlFetch d × DoesQueue inventory d (with_slot s old) m (with_slot s' new) m × (f' ≡ opens d)
  control_taken s' f f' control none (inl decided) =
      let (a, ready, stays, decides) = decided in (
        Transition.Refuse fetch a,
        of_queue ∙ control,
        record {
          asks = λ shared missed. (gives, control_direct inventory c.ticket.queue fetch a (of_queue ∙ control) decides);
          queue = ap (λ (x : Slot). with_slot x new) ready ∙ left (Slot.Direct c (Outcome.Decided a));
          memory = refl;
        },
        stays ∙ none,
      )
  control_taken s' f f' control none (inr decided) =
      let (g, opened, stays, decides) = decided in (
        Transition.Open fetch g,
        of_queue ∙ control,
        record {
          asks = λ shared missed. (gives, decides);
          queue = ap (λ (x : Slot). with_slot x new) stays ∙ left s;
          memory = refl;
        },
        opened,
      )

-- a fault of the guest that breaks a queue is the transition that breaks it
pub broken : (inventory : PlainInventory) (old new : BareQueue) (m : List ℕ) (s : Slot) (b : Breaks old m new)
    → DoesQueue inventory (Transition.Break old.ring.queue b.fault) (with_slot s old) m (with_slot s new) m
broken inventory old new m s b =
    record {
      asks = λ shared missed. (b.whole, b.offered);
      queue = ap (with_slot s) b.after;
      memory = refl;
    }
