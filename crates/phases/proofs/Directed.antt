-- A chain for which no command ran, answered in a memory that others may write too.
use Rattle.std.proofs.Common.{◌≡◌, ℕ, Bool, true, false, List, [], Option, Some, None, refl, sym, ap, subst, ◌∙◌}
use Rattle.std.specs.Prelude.{IsTrue, ◌↔◌}
use Rattle.std.proofs.lemmas.Bool.{false≢true}
use Rattle.scsi_codec.specs.ControlQueue.{function_bytes}
use Rattle.ring_core.specs.State.{PlainChain}
use Rattle.ring_core.specs.Writes.{Write, all_written}
use Rattle.task_mgmt.specs.Functions.{is_over, response_of}
use Rattle.device_model.specs.Parts.{IsSeen, Outcome, Slot, lengths_of, bytes_of, answer_writes}
use Rattle.device_model.specs.World.{Opened}
use Rattle.device_model.specs.Transitions.{Transition}
use Rattle.virtqueue.specs.Queue.{BareQueue, MayComplete, completing}
use Rattle.virtqueue.specs.Completing.{SeenBehind}
use Rattle.phases.specs.Queue.{with_slot}
use Rattle.phases.specs.Slots.{is_direct}
use Rattle.phases.specs.Direct.{decided_writes, Directs, Responds, RespondsWhere}
use Rattle.phases.specs.InMemory.{EachSeen}
use Rattle.phases.specs.Inner.InMemory.{as_seen, DoesQueueIn, StaysQueueIn, LetsGoIn, DirectsIn, RespondsIn, RespondsWhereIn}
use Rattle.phases.proofs.Behind.{is_seen, each_read, does_own}

-- nothing is done
pub stays_so : (q : BareQueue) (m : List ℕ) → StaysQueueIn q q m m m
stays_so q m = record { queue = refl; memory = refl; seen = refl }

pub lets_go_so : (q : BareQueue) (m : List ℕ) (c : PlainChain) → (MayComplete q m c → ⊥) → LetsGoIn q m c q m m
lets_go_so q m c why = record { why = why; stays = stays_so q m }

-- it may not be completed
pub may_not : (q : BareQueue) (m : List ℕ) (c : PlainChain) → (IsTrue false ↔ MayComplete q m c) → MayComplete q m c → ⊥
may_not q m c told may = false≢true (told.1 may)

-- Direct

-- the chain is answered
directs_so : (shared : Bool) (c : PlainChain) (o : Outcome) (q q' : BareQueue) (before after : List ℕ → Type 0)
    → SeenBehind shared before after (decided_writes q.ring c o) → ((m : List ℕ) → after m → q' ≡ completing m c q)
    → EachSeen shared before after (λ found left seen. DirectsIn shared (Slot.Direct c o) q found true q' left seen Slot.Empty)
directs_so shared c o q q' before after behind queue =
    λ seen may.
    let ws : List Write = decided_writes q.ring c o in
    let (found, was, left_so) = behind seen may in
    let seen_so : IsSeen shared (all_written found ws) seen = is_seen shared (all_written found ws) seen left_so in (
      found,
      was,
      (
        all_written found ws,
        seen_so,
        (
          λ inventory.
              record { asks = λ missed. (refl, seen_so); queue = ap (with_slot Slot.Empty) (queue seen may); memory = refl },
          refl,
        ),
      ),
    )

pub directs : (shared : Bool) (c d : PlainChain) (o : Outcome) (q q' : BareQueue) (before after : List ℕ → Type 0) (bytes : List ℕ)
    → d ≡ c → bytes ≡ bytes_of (lengths_of c) o → SeenBehind shared before after (answer_writes q.ring d bytes)
    → ((m : List ℕ) → after m → q' ≡ completing m d q)
    → EachSeen shared before after (λ found left seen. DirectsIn shared (Slot.Direct c o) q found true q' left seen Slot.Empty)
directs shared c d o q q' before after bytes same is behind queue =
    directs_so shared c o q q' before after
    (subst (λ (b : List ℕ). SeenBehind shared before after (answer_writes q.ring c b)) is
    (subst (λ (k : PlainChain). SeenBehind shared before after (answer_writes q.ring k bytes)) same behind))
    (λ m may. queue m may ∙ ap (λ (k : PlainChain). completing m k q) same)

-- no chain is to be answered
pub directs_none : (shared : Bool) (s : Slot) (q : BareQueue) (may : List ℕ → Type 0) → is_direct s ≡ false
    → EachSeen shared may may (λ found left seen. DirectsIn shared s q found false q left seen s)
directs_none shared Slot.Empty q may none =
    each_read shared may may (λ found left seen. DirectsIn shared Slot.Empty q found false q left seen Slot.Empty) (λ m stood. stood)
    (λ m stood. (stays_so q m, refl))
directs_none shared (Slot.Arrived x) q may none =
    each_read shared may may (λ found left seen. DirectsIn shared (Slot.Arrived x) q found false q left seen (Slot.Arrived x))
    (λ m stood. stood) (λ m stood. (stays_so q m, refl))
directs_none shared (Slot.Direct c o) q may none = absurd (cc)

-- the chain is let go
pub directs_away : (shared : Bool) (c d : PlainChain) (o : Outcome) (q : BareQueue) (may : List ℕ → Type 0) → d ≡ c
    → ((m : List ℕ) → may m → IsTrue false ↔ MayComplete q m d)
    → EachSeen shared may may (λ found left seen. DirectsIn shared (Slot.Direct c o) q found false q left seen Slot.Empty)
directs_away shared c d o q may same why =
    each_read shared may may (λ found left seen. DirectsIn shared (Slot.Direct c o) q found false q left seen Slot.Empty)
    (λ m stood. stood)
    (λ m stood. (lets_go_so q m c (subst (λ (k : PlainChain). MayComplete q m k → ⊥) same (may_not q m d (why m stood))), refl))

-- in a memory that nobody else writes
pub directs_own : (s s' : Slot) (q q' : BareQueue) (m m' n : List ℕ) (r : Bool) → DirectsIn false s q m r q' m' n s'
    → Directs s q m r q' m' s'
directs_own (Slot.Direct c o) s' q q' m m' n true (does, slot) = (
  (λ inventory.
      let xs : List Write = decided_writes q.ring c o in
      let seen : n ≡ all_written m xs = ((does (record { addresses = []; profiles = [] })).asks false).1 in
      does_own inventory (Transition.Direct c o (as_seen (all_written m xs) xs)) (with_slot (Slot.Direct c o) q) (with_slot s' q') m m'
      (subst (λ z. DoesQueueIn false inventory (Transition.Direct c o (as_seen z xs)) (with_slot (Slot.Direct c o) q) m
      (with_slot s' q') m') seen (does inventory))),
  slot,
)
directs_own (Slot.Direct c o) s' q q' m m' n false (gone, slot) = (
  record { why = gone.why; stays = record { queue = gone.stays.queue; memory = gone.stays.memory } },
  slot,
)
directs_own Slot.Empty s' q q' m m' n true impossible = impossible
directs_own (Slot.Arrived x) s' q q' m m' n true impossible = impossible
directs_own Slot.Empty s' q q' m m' n false (stays, slot) = (record { queue = stays.queue; memory = stays.memory }, slot)
directs_own (Slot.Arrived x) s' q q' m m' n false (stays, slot) = (record { queue = stays.queue; memory = stays.memory }, slot)

-- Respond

-- the function is answered
pub responds : (shared : Bool) (f : Opened) (q q' : BareQueue) (before after : List ℕ → Type 0) (bytes : List ℕ)
    → is_over f.function ≡ true → bytes ≡ function_bytes (response_of f.function)
    → SeenBehind shared before after (answer_writes q.ring f.chain bytes)
    → ((m : List ℕ) → after m → q' ≡ completing m f.chain q)
    → EachSeen shared before after (λ found left seen. RespondsIn shared (Some f) q found true q' left seen None)
responds shared f q q' before after bytes over is behind queue =
    λ seen may.
    let ws : List Write = answer_writes q.ring f.chain (function_bytes (response_of f.function)) in
    let (found, was, left_so) = subst (λ b. SeenBehind shared before after (answer_writes q.ring f.chain b)) is behind seen may in
    let seen_so : IsSeen shared (all_written found ws) seen = is_seen shared (all_written found ws) seen left_so in (
      found,
      was,
      (
        all_written found ws,
        seen_so,
        subst (λ b. RespondsWhereIn shared b f q found true q' (all_written found ws) seen None) (sym over) (
          λ inventory s. record { asks = λ missed. (refl, seen_so); queue = ap (with_slot s) (queue seen may); memory = refl },
          refl,
        ),
      ),
    )

-- the function isn't over
pub responds_later : (shared : Bool) (f : Opened) (q : BareQueue) (may : List ℕ → Type 0) → is_over f.function ≡ false
    → EachSeen shared may may (λ found left seen. RespondsIn shared (Some f) q found false q left seen (Some f))
responds_later shared f q may later =
    each_read shared may may (λ found left seen. RespondsIn shared (Some f) q found false q left seen (Some f))
    (λ m stood. stood)
    (λ m stood. subst (λ b. RespondsWhereIn shared b f q m false q m m (Some f)) (sym later) (stays_so q m, refl))

-- no function is open
pub responds_none : (shared : Bool) (q : BareQueue) (may : List ℕ → Type 0)
    → EachSeen shared may may (λ found left seen. RespondsIn shared None q found false q left seen None)
responds_none shared q may =
    each_read shared may may (λ found left seen. RespondsIn shared None q found false q left seen None) (λ m stood. stood)
    (λ m stood. (stays_so q m, refl))

-- the function is let go
pub responds_away : (shared : Bool) (f : Opened) (q : BareQueue) (may : List ℕ → Type 0) → is_over f.function ≡ true
    → ((m : List ℕ) → may m → IsTrue false ↔ MayComplete q m f.chain)
    → EachSeen shared may may (λ found left seen. RespondsIn shared (Some f) q found false q left seen None)
responds_away shared f q may over why =
    each_read shared may may (λ found left seen. RespondsIn shared (Some f) q found false q left seen None) (λ m stood. stood)
    (λ m stood.
    subst (λ b. RespondsWhereIn shared b f q m false q m m None) (sym over) (lets_go_so q m f.chain (may_not q m f.chain (why m stood)), refl))

-- in a memory that nobody else writes
where_own : (b : Bool) (f : Opened) (f' : Option Opened) (q q' : BareQueue) (m m' n : List ℕ) (r : Bool)
    → RespondsWhereIn false b f q m r q' m' n f' → RespondsWhere b f q m r q' m' f'
where_own true f f' q q' m m' n true (does, function) = (
  (λ inventory s.
      let xs : List Write = answer_writes q.ring f.chain (function_bytes (response_of f.function)) in
      let seen : n ≡ all_written m xs = ((does (record { addresses = []; profiles = [] }) Slot.Empty).asks false).1 in
      let d : List ℕ → Transition = λ z. Transition.Respond f.chain (response_of f.function) (as_seen z xs) in
      does_own inventory (d (all_written m xs)) (with_slot s q) (with_slot s q') m m'
      (subst (λ z. DoesQueueIn false inventory (d z) (with_slot s q) m (with_slot s q') m') seen (does inventory s))),
  function,
)
where_own true f f' q q' m m' n false (gone, function) = (
  record { why = gone.why; stays = record { queue = gone.stays.queue; memory = gone.stays.memory } },
  function,
)
where_own false f f' q q' m m' n true impossible = impossible
where_own false f f' q q' m m' n false (stays, function) = (record { queue = stays.queue; memory = stays.memory }, function)

pub responds_own : (f f' : Option Opened) (q q' : BareQueue) (m m' n : List ℕ) (r : Bool)
    → RespondsIn false f q m r q' m' n f' → Responds f q m r q' m' f'
responds_own (Some f) f' q q' m m' n r responds = where_own (is_over f.function) f f' q q' m m' n r responds
responds_own None f' q q' m m' n true impossible = impossible
responds_own None f' q q' m m' n false (stays, function) = (record { queue = stays.queue; memory = stays.memory }, function)
