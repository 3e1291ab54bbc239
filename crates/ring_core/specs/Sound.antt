-- What is true of every queue, whatever its guest wrote.
use Rattle.std.specs.Prelude.{ℕ, ◌+◌, ◌≡◌, ◌<◌, ◌≤◌, ◌*◌, ◌⊎◌, length, Option, Some, None, slice_get, sum_by, is_some, cond}
use Rattle.ring_core.specs.State.{RingState, PlainChain, Owns, IsLawful, under, opening, accepting, using, breaking}
use Rattle.ring_core.specs.declared.outstanding.OutstandingChain.{OutstandingChain}
use Rattle.ring_core.specs.declared.layout.Form.{Form}
use Rattle.ring_core.specs.declared.layout.Layout.{Layout}
use Rattle.ring_core.specs.declared.layout.Features.{Features}
use Rattle.ring_core.specs.declared.fault.RingFault.{RingFault}
use Rattle.ring_core.specs.declared.fault.RingFault.TheVariants.{NoMemory}

-- how many chains are outstanding
abbrev pub outstanding_count : RingState → ℕ
outstanding_count s = sum_by (λ c. cond (is_some c) 1 0) s.outstanding

-- the slots of a chain, if there is one
abbrev pub slots_of : Option OutstandingChain → ℕ
slots_of None = 0
slots_of (Some c) = c.slots

-- the chain of this number was used
abbrev pub WasUsed : RingState → ℕ → Type 0
WasUsed s n = (k : ℕ) × (slice_get s.log.used k ≡ Some (record { queue = s.queue; number = n }))

-- it is outstanding under a head or id
abbrev pub IsOutstanding : RingState → ℕ → Type 0
IsOutstanding s n = (id : ℕ) × (c : OutstandingChain) × (under s id ≡ Some c) × (c.number ≡ n)

pub record IsSound (s : RingState) : Type 0 where
  pub lawful : IsLawful s.queue s.log
  -- what is outstanding was accepted and not used, each chain under one head or id
  pub was_accepted : (id : ℕ) (c : OutstandingChain) → under s id ≡ Some c → c.number < length s.log.accepted
  pub not_used : (id : ℕ) (c : OutstandingChain) (k : ℕ) → under s id ≡ Some c
      → slice_get s.log.used k ≡ Some (record { queue = s.queue; number = c.number }) → ⊥
  pub under_one : (i j : ℕ) (c d : OutstandingChain) → under s i ≡ Some c → under s j ≡ Some d
      → c.number ≡ d.number → i ≡ j
  -- two bytes hold the slots of each
  pub few_slots : (id : ℕ) (c : OutstandingChain) → under s id ≡ Some c → c.slots < 65536
  -- what was accepted is outstanding or used
  pub accounted : (n : ℕ) → n < length s.log.accepted → WasUsed s n ⊎ IsOutstanding s n
  pub counted : length s.log.used + outstanding_count s ≡ length s.log.accepted
  pub slots_counted : s.used_slots + sum_by slots_of s.outstanding ≡ s.accepted_slots
  pub accepted_bounded : s.accepted_slots ≤ 65536 * length s.log.accepted
  pub used_bounded : s.used_slots ≤ 65536 * length s.log.used
  -- want of memory breaks no queue
  pub broken_by_guest : s.broken ≡ Some NoMemory → ⊥

-- own: the least number of an accepted chain that was not used, if there is one
abbrev pub IsLeastOutstanding : RingState → Option ℕ → Type 0
IsLeastOutstanding s None = (n : ℕ) → n < length s.log.accepted → WasUsed s n
IsLeastOutstanding s (Some n) = (n < length s.log.accepted) × (WasUsed s n → ⊥) × ((m : ℕ) → m < n → WasUsed s m)

-- a fresh queue is sound
abbrev pub OpensSound : Type 0
OpensSound =
    (form : Form) (queue : ℕ) (layout : Layout) (features : Features) (memory ids : ℕ)
    → IsSound (opening form queue layout features memory ids)

-- it stays sound as it accepts a chain under a free head or id
abbrev pub AcceptsSound : Type 0
AcceptsSound =
    (s : RingState) (id slots : ℕ) → IsSound s → id < length s.outstanding → under s id ≡ None → slots < 65536
    → IsSound (accepting s id slots)

-- as a chain of its own is used
abbrev pub UsesSound : Type 0
UsesSound = (s : RingState) (c : PlainChain) → IsSound s → Owns s c → IsSound (using s c)

-- and as a fault of the guest breaks it
abbrev pub BreaksSound : Type 0
BreaksSound = (s : RingState) (f : RingFault) → IsSound s → (f ≡ NoMemory → ⊥) → IsSound (breaking s f)
