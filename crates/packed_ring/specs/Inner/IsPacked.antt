-- What is true of every packed queue: it lies in its memory, and what is outstanding fits in its ring.
use Rattle.std.specs.Prelude.{ℕ, ◌≡◌, ◌+◌, ◌*◌, ◌<◌, ◌≤◌, ◌^◌, length, Some}
use Rattle.ring_core.specs.State.{RingState, under}
use Rattle.ring_core.specs.declared.outstanding.OutstandingChain.{OutstandingChain}
use Rattle.ring_core.specs.declared.layout.Form.TheVariants.{Packed}

pub record IsPacked (s : RingState) : Type 0 where
  pub form : s.form ≡ Packed
  pub some : 0 < s.layout.size
  pub most : s.layout.size ≤ 32768
  pub ids : length s.outstanding ≡ 65536
  pub slots : s.layout.desc + 16 * s.layout.size ≤ s.memory
  pub driver : s.layout.driver + 4 ≤ s.memory
  pub device : s.layout.device + 4 ≤ s.memory
  pub small : s.memory ≤ 2 ^ 52
  -- a chain has a slot, and the slots of those outstanding are no more than the ring has
  pub each_slots : (id : ℕ) (c : OutstandingChain) → under s id ≡ Some c → 1 ≤ c.slots
  -- the latest used chain had no more either, and is among those used
  pub latest : s.latest_slots ≤ s.layout.size
  pub among : s.latest_slots ≤ s.used_slots
  pub within : s.accepted_slots ≤ s.used_slots + s.layout.size
