-- What is true of every split queue: it lies in its memory.
use Rattle.std.specs.Prelude.{◌≡◌, ◌+◌, ◌*◌, ◌<◌, ◌≤◌, ◌^◌, length}
use Rattle.ring_core.specs.State.{RingState}
use Rattle.ring_core.specs.declared.layout.Form.TheVariants.{Split}

pub record IsSplit (s : RingState) : Type 0 where
  pub form : s.form ≡ Split
  pub some : 0 < s.layout.size
  pub most : s.layout.size ≤ 32768
  pub heads : length s.outstanding ≡ s.layout.size
  pub table : s.layout.desc + 16 * s.layout.size ≤ s.memory
  pub available : s.layout.driver + 6 + 2 * s.layout.size ≤ s.memory
  pub used : s.layout.device + 6 + 8 * s.layout.size ≤ s.memory
  pub small : s.memory ≤ 2 ^ 52
