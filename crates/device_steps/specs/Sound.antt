-- What holds of the device between two steps.
use Rattle.std.specs.Prelude.{ℕ, ◌≡◌, ◌≤◌, List, length, map}
use Rattle.unit_model.specs.Unit.{PlainUnit}
use Rattle.device_model.specs.World.{PlainQueue, PlainWorld, Everywhere}
use Rattle.device_model.specs.Happens.{Occurrence, Reached}

-- some trace reached it from an opening
pub record IsReached (w : PlainWorld) : Type 0 where
  pub old : PlainWorld
  pub trace : List Occurrence
  pub reached : Reached old trace w

abbrev pub size_of : PlainQueue → ℕ
size_of q = q.ring.layout.size

abbrev pub lun_of : PlainUnit → ℕ
lun_of u = u.opening.lun

-- a device has 3 to 18 queues, 9 seats and 64 units, its queues have at most 1,024 descriptors, and its units LUNs to
-- 16,383
pub record AreFew (w : PlainWorld) : Type 0 where
  pub several : 3 ≤ length w.queues
  pub queues : length w.queues ≤ 18
  pub seats : length w.seats ≤ 9
  pub units : length w.units ≤ 64
  pub sizes : Everywhere (λ i (n : ℕ). n ≤ 1024) (map size_of w.queues)
  pub luns : Everywhere (λ k (n : ℕ). n ≤ 16383) (map lun_of w.units)

-- each ring was made for a memory of this size, so that no phase finds one that doesn't fit
abbrev pub AreFitting : PlainWorld → Type 0
AreFitting w = Everywhere (λ i (q : PlainQueue). q.ring.memory ≡ length w.memory) w.queues

-- what the transitions keep
pub record IsWhole (w : PlainWorld) : Type 0 where
  pub reached : IsReached w
  pub few : AreFew w

-- what holds between two calls
pub record IsSteady (w : PlainWorld) : Type 0 where
  pub whole : IsWhole w
  pub fits : AreFitting w
