-- Blocks of 512 bytes.
use Rattle.std.specs.Prelude.{ℕ, ◌≡◌, List, [], ◌∷◌, length}
use Rattle.unit_model.specs.Contents.{blocks_of}
use Rattle.device_model.specs.World.{PlainWorld, Everywhere}
use Rattle.device_model.specs.Transitions.{Transition}
use Rattle.device_model.specs.Happens.{world_of}

-- each block of each unit has 512 bytes
abbrev pub HasWholeBlocks : PlainWorld → Type 0
HasWholeBlocks w = Everywhere (λ i u. (b : ℕ) → length (blocks_of u.opening u.steps b) ≡ 512) w.units

-- so they have in each world that the transitions lead through
abbrev pub KeepsWholeBlocks : PlainWorld → List Transition → Type 0
KeepsWholeBlocks old [] = HasWholeBlocks old
KeepsWholeBlocks old (d ∷ past) = HasWholeBlocks (world_of old (d ∷ past)) × KeepsWholeBlocks old past
