-- What is first in the order, with new chains of the queues alone that are asked, and the transitions of serving it.
use Rattle.std.specs.Prelude.{ℕ, ◌≡◌, ◌==◌, ◌⊎◌, Bool, true, List, [], ◌∷◌, length}
use Rattle.std.specs.Int.{bit_at}
use Rattle.device_model.specs.World.{PlainWorld}
use Rattle.device_model.specs.Events.{Event}
use Rattle.device_model.specs.Transitions.{Transition}
use Rattle.device_model.specs.Happens.{MayWant, world_of}
use Rattle.device_model.specs.Applies.{Applies}
use Rattle.device_model.specs.Order.{order_by}
use Rattle.device_model.specs.Settling.{SettlesOf}

-- the queues whose bit is set, that of queue 0 the lowest
abbrev pub asks : ℕ → ℕ → Bool
asks queues q = bit_at queues q == 1

-- each queue
abbrev pub asks_all : ℕ → Bool
asks_all q = true

-- the order, with new chains of the queues alone that are asked
abbrev pub order_for : (ℕ → Bool) → PlainWorld → List Event
order_for asked w = order_by asked (length w.queues) (length w.seats)

-- the transitions lead from one world to the other, each of the first event that applies, and are so many
pub record ServesBy (asked : ℕ → Bool) (w : PlainWorld) (count : ℕ) (w' : PlainWorld) : Type 0 where
  pub transitions : List Transition
  pub settles : SettlesOf asked w transitions
  pub is : w' ≡ world_of w transitions
  pub counted : length transitions ≡ count

-- of these events the first that applies may be refused memory
abbrev pub MayWantFirst : PlainWorld → List Event → Type 0
MayWantFirst w [] = ⊥
MayWantFirst w (x ∷ xs) = MayWant x w ⊎ ((Applies w x → ⊥) × MayWantFirst w xs)
