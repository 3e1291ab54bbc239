-- Serving: what is first in the order is done, with new chains of the queues alone that are asked, until nothing is left
-- to do, or so many steps were taken.
use Rattle.std.specs.Prelude.{ℕ, ◌≡◌, ◌+◌, ◌≤◌, ◌<◌, ◌^◌, ◌⊎◌, Bool, true, false, Result, Ok, Err}
use Rattle.foundation.specs.declared.NoMemory.{NoMemory}
use Rattle.device_model.specs.World.{PlainWorld}
use Rattle.device_model.specs.Events.{Event}
use Rattle.device_model.specs.Order.{order_of, IsQuiet, IsAtRest, IsNextOf, IsQuietOf, IsAtRestOf}
use Rattle.device_model.specs.Settling.{IsShort}
use Rattle.device_steps.specs.Settling.{asks_all, order_for, ServesBy, MayWantFirst}
use Rattle.world.specs.declared.served.Served.{Served}

-- served so far, at most so many steps: either all were taken and an event is next, or nothing is left but chains of the
-- other queues that weren't accepted; and no more was done than there was to do
pub record ServesSome (asked : ℕ → Bool) (w : PlainWorld) (most : ℕ) (s : Served) (w' : PlainWorld) : Type 0 where
  pub serves : ServesBy asked w s.steps w'
  pub few : s.steps ≤ most
  pub short : IsShort w serves.transitions
  pub left : s.more ≡ true → (s.steps ≡ most) × ((e : Event) × IsNextOf asked w' e)
  pub none : s.more ≡ false → IsQuietOf asked w' × IsAtRestOf asked w'

-- served until memory was refused for what was first
pub record ServesUntilRefused (asked : ℕ → Bool) (w : PlainWorld) (most : ℕ) (w' : PlainWorld) : Type 0 where
  pub count : ℕ
  pub serves : ServesBy asked w count w'
  pub few : count < most
  pub short : IsShort w serves.transitions
  pub wants : MayWantFirst w' (order_for asked w')

abbrev pub ServesSomeOrWants : (ℕ → Bool) → ℕ → PlainWorld → Result Served NoMemory → PlainWorld → Type 0
ServesSomeOrWants asked most w (Ok s) w' = ServesSome asked w most s w'
ServesSomeOrWants asked most w (Err x) w' = ServesUntilRefused asked w most w'

-- served until nothing is left to do: then nothing is left to answer, and no more was done than there was to do
pub record ServesAll (w : PlainWorld) (count : ℕ) (w' : PlainWorld) : Type 0 where
  pub serves : ServesBy asks_all w count w'
  pub quiet : IsQuiet w'
  pub rest : IsAtRest w'
  pub short : IsShort w serves.transitions

-- served until memory was refused for what was first, or all steps that can be counted were taken; and no more was done
-- than there was to do
pub record ServesInPart (w : PlainWorld) (w' : PlainWorld) : Type 0 where
  pub count : ℕ
  pub serves : ServesBy asks_all w count w'
  pub short : IsShort w serves.transitions
  pub wants : MayWantFirst w' (order_of w') ⊎ (count + 1 ≡ 2 ^ 64)

-- served whole, or in part
abbrev pub ServesOrWants : PlainWorld → Result ℕ NoMemory → PlainWorld → Type 0
ServesOrWants w (Ok count) w' = ServesAll w count w'
ServesOrWants w (Err x) w' = ServesInPart w w'
