-- A device that does what is first in its order, transition by transition.
use Rattle.std.specs.Prelude.{ℕ, Bool, ◌+◌, ◌*◌, ◌≤◌, List, [], ◌∷◌, length, ⊤}
use Rattle.std.specs.List.{sum_by}
use Rattle.device_model.specs.World.{PlainWorld}
use Rattle.device_model.specs.Transitions.{Transition, event_of}
use Rattle.device_model.specs.Happens.{Happens, world_of}
use Rattle.device_model.specs.Places.{accepted_count, used_count}
use Rattle.device_model.specs.Order.{IsNext, IsNextOf}
use Rattle.device_model.specs.Measure.{price, visits, roused, answered_hand}

-- from this world on each transition happens, and is of the first event that applies; the newest transition first
abbrev pub Settles : PlainWorld → List Transition → Type 0
Settles w [] = ⊤
Settles w (d ∷ past) = Settles w past × Happens d (world_of w past) × IsNext (world_of w past) (event_of d)

-- the same, with new chains of the queues alone that are asked
abbrev pub SettlesOf : (ℕ → Bool) → PlainWorld → List Transition → Type 0
SettlesOf asked w [] = ⊤
SettlesOf asked w (d ∷ past) =
    SettlesOf asked w past × Happens d (world_of w past) × IsNextOf asked (world_of w past) (event_of d)

-- 1 for a unit that a function visits
abbrev pub visited : Transition → ℕ
visited (Transition.Mark t p m jobs) = 1
visited (Transition.Ask t unit_index rule b) = 1
visited (Transition.MarkRefused t) = 1
visited d = 0

-- how many jobs the transitions of a run from this world have tried again
abbrev pub roused_by : PlainWorld → List Transition → ℕ
roused_by w [] = 0
roused_by w (d ∷ past) = roused_by w past + roused (world_of w past) d

-- the transitions, with the price of each chain that was used before, are at most the price of each chain that was accepted
-- until the end, 1 for each task that was answered already, 1 for each mark that was waited for already, 2 for each
-- unit that a function visits, 1 for each waiting event, 1 for each queue, and 2 for each job that is to be tried again,
-- from the start or by a mark of the function
abbrev pub IsShort : PlainWorld → List Transition → Type 0
IsShort w more =
    length more + used_count price w
    ≤ accepted_count price (world_of w more) + sum_by answered_hand w.seats + visits w.function
    + 2 * sum_by visited more + length w.waiting + length w.queues
    + 2 * length w.woken + 2 * roused_by w more
