-- The log of the steps: what clauses see of it.
use Rattle.std.specs.Prelude.{ℕ, ◌+◌, ◌-◌, ◌^◌, Bool, true, false, List, map, min, reverse}
use Rattle.std.specs.declared.collections.VecDeque.{VecDeque}
use Rattle.std.specs.VecDeque.{deque_capacity, deque_len}
use Rattle.unit_model.specs.Steps.{Step}
use Rattle.unit_model.specs.Base.{most_kept}
use Rattle.unit_log.specs.declared.recorded.RecordedStep.{RecordedStep}
use Rattle.unit_log.specs.declared.recorded.RecordedStep.TheVariants as recorded

-- own: the step, with its data
abbrev pub step_recorded : RecordedStep → Step
step_recorded (recorded.Enter e) = Step.Enter e
step_recorded (recorded.Full t) = Step.Full t
step_recorded (recorded.Commit t r) = Step.Commit t r
step_recorded (recorded.Busy t) = Step.Busy t
step_recorded (recorded.Abort rule) = Step.Abort rule
step_recorded (recorded.Reset c) = Step.Reset c
step_recorded (recorded.Resize blocks) = Step.Resize blocks
step_recorded (recorded.Leave t) = Step.Leave t

-- the steps, the newest first
abbrev pub steps_recorded : List RecordedStep → List Step
steps_recorded items = map step_recorded (reverse items)

-- steps in their order
pub record Counted : Type 0 where
  pub items : List RecordedStep

-- own: a unit takes no step that brings more where so many stand, and those that are owed then still find room
abbrev pub most_steps : ℕ
most_steps = 2 ^ 63

-- how many more steps a unit takes
abbrev pub steps_left : ℕ → ℕ
steps_left steps = most_steps + most_kept - steps

-- for how many more there is room in a list
abbrev pub spare_of_deque : {T Z : Type 0} → VecDeque T Z → ℕ
spare_of_deque q = deque_capacity q - deque_len q

-- for how many more steps there is room, by that for kinds, that for replies, and how many steps there may be
abbrev pub room_left : Bool → ℕ → ℕ → ℕ → ℕ
room_left true kinds replies left = min (min kinds replies) left
room_left false kinds replies left = min kinds left

-- the steps, the newest first, whether replies are kept, for how many more there is room, how many are folded, and
-- before which place it is forgotten of folded steps which tasks they met
pub record Logged : Type 0 where
  pub steps : List Step
  pub keeps : Bool
  pub room : ℕ
  pub base : ℕ
  pub forgotten : ℕ
