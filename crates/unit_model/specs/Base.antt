-- What a unit keeps of its history when it runs: its latest steps. How many stood before these, its base, follows from
-- the history: the oldest are folded where a step is added that brings more, before it is added.
use Rattle.std.specs.Prelude.{ℕ, ◌-◌, Bool, true, false, nat_lt, List, [], ◌∷◌, length, take, drop, Option, None, if◌then◌else◌}
use Rattle.unit_model.specs.Steps.{Step}
use Rattle.unit_model.specs.Receipts.{step_at}

-- own: so many steps are kept at most when one is added that folds, and so many at any time: that one, and two for each
-- of the 64 tasks that may be alive
abbrev pub most_before : ℕ
most_before = 4095

abbrev pub most_kept : ℕ
most_kept = 4224

-- own: the steps that nothing alive has room for: where one of these is added, the oldest are folded first
abbrev pub folds : Step → Bool
folds (Step.Enter e) = true
folds (Step.Full t) = true
folds (Step.Abort rule) = true
folds (Step.Reset c) = true
folds (Step.Resize blocks) = true
folds (Step.Commit t r) = false
folds (Step.Busy t) = false
folds (Step.Leave t) = false

-- own: how many steps are folded
abbrev pub base_of : List Step → ℕ
base_of [] = 0
base_of (step ∷ past) = if folds step then length past - most_before else base_of past

-- own: the steps that are kept, and those that are folded
abbrev pub kept_steps : List Step → List Step
kept_steps h = take (length h - base_of h) h

abbrev pub folded_steps : List Step → List Step
folded_steps h = drop (length h - base_of h) h

-- own: the step at a place, where it is kept: places go on counting from the opening
abbrev pub kept_at : ℕ → List Step → Option Step
kept_at place h = if nat_lt place (base_of h) then None else step_at place h
