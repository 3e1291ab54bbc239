-- Which tasks an Abort or a Reset waits for. The place of a step is the number of steps that stand before it.
use Rattle.std.specs.Prelude.{ℕ, ◌≡◌, Bool, true, not, ◌==◌, List, [], ◌∷◌, length, filter, Option, Some, None, if◌then◌else◌}
use Rattle.std.specs.List.{list_all, AllByRecursion}
use Rattle.unit_model.specs.declared.rule.Rule.{Rule}
use Rattle.unit_model.specs.declared.rule.Rule.TheVariants.{All}
use Rattle.unit_model.specs.Tasks.{Entry, meets}
use Rattle.unit_model.specs.Steps.{Step, alive, is_alive, has_left}

-- own: the tasks that a step meets: an Abort those alive that its rule meets, done or not, a Reset all that are alive
abbrev pub met_by : Step → List Step → List Entry
met_by (Step.Abort rule) past = filter (meets rule) (alive past)
met_by (Step.Reset c) past = alive past
met_by step past = []

-- own: the tasks that the step at a place met
abbrev pub met_at : ℕ → List Step → List Entry
met_at place [] = []
met_at place (step ∷ past) = if length past == place then met_by step past else met_at place past

-- own: none of them is alive
abbrev pub is_clear : ℕ → List Step → Bool
is_clear place h = list_all (λ (e : Entry). not (is_alive e.ticket h)) (met_at place h)

-- own: each of them has left
abbrev pub AreGone : ℕ → List Step → Type 0
AreGone place h = AllByRecursion (λ (e : Entry). has_left e.ticket h ≡ true) (met_at place h)

-- own: which tasks a step meets, if it meets any: an Abort those of its rule, a Reset all
abbrev pub rule_of : Step → Option Rule
rule_of (Step.Abort rule) = Some rule
rule_of (Step.Reset c) = Some All
rule_of step = None

-- own: which tasks the step at a place met
abbrev pub rule_at : ℕ → List Step → Option Rule
rule_at place [] = None
rule_at place (step ∷ past) = if length past == place then rule_of step else rule_at place past
