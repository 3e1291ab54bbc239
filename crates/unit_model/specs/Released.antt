-- Which tasks a step hands out.
use Rattle.std.specs.Prelude.{List, []}
use Rattle.unit_model.specs.Tasks.{Entry}
use Rattle.unit_model.specs.Steps.{Step}
use Rattle.unit_model.specs.Enabling.{newly_enabled, newly_marked}

-- own: the parked tasks that a step hands out, by order of entry: a Leave those that it enables, an Abort or a Reset
-- those that it marks
abbrev pub released : Step → List Step → List Entry
released (Step.Leave t) past = newly_enabled t past
released (Step.Abort rule) past = newly_marked (Step.Abort rule) past
released (Step.Reset c) past = newly_marked (Step.Reset c) past
released step past = []
