-- The kind of a step.
use Rattle.unit_model.specs.Steps.{Step}
use Rattle.unit_log.specs.declared.kind.StepKind.{StepKind}
use Rattle.unit_log.specs.declared.kind.StepKind.TheVariants as kind

-- own: the kind of a step, with its ticket or its rule
abbrev pub kind_of : Step → StepKind
kind_of (Step.Enter e) = kind.Enter e.ticket
kind_of (Step.Full t) = kind.Full t
kind_of (Step.Commit t r) = kind.Commit t
kind_of (Step.Busy t) = kind.Busy t
kind_of (Step.Abort rule) = kind.Abort rule
kind_of (Step.Reset c) = kind.Reset
kind_of (Step.Resize blocks) = kind.Resize
kind_of (Step.Leave t) = kind.Leave t
