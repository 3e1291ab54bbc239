-- What a seat's hand says of its next step.
use Rattle.device_model.specs.Parts.{Hand}
use Rattle.device_steps.specs.declared.seat.Stage.{Stage}
use Rattle.device_steps.specs.declared.seat.Stage.TheVariants as stage

abbrev pub stage_of : Hand → Stage
stage_of Hand.Empty = stage.Empty
stage_of (Hand.Taken x) = stage.Taken
stage_of (Hand.Done x o) = stage.Done
stage_of (Hand.Answered unit_index t) = stage.Answered
