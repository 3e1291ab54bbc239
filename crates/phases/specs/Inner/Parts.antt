-- Rests on `specs/Parts.antt`; no promise rests on it.
use Rattle.std.specs.Prelude.{Option, Some, None}
use Rattle.unit_model.specs.Jobs.{PlainJob}
use Rattle.device_model.specs.Parts.{Hand}

-- the job in the hand
abbrev pub job_held : Hand → Option PlainJob
job_held Hand.Empty = None
job_held (Hand.Taken x) = Some x
job_held (Hand.Done x o) = Some x
job_held (Hand.Answered unit_index t) = None
