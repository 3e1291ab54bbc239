-- Rests on `specs/Acts.antt`; no promise rests on it.
use Rattle.std.specs.Prelude.{Bool, false}
use Rattle.unit_attention.specs.Code.{same_code}
use Rattle.task_mgmt.specs.declared.kind.Kind.{Kind}
use Rattle.task_mgmt.specs.declared.kind.Kind.TheVariants.{Marking, Querying}
use Rattle.task_mgmt.specs.declared.kind.MarkBy.TheVariants as mark
use Rattle.device_model.specs.Event.Hard.{hard_code}

-- own: a function makes such resets. None of those that are offered does
abbrev pub is_hard_mark : Kind → Bool
is_hard_mark (Marking (mark.Reset c)) = same_code c hard_code
is_hard_mark (Marking (mark.Abort rule)) = false
is_hard_mark (Querying rule) = false
