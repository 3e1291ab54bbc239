-- Rests on `specs/Functions.antt`; no promise rests on it.
use Rattle.std.specs.Prelude.{⊤}
use Rattle.unit_attention.specs.Code.{IsKnown}
use Rattle.task_mgmt.specs.declared.kind.MarkBy.{MarkBy}
use Rattle.task_mgmt.specs.declared.kind.MarkBy.TheVariants.{Abort, Reset}
use Rattle.task_mgmt.specs.declared.kind.Kind.{Kind}
use Rattle.task_mgmt.specs.declared.kind.Kind.TheVariants.{Marking, Querying}

-- own: a reset raises a code that is known
abbrev pub IsKnownMark : MarkBy → Type 0
IsKnownMark (Abort rule) = ⊤
IsKnownMark (Reset c) = IsKnown c

abbrev pub IsKnownKind : Kind → Type 0
IsKnownKind (Marking mark) = IsKnownMark mark
IsKnownKind (Querying rule) = ⊤
