-- Rests on `specs/Standing.antt`; no promise rests on it.
use Rattle.std.specs.Prelude.{◌≡◌, List, Option, Some, None, ⊤}
use Rattle.std.specs.List.{AllByRecursion}
use Rattle.task_mgmt.specs.declared.kind.Kind.{Kind}
use Rattle.task_mgmt.specs.declared.kind.Kind.TheVariants.{Marking, Querying}
use Rattle.task_mgmt.specs.declared.function.Mark.{Mark as MarkAt}
use Rattle.device_model.specs.World.{Opened}

-- a query's checks are of no step
abbrev pub AreLooks : Kind → List MarkAt → Type 0
AreLooks (Marking m) waits = ⊤
AreLooks (Querying rule) waits = AllByRecursion (λ (p : MarkAt). p.place ≡ 0) waits

abbrev pub LooksAreFree : Option Opened → Type 0
LooksAreFree None = ⊤
LooksAreFree (Some o) = AreLooks o.function.kind o.function.waits
