use Rattle.std.proofs.Common.{◌≡◌, ◌++◌}
use Rattle.std.specs.List.{repeat}
use Rattle.script_syntax.proofs.values.Item.append_copies.Given as goal

abbrev pub invariant-loop : goal.invariant-loop
invariant-loop l = l.into.items ≡ l.initial.into.items ++ repeat l.counter l.self.bytes.items
