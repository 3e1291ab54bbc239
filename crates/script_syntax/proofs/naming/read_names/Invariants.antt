use Rattle.std.specs.Prelude.{length, ⊤}
use Rattle.script_syntax.proofs.naming.read_names.Given as goal

abbrev pub invariant-loop-rest : goal.invariant-loop-rest
invariant-loop-rest l = ⊤

-- each turn takes a word and its value
abbrev pub decreases-loop-rest : goal.decreases-loop-rest
decreases-loop-rest l = length l.rest
