-- How a script ends that can't go on.
use Rattle.std.specs.Prelude.{ℕ}
use Rattle.script_syntax.specs.declared.fault.Stop.{Stop}
use Rattle.script_syntax.specs.declared.fault.Stop.TheVariants as stop
use Rattle.script_syntax.specs.declared.fault.ScriptFault.{ScriptFault}
use Rattle.script_syntax.specs.declared.fault.ScriptFault.TheVariants as script

-- a fault of a line names its line, and want of memory and a writer that refuses name none
abbrev pub ending_at : ℕ → Stop → ScriptFault
ending_at line (stop.Fault fault) = script.Line line fault
ending_at line stop.NoMemory = script.NoMemory
ending_at line stop.CannotWrite = script.CannotWrite
