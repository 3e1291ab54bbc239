-- The exit statuses of the program.
use Rattle.std.specs.Prelude.{ℕ}
use Rattle.vscsi.specs.declared.ending.Ending.{Ending}
use Rattle.vscsi.specs.declared.ending.Ending.TheVariants.{Done, Fault, CannotWrite, Refused, NoText, NoMemory}

-- 0 done; 1 a fault of the script, or a standard output that fails; 2 words that are refused or ask for help; 3 no
-- memory
abbrev pub status_of : Ending → ℕ
status_of Done = 0
status_of (Fault fault) = 1
status_of CannotWrite = 1
status_of (Refused refusal) = 2
status_of NoText = 2
status_of NoMemory = 3
