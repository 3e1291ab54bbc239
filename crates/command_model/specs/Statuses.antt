-- The status codes of SAM-5 §5.3.1.
use Rattle.std.specs.Prelude.{ℕ}

abbrev pub good : ℕ
good = 0x00

abbrev pub check_condition : ℕ
check_condition = 0x02

abbrev pub busy : ℕ
busy = 0x08

abbrev pub task_set_full : ℕ
task_set_full = 0x28
