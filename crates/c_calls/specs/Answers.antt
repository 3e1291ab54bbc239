-- The numbers of what a call answers.
use Rattle.std.specs.Prelude.{ℕ, ◌≡◌}
use Rattle.c_calls.specs.declared.answer.Answer.{Answer}
use Rattle.c_calls.specs.declared.answer.Answer.TheVariants as answer

abbrev pub code_of : Answer → ℕ
code_of answer.Done = 0
code_of answer.NoMemory = 1
code_of answer.BadConfig = 2
code_of answer.NoDevice = 3
code_of answer.InUse = 4
code_of answer.Outside = 5
code_of answer.NoQueue = 6
code_of answer.NoUnit = 7
code_of answer.BadLength = 8
code_of answer.BadCapacity = 10
code_of answer.NoDisk = 11

-- the number is that of an answer of which this holds
pub record Tells (code : ℕ) (P : Answer → Type 0) : Type 0 where
  pub answer : Answer
  pub is : code ≡ code_of answer
  pub so : P answer
