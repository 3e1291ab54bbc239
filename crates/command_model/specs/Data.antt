-- The data that a command takes from the driver, and those that it gives.
use Rattle.std.specs.Prelude.{ℕ, List, [], take, Result, Ok}
use Rattle.sense.specs.declared.Sense.{Sense}
use Rattle.cdb.specs.Need.{need_of}
use Rattle.cdb.specs.declared.commands.Command.{Command}

-- the data that a command takes: so much of what the driver sent as it needs
abbrev pub data_of : Command → List ℕ → List ℕ
data_of command sent = take (need_of command).out sent

-- data to the driver, or the sense of a refusal
abbrev pub Answer : Type 0
Answer = Result (List ℕ) Sense

-- no data
abbrev pub done : Answer
done = Ok []
