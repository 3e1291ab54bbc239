-- What the parts of a command's run give.
use Rattle.std.specs.Prelude.{ℕ, ◌≡◌, Bool, List, Result, Ok, Err, IsTrue, IsErr, IsOkAnd}
use Rattle.sense.specs.declared.Sense.{Sense}
use Rattle.sense.specs.declared.SenseFormat.{SenseFormat}
use Rattle.foundation.specs.declared.NoMemory.{NoMemory}
use Rattle.cdb.specs.declared.commands.Command.{Command}
use Rattle.command_model.specs.Data.{Answer, done}
use Rattle.command_model.specs.PlainReply.{plain_of, success, refusal, sent_in}
use Rattle.command_model.specs.declared.reply.Reply.{Reply}
use Rattle.block_commands.specs.declared.failure.Failure.{Failure}
use Rattle.block_commands.specs.declared.failure.Failure.TheVariants.{Refused, WantOfMemory}

-- a part gives this answer, unless memory was refused; data is a list by `bytes`
abbrev pub Gives : {T : Type 0} → (T → List ℕ) → Answer → Result T Failure → Type 0
Gives bytes answer (Ok given) = answer ≡ Ok (bytes given)
Gives bytes answer (Err (Refused s)) = answer ≡ Err s
Gives bytes answer (Err WantOfMemory) = Unit {0}

-- a part that takes no memory does
abbrev pub Ends : Answer → Result (Unit {0}) Sense → Type 0
Ends answer (Ok given) = answer ≡ done
Ends answer (Err s) = answer ≡ Err s

-- the reply to a command whose run gave this, its sense in a format
abbrev pub Replies : {T : Type 0} → (T → List ℕ) → SenseFormat → Command → Result T Failure → Result Reply NoMemory → Type 0
Replies bytes format command (Ok given) reply = IsOkAnd reply (λ r. plain_of r ≡ success command (bytes given))
Replies bytes format command (Err (Refused s)) reply = IsOkAnd reply (λ r. plain_of r ≡ sent_in format (refusal s))
Replies bytes format command (Err WantOfMemory) reply = IsErr reply

-- memory is refused only where this holds
abbrev pub Wants : {T : Type 0} → Bool → Result T Failure → Type 0
Wants may (Ok given) = Unit {0}
Wants may (Err (Refused s)) = Unit {0}
Wants may (Err WantOfMemory) = IsTrue may
