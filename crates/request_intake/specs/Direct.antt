-- What is told without a unit, and its bytes.
use Rattle.std.specs.Prelude.{ℕ, List, []}
use Rattle.command_model.specs.Absent.{absent_reply}
use Rattle.command_model.specs.PlainReply.{refusal}
use Rattle.scsi_codec.specs.ControlQueue.{function_bytes, notification_bytes}
use Rattle.request_intake.specs.Answers.{failed, answer_of_reply, status_reply}
use Rattle.request_intake.specs.declared.answer.ChainLengths.{ChainLengths}
use Rattle.request_intake.specs.declared.direct.Told.{Told}
use Rattle.request_intake.specs.declared.direct.Told.TheVariants as told

-- the bytes over a chain of these lengths
abbrev pub told_bytes : ChainLengths → Told → List ℕ
told_bytes n told.Nothing = []
told_bytes n (told.Failed code) = failed code
told_bytes n (told.Status status) = answer_of_reply n (status_reply status)
told_bytes n (told.Refused sense) = answer_of_reply n (refusal sense)
told_bytes n (told.Absent command) = answer_of_reply n (absent_reply command)
told_bytes n (told.Function response) = function_bytes response
told_bytes n (told.Notification response) = notification_bytes 0 response
