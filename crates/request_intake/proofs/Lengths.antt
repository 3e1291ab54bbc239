-- How many bytes an answer with sense has, in either format.
use Rattle.std.proofs.Common.{◌≡◌, ℕ, Option, None, Some, length, refl}
use Rattle.sense.specs.declared.Sense.{Sense}
use Rattle.sense.specs.declared.SenseFormat.{SenseFormat}
use Rattle.sense.specs.declared.SenseFormat.TheVariants.{Fixed, Descriptor}
use Rattle.command_model.specs.PlainReply.{refusal}
use Rattle.request_intake.specs.Answers.{answer_of_reply}
use Rattle.request_intake.specs.declared.answer.ChainLengths.{ChainLengths}

by_parts : (n : ChainLengths) (key asc ascq : ℕ) (f : SenseFormat) (information : Option ℕ) →
    length (answer_of_reply n (refusal (record { key = key; asc = asc; ascq = ascq; format = f; information = information }))) ≡ 108
by_parts n key asc ascq Fixed None = refl
by_parts n key asc ascq Fixed (Some i) = refl
by_parts n key asc ascq Descriptor None = refl
by_parts n key asc ascq Descriptor (Some i) = refl

-- 108, whatever the sense
pub length_refused : (n : ChainLengths) (s : Sense) → length (answer_of_reply n (refusal s)) ≡ 108
length_refused n s = by_parts n s.key s.asc s.ascq s.format s.information
