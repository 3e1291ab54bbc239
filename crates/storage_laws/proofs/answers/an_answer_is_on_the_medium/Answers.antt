use Rattle.storage_laws.proofs.Answered.{is_through}
use Rattle.storage_laws.proofs.answers.an_answer_is_on_the_medium.Goals as goal

pub returns : goal.returns
returns c = is_through
