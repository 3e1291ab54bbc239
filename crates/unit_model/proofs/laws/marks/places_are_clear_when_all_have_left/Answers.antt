use Rattle.unit_model.proofs.Clearing.{clear_gone, gone_clear}
use Rattle.unit_model.proofs.laws.marks.places_are_clear_when_all_have_left.Goals as goal

pub returns : goal.returns
returns c = λ o place h l. (λ k. clear_gone place h k, λ k. gone_clear o place h l k)
