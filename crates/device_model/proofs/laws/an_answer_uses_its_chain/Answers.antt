use Rattle.device_model.proofs.Using.{is_used, none_is_used}
use Rattle.device_model.proofs.laws.an_answer_uses_its_chain.Goals as goal

pub returns-clause-answered : goal.returns-clause-answered
returns-clause-answered c = λ w d t h e. is_used d w t h e

pub returns-clause-none : goal.returns-clause-none
returns-clause-none c = λ w d h e. none_is_used d w h e
