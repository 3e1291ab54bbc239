use Rattle.device_model.proofs.Noticing.{is_counted, none_is_counted, as_it_left}
use Rattle.device_model.proofs.laws.a_completion_counts_its_notice.Goals as goal

pub returns-clause-counted : goal.returns-clause-counted
returns-clause-counted c = λ w d t xs h e so. is_counted d w t xs h e so

pub returns-clause-none : goal.returns-clause-none
returns-clause-none c = λ w d h e. none_is_counted d w h e

pub returns-clause-own : goal.returns-clause-own
returns-clause-own c = λ w d xs own h so. as_it_left d w xs own h so
