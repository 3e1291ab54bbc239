use Rattle.unit_model.proofs.Owing.{enter_owed, commit_owed, busy_owed, leave_owed, full_owed, resize_owed, abort_owed, reset_owed}
use Rattle.unit_model.proofs.laws.owing.each_step_is_owed.Goals as goal

pub returns-clause-enter : goal.returns-clause-enter
returns-clause-enter c = enter_owed

pub returns-clause-commit : goal.returns-clause-commit
returns-clause-commit c = commit_owed

pub returns-clause-busy : goal.returns-clause-busy
returns-clause-busy c = busy_owed

pub returns-clause-leave : goal.returns-clause-leave
returns-clause-leave c = leave_owed

pub returns-clause-full : goal.returns-clause-full
returns-clause-full c = full_owed

pub returns-clause-abort : goal.returns-clause-abort
returns-clause-abort c = abort_owed

pub returns-clause-reset : goal.returns-clause-reset
returns-clause-reset c = reset_owed

pub returns-clause-resize : goal.returns-clause-resize
returns-clause-resize c = resize_owed
