use Rattle.unit_model.proofs.Parked.{parked_commit, parked_busy, parked_full, parked_resize}
use Rattle.unit_model.proofs.laws.handing.other_steps_hand_out_nothing.Goals as goal

pub returns-clause-commit : goal.returns-clause-commit
returns-clause-commit c = parked_commit

pub returns-clause-busy : goal.returns-clause-busy
returns-clause-busy c = parked_busy

pub returns-clause-full : goal.returns-clause-full
returns-clause-full c = parked_full

pub returns-clause-resize : goal.returns-clause-resize
returns-clause-resize c = parked_resize
