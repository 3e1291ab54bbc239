use Rattle.unit_model.proofs.Failing.{commit_steps, replies_in_memory, loaded_ends, kept_ends, written_ends, cut_ends}
use Rattle.unit_model.proofs.laws.failing.a_unit_fails_as_its_host_said.Goals as goal

pub returns-clause-may : goal.returns-clause-may
returns-clause-may c = commit_steps

pub returns-clause-memory : goal.returns-clause-memory
returns-clause-memory c = replies_in_memory

pub returns-clause-loaded : goal.returns-clause-loaded
returns-clause-loaded c = loaded_ends

pub returns-clause-kept : goal.returns-clause-kept
returns-clause-kept c = kept_ends

pub returns-clause-written : goal.returns-clause-written
returns-clause-written c = written_ends

pub returns-clause-cut : goal.returns-clause-cut
returns-clause-cut c = cut_ends
