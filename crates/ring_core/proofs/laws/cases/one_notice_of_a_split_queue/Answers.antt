use Rattle.ring_core.proofs.Cases.{notice_once}
use Rattle.ring_core.proofs.laws.cases.one_notice_of_a_split_queue.Goals as goal

pub returns : goal.returns
returns c = notice_once
