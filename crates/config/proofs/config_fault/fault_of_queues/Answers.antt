use Rattle.std.proofs.Common.{sym, rules}
use Rattle.config.specs.Config.{is_queue}
use Rattle.config.proofs.Faults.{fails, within, all, of_queue}
use Rattle.config.proofs.config_fault.fault_of_queues.Goals as goal

pub fault_of_queue-requires : goal.fault_of_queue-requires
fault_of_queue-requires c = fails (is_queue c.args.form c.args.memory) c.args.queues.now c.in-Some.queue_index _ (sym c.in-Some.ensures)

pub returns-in-Some-clause-cause : goal.returns-in-Some-clause-cause
returns-in-Some-clause-cause c =
    let e = sym c.in-Some.ensures in
    of_queue c.args.form c.args.memory c.args.queues.now c.in-Some.queue_index _ c.fault_of_queue.result (search rules) e (within (is_queue c.args.form c.args.memory) c.args.queues.now c.in-Some.queue_index _ e) c.fault_of_queue.ensures

pub returns-in-None-clause-none : goal.returns-in-None-clause-none
returns-in-None-clause-none c = rw (all (is_queue c.args.form c.args.memory) c.args.queues.now (sym c.in-None.ensures)) (search rules)
