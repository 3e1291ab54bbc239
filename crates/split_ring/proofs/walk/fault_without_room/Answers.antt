use Rattle.std.proofs.Common.{[], arith}
use Rattle.ring_core.specs.Walk.{nothing_before}
use Rattle.ring_core.specs.Split.{split_table}
use Rattle.ring_core.proofs.Walking.{ring_fails}
use Rattle.ring_core.specs.declared.fault.RingFault.TheVariants.{NoMemory}
use Rattle.split_ring.specs.declared.walk.Table.{Table}
use Rattle.split_ring.specs.Inner.Answers.{queue_path}
use Rattle.split_ring.proofs.Chains.{as_split}
use Rattle.split_ring.proofs.Path.{path_start, path_first, path_wrong}
use Rattle.split_ring.proofs.walk.fault_without_room.Goals as goal

pub returns-in-Ok-clause-fails : goal.returns-in-Ok-clause-fails
returns-in-Ok-clause-fails g c = λ m s.
    let table : Table = record { addr = c.args.layout.now.desc; entries = c.args.layout.now.size; features = c.args.features } in
    let sized = g.met.M.Memory.sized c.args.memory.now m (c.descriptor_at-first.ensures.stays m s) in
    let is = c.descriptor_at-first.ensures.descriptor m s in
    as_split c.args.features m c.args.layout.now c.args.head NoMemory (path_first m table c.args.head nothing_before [] 0 nothing_before c.descriptor_at-first.result []
    (path_start m table c.args.head nothing_before [] c.descriptor_at-first.result (rw c.of_queue-table.ensures at is) c.requires.head (omega arith))
    (rw (c.size-bytes.ensures.size, ← sized, c.nothing-before.ensures, c.of_queue-table.ensures) at c.in-Ok.ensures))

pub returns-in-Err-clause-fails : goal.returns-in-Err-clause-fails
returns-in-Err-clause-fails g c = λ m s.
    let table : Table = record { addr = c.args.layout.now.desc; entries = c.args.layout.now.size; features = c.args.features } in
    let sized = g.met.M.Memory.sized c.args.memory.now m (c.descriptor_at-first.ensures.stays m s) in
    let is = c.descriptor_at-first.ensures.descriptor m s in
    as_split c.args.features m c.args.layout.now c.args.head c.in-Err.fault (ring_fails (queue_path c.args.features m c.args.layout.now c.args.head) (split_table m) c.in-Err.fault
    (path_wrong m table c.args.head nothing_before [] 0 nothing_before c.descriptor_at-first.result []
    (path_start m table c.args.head nothing_before [] c.descriptor_at-first.result (rw c.of_queue-table.ensures at is) c.requires.head (omega arith)) c.in-Err.fault
    (rw (c.size-bytes.ensures.size, ← sized, c.nothing-before.ensures, c.of_queue-table.ensures) at c.in-Err.ensures)))
