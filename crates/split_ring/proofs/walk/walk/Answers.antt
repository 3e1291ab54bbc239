use Rattle.std.proofs.Common.{[], arith}
use Rattle.ring_core.specs.Walk.{nothing_before}
use Rattle.ring_core.specs.Inner.Walking.{Walks}
use Rattle.ring_core.specs.Split.{split_table}
use Rattle.ring_core.proofs.Walking.{ring_fails, lacks_first}
use Rattle.ring_core.specs.declared.fault.RingFault.TheVariants.{NoMemory}
use Rattle.split_ring.specs.Inner.Answers.{queue_path}
use Rattle.split_ring.proofs.Chains.{as_split, alone, table_lies, fails, ended}
use Rattle.split_ring.proofs.walk.walk.Goals as goal

pub returns-in-Err-clause-walked : goal.returns-in-Err-clause-walked
returns-in-Err-clause-walked g c = λ m s.
    let f = c.in-Err.ensures.walked m s in
    as_split c.args.features m c.args.layout.now c.args.head c.in-Err.fault
    (ring_fails (queue_path c.args.features m c.args.layout.now c.args.head) (split_table m) c.in-Err.fault (rw (c.of_queue-table.ensures, c.nothing.ensures) at f))

pub returns-then-not-is_indirect-clause-walked : goal.returns-then-not-is_indirect-clause-walked
returns-then-not-is_indirect-clause-walked g c = λ m s₁.
    let w : Walks (queue_path c.args.features m c.args.layout.now c.args.head) c.args.layout.now.size nothing_before [] c.in-Ok.run' =
    rw (c.of_queue-table.ensures, c.nothing.ensures, c.requires.empty) at (c.in-Ok.ensures.walked m s₁) in
    alone c.args.features m c.args.layout.now c.args.head c.in-Ok.run' w (rw c.is_indirect.ensures at c.if-not-is_indirect.true) c.into_parts.result c.into_parts.ensures

pub try_descriptor_at-requires-clause-inside : goal.try_descriptor_at-requires-clause-inside
try_descriptor_at-requires-clause-inside g c =
    let m = c.size-bytes.ensures.some.0 in
    let s₁ = c.size-bytes.ensures.some.1 in
    let sized = g.met.M.Memory.sized c.walk_run.new.memory m s₁ in
    let w : Walks (queue_path c.args.features m c.args.layout.now c.args.head) c.args.layout.now.size nothing_before [] c.in-Ok.run' =
    rw (c.of_queue-table.ensures, c.nothing.ensures, c.requires.empty) at (c.in-Ok.ensures.walked m s₁) in
    let lies = table_lies c.args.features m c.args.layout.now c.args.head c.in-Ok.run' w (rw c.is_indirect.ensures at c.if-not-is_indirect.false) in
    rw c.named_by-named.ensures (omega (arith, lies.0, lies.1, sized))

pub returns-in_default-clause-walked : goal.returns-in_default-clause-walked
returns-in_default-clause-walked g c = λ m s.
    let s₁ = c.try_descriptor_at.ensures.stays m s in
    let w : Walks (queue_path c.args.features m c.args.layout.now c.args.head) c.args.layout.now.size nothing_before [] c.in-Ok.run' =
    rw (c.of_queue-table.ensures, c.nothing.ensures, c.requires.empty) at (c.in-Ok.ensures.walked m s₁) in
    as_split c.args.features m c.args.layout.now c.args.head NoMemory (lacks_first (queue_path c.args.features m c.args.layout.now c.args.head) (split_table m) w.direct c.in-Ok.run'.last w.run)

pub walk_run-requires-2-clause-inside : goal.walk_run-requires-2-clause-inside
walk_run-requires-2-clause-inside g c =
    let m = c.size-bytes.ensures.some.0 in
    let s₁ = c.size-bytes.ensures.some.1 in
    let sized = g.met.M.Memory.sized c.walk_run.new.memory m s₁ in
    let w : Walks (queue_path c.args.features m c.args.layout.now c.args.head) c.args.layout.now.size nothing_before [] c.in-Ok.run' =
    rw (c.of_queue-table.ensures, c.nothing.ensures, c.requires.empty) at (c.in-Ok.ensures.walked m s₁) in
    rw (c.named_by-named.ensures, c.try_descriptor_at.ensures.size, ← sized) (table_lies c.args.features m c.args.layout.now c.args.head c.in-Ok.run' w (rw c.is_indirect.ensures at c.if-not-is_indirect.false)).0

pub walk_run-requires-2-clause-head : goal.walk_run-requires-2-clause-head
walk_run-requires-2-clause-head g c =
    let m = c.size-bytes.ensures.some.0 in
    let s₁ = c.size-bytes.ensures.some.1 in
    let w : Walks (queue_path c.args.features m c.args.layout.now c.args.head) c.args.layout.now.size nothing_before [] c.in-Ok.run' =
    rw (c.of_queue-table.ensures, c.nothing.ensures, c.requires.empty) at (c.in-Ok.ensures.walked m s₁) in
    rw c.named_by-named.ensures (table_lies c.args.features m c.args.layout.now c.args.head c.in-Ok.run' w (rw c.is_indirect.ensures at c.if-not-is_indirect.false)).1

pub returns-in-Err-walk_run-clause-walked : goal.returns-in-Err-walk_run-clause-walked
returns-in-Err-walk_run-clause-walked g c = λ m s.
    let s₁ = c.try_descriptor_at.ensures.stays m (c.walk_run-2.ensures.stays m s) in
    let w : Walks (queue_path c.args.features m c.args.layout.now c.args.head) c.args.layout.now.size nothing_before [] c.in-Ok.run' =
    rw (c.of_queue-table.ensures, c.nothing.ensures, c.requires.empty) at (c.in-Ok.ensures.walked m s₁) in
    let f = c.in-Err-walk_run.ensures.walked m s in
    fails c.args.features m c.args.layout.now c.args.head c.in-Ok.run' w (rw c.is_indirect.ensures at c.if-not-is_indirect.false) c.in-Err-walk_run.fault (rw c.named_by-named.ensures at f)

pub returns-in-Ok-walk_run-clause-walked : goal.returns-in-Ok-walk_run-clause-walked
returns-in-Ok-walk_run-clause-walked g c = λ m s.
    let s₁ = c.try_descriptor_at.ensures.stays m (c.walk_run-2.ensures.stays m s) in
    let w : Walks (queue_path c.args.features m c.args.layout.now c.args.head) c.args.layout.now.size nothing_before [] c.in-Ok.run' =
    rw (c.of_queue-table.ensures, c.nothing.ensures, c.requires.empty) at (c.in-Ok.ensures.walked m s₁) in
    let f = c.in-Ok-walk_run.ensures.walked m s in
    ended c.args.features m c.args.layout.now c.args.head c.in-Ok.run' w (rw c.is_indirect.ensures at c.if-not-is_indirect.false) c.in-Ok-walk_run.further (rw c.named_by-named.ensures at f)
    c.into_parts-in-Ok-walk_run.result c.into_parts-in-Ok-walk_run.ensures
