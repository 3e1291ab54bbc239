use Rattle.std.proofs.Common.{rules, ◌≡◌, ◌-◌, true, false, nat_le, arith}
use Rattle.std.specs.List.Sorted.{IsPartitionPoint}
use Rattle.std.proofs.lemmas.List.Sorted.{IsPartitionPoint-from_clause}
use Rattle.unit_log.specs.declared.runs.Run.{Run}
use Rattle.unit_log.proofs.Rising.{partitioned, in_first, found_in, stride_at, number_at_fits}
use Rattle.unit_log.proofs.runs.number_at.Goals as goal

pub returns-then-behind-eq0 : goal.returns-then-behind-eq0
returns-then-behind-eq0 c =
    let first : Run = record { place = 0; number = 0; by_place = 0; by_number = 0; more = 0 } in
    let point : IsPartitionPoint (λ (r : Run). nat_le r.place c.args.place ≡ true) (λ (r : Run). nat_le r.place c.args.place ≡ false) c.args.runs.now c.partition_point-behind.result =
    IsPartitionPoint-from_clause (λ (r : Run). nat_le r.place c.args.place) c.args.runs.now c.partition_point-behind.result c.partition_point-behind.ensures.partitioned
    (partitioned c.args.place c.args.runs.now c.requires.rising) (search rules) in
    λ n found. in_first c.args.place n c.partition_point-behind.result c.args.runs.now first c.if-behind-eq0.true point found

pub number_on-requires-clause-strides : goal.number_on-requires-clause-strides
number_on-requires-clause-strides c =
    let within = c.partition_point-behind.ensures.bound in
    let some = c.if-behind-eq0.false in
    stride_at 0 c.args.runs.now (c.partition_point-behind.result - 1) _ c.requires.rising (omega (arith, within, some))

pub number_on-requires-clause-numbered : goal.number_on-requires-clause-numbered
number_on-requires-clause-numbered c =
    let within = c.partition_point-behind.ensures.bound in
    let some = c.if-behind-eq0.false in
    number_at_fits c.args.runs.now (c.partition_point-behind.result - 1) _ c.requires.numbered (omega (arith, within, some))

pub returns : goal.returns
returns c =
    let first : Run = record { place = 0; number = 0; by_place = 0; by_number = 0; more = 0 } in
    let point : IsPartitionPoint (λ (r : Run). nat_le r.place c.args.place ≡ true) (λ (r : Run). nat_le r.place c.args.place ≡ false) c.args.runs.now c.partition_point-behind.result =
    IsPartitionPoint-from_clause (λ (r : Run). nat_le r.place c.args.place) c.args.runs.now c.partition_point-behind.result c.partition_point-behind.ensures.partitioned
    (partitioned c.args.place c.args.runs.now c.requires.rising) (search rules) in
    found_in c.args.place c.partition_point-behind.result c.args.runs.now first c.number_on.result c.requires.rising c.if-behind-eq0.false c.partition_point-behind.ensures.bound point
    c.number_on.ensures
