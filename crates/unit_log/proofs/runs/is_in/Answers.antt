use Rattle.std.proofs.Common.{rules, ◌≡◌, ◌-◌, true, false, nat_le, arith}
use Rattle.std.specs.List.Sorted.{IsPartitionPoint}
use Rattle.std.proofs.lemmas.List.Sorted.{IsPartitionPoint-from_clause}
use Rattle.unit_log.specs.declared.runs.Run.{Run}
use Rattle.unit_log.proofs.Rising.{partitioned, in_first, in_one, stride_at}
use Rattle.unit_log.proofs.runs.is_in.Goals as goal

unlike : false ≡ true → ⊥
unlike e = cc

pub returns-then-behind-eq0 : goal.returns-then-behind-eq0
returns-then-behind-eq0 c =
    let first : Run = record { place = 0; number = 0; by_place = 0; by_number = 0; more = 0 } in
    let point : IsPartitionPoint (λ (r : Run). nat_le r.place c.args.place ≡ true) (λ (r : Run). nat_le r.place c.args.place ≡ false) c.args.runs.now c.partition_point-behind.result =
    IsPartitionPoint-from_clause (λ (r : Run). nat_le r.place c.args.place) c.args.runs.now c.partition_point-behind.result c.partition_point-behind.ensures.partitioned
    (partitioned c.args.place c.args.runs.now c.requires) (search rules) in (
      λ no_way. absurd (unlike no_way),
      λ found. absurd (in_first c.args.place c.args.number c.partition_point-behind.result c.args.runs.now first c.if-behind-eq0.true point found),
    )

pub is_on-requires : goal.is_on-requires
is_on-requires c =
    let within = c.partition_point-behind.ensures.bound in
    let some = c.if-behind-eq0.false in
    stride_at 0 c.args.runs.now (c.partition_point-behind.result - 1) _ c.requires (omega (arith, within, some))

pub returns : goal.returns
returns c =
    let first : Run = record { place = 0; number = 0; by_place = 0; by_number = 0; more = 0 } in
    let point : IsPartitionPoint (λ (r : Run). nat_le r.place c.args.place ≡ true) (λ (r : Run). nat_le r.place c.args.place ≡ false) c.args.runs.now c.partition_point-behind.result =
    IsPartitionPoint-from_clause (λ (r : Run). nat_le r.place c.args.place) c.args.runs.now c.partition_point-behind.result c.partition_point-behind.ensures.partitioned
    (partitioned c.args.place c.args.runs.now c.requires) (search rules) in
    let one = in_one c.args.place c.args.number c.partition_point-behind.result c.args.runs.now first c.requires c.if-behind-eq0.false c.partition_point-behind.ensures.bound point in (
      λ yes. one.0 (c.is_on.ensures.0 yes),
      λ found. c.is_on.ensures.1 (one.1 found),
    )
