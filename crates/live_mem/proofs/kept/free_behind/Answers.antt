use Rattle.std.proofs.Common.{[], get_or, arith}
use Rattle.live_mem.specs.declared.span.Span.{Span}
use Rattle.live_mem.proofs.Spans.{before, behind}
use Rattle.live_mem.proofs.Keeping.{free_next}
use Rattle.live_mem.proofs.kept.free_behind.Goals as goal
use Rattle.live_mem.proofs.kept.free_behind.Goals.{then-span-end, else-span-end}

abbrev none : Span
none = record { addr = 0; start = 0; len = 0; short = [] }

pub loop-span-preserved : goal.loop-span-preserved
loop-span-preserved c =
    let k = c.loop-span.span-index in
    let s = get_or c.args.spans.now k none in
    elim c.if-span-end.branch [
      | then-span-end w ↦
          record {
            from = omega (arith, c.loop-span.invariant.from);
            to = omega (arith, c.loop-span.invariant.to);
            free = λ bytes. free_next c.args.spans.now bytes k c.loop-span.from c.loop-span.to c.if-span-end.from c.if-span-end.to none c.loop-span-test.true (c.loop-span.invariant.free bytes)
                (omega arith) (omega arith) (λ p l h. before s.addr s.len p (omega (arith, h)));
          }
      | else-span-end w ↦
          record {
            from = omega (arith, c.loop-span.invariant.from);
            to = omega (arith, c.loop-span.invariant.to);
            free = λ bytes. free_next c.args.spans.now bytes k c.loop-span.from c.loop-span.to c.if-span-end.from c.if-span-end.to none c.loop-span-test.true (c.loop-span.invariant.free bytes)
                (omega arith) (omega arith) (λ p l h. behind s.addr s.len p (omega (arith, l, h, c.loop-span.invariant.to)));
          }
    ]
