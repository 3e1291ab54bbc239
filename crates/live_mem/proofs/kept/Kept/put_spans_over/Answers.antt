use Rattle.std.proofs.Common.{[], ◌∙◌, ◌<◌, length, sym, arith, ◌+◌, get_or}
use Rattle.live_mem.specs.declared.span.Span.{Span}
use Rattle.live_mem.proofs.Spans.{valued_next}
use Rattle.live_mem.proofs.kept.Kept.put_spans_over.Goals as goal

abbrev none : Span
none = record { addr = 0; start = 0; len = 0; short = [] }

pub loop-span-preserved : goal.loop-span-preserved
loop-span-preserved c =
    record {
      len = c.put_over.ensures.len ∙ c.loop-span.invariant.len;
      over = λ i lt.
          let inside : i < length c.loop-span.out = omega (arith, lt, c.loop-span.invariant.len) in
          let o = c.put_over.ensures.over i inside in
          let b = c.loop-span.invariant.over i lt in
          (rw (c.as_slice.ensures, b) at o) ∙ sym (valued_next c.deref-span-items.result.now c.args.self.now.long.bytes (c.args.addr + i) (get_or c.args.out.now i 0) c.loop-span.span-index none c.loop-span-test.true);
    }
