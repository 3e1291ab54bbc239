use Rattle.std.proofs.Common.{rules}
use Rattle.live_mem.proofs.Over.{over}
use Rattle.live_mem.proofs.kept.put_over.Goals as goal

pub returns-clause-over : goal.returns-clause-over
returns-clause-over c = λ i lt.
    over c.args.span.now c.args.bytes.now c.args.out.now c.put_at.new.out c.part.result.now c.args.addr c.saturating_sub-skip.result c.saturating_sub-at.result c.min-len.result i
    (search rules) (search rules) (search rules) (search rules) (search rules) (rw c.source_of.ensures at c.part.ensures.bytes) c.part.ensures.len c.put_at.ensures.bytes lt
