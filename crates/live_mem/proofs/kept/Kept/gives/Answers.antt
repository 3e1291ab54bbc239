use Rattle.std.proofs.Common.{sym, rules, ◌-◌}
use Rattle.live_mem.proofs.Latest.{latest}
use Rattle.live_mem.proofs.kept.Kept.gives.Goals as goal

pub returns-clause-gives : goal.returns-clause-gives
returns-clause-gives c = λ is.
    let s = c.index-span.result.now in
    latest c.args.self.now.spans.items c.args.self.now.long.bytes c.args.addr (c.len-count.result - 1) s c.args.out.now c.put_over.new.out (search rules) (sym c.index-span.ensures) (search rules) (search rules) (search rules)
