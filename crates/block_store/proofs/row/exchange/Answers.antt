use Rattle.std.proofs.Common.{rules}
use Rattle.block_store.proofs.Changes.{exchanged-next}
use Rattle.block_store.proofs.row.exchange.Goals as goal

pub loop-i-preserved : goal.loop-i-preserved
loop-i-preserved c =
    let row = c.args.row.now.items in
    let others = c.args.others.now.items in
    let so_far = c.loop-i.invariant in
    record {
      row = exchanged-next c.loop-i.row.items c.loop-i.others.items row others c.args.at c.args.from c.loop-i.i
          c.swap.new.x c.index_mut-in-loop-i.result.now (search rules) (search rules) c.index_mut-in-loop-i.ensures.value c.swap.ensures.x_after so_far.row so_far.others;
      others = exchanged-next c.loop-i.others.items c.loop-i.row.items others row c.args.from c.args.at c.loop-i.i
          c.swap.new.y c.index_mut.result.now (search rules) (search rules) c.index_mut.ensures.value c.swap.ensures.y_after so_far.others so_far.row;
      len = so_far.len;
      others_len = so_far.others_len;
    }
