use Rattle.std.proofs.Common.{◌≡◌, ◌+◌, ◌*◌, ◌/◌, ◌%◌, ◌≤◌, ◌++◌, length, vec_len, vec_capacity, sym, ap, ◌∙◌, append_assoc, arith}
use Rattle.std.proofs.lemmas.Grind.{common_steps}
use Rattle.block_store.specs.Blocks.{run}
use Rattle.block_store.specs.Kept.{row_kept}
use Rattle.block_store.specs.Inner.Kept.{row_blocks}
use Rattle.block_store.specs.Inner.Padding.{length-blocks_in}
use Rattle.block_store.proofs.Runs.{run-add, length-run}
use Rattle.block_store.proofs.row.read.Goals as goal

pub loop-done-preserved : goal.loop-done-preserved
loop-done-preserved c =
    let row = c.args.row.now in
    let first = c.args.first in
    let done = c.loop-done.done in
    let some = c.in_page-some.result in
    let size : length c.part.result.now ≡ 512 * some =
    ap length c.part.ensures ∙ length-run (row_blocks row) (first + done) some (λ b reaches short. length-blocks_in (row_kept row (b / 8)) (b % 8)) in
    let bound : some + done ≤ c.args.count = omega arith in
    let fits : vec_len c.loop-done.into + length c.part.result.now ≤ vec_capacity c.loop-done.into = omega arith in
    let grown : c.extend_from_slice.new.self.items ≡ c.loop-done.into.items ++ c.part.result.now = grind (arith, common_steps) in
    let length_after : vec_len c.extend_from_slice.new.self ≡ vec_len c.loop-done.into + length c.part.result.now = grind (arith, common_steps) in
    record {
      within = omega arith;
      bytes =
          grown ∙ ap (λ l. l ++ c.part.result.now) c.loop-done.invariant.bytes ∙ ap (λ l. (c.args.into.now.items ++ run (row_blocks row) first done) ++ l) c.part.ensures
          ∙ append_assoc c.args.into.now.items (run (row_blocks row) first done) (run (row_blocks row) (first + done) some)
          ∙ ap (λ l. c.args.into.now.items ++ l) (sym (run-add (row_blocks row) first done some));
      len = omega arith;
      room = omega arith;
    }
