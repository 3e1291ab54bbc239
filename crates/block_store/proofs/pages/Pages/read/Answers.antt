use Rattle.std.proofs.Common.{◌≡◌, ◌+◌, ◌*◌, ◌/◌, ◌%◌, ◌≤◌, ◌++◌, length, vec_len, vec_capacity, sym, ap, ◌∙◌, append_assoc, arith}
use Rattle.std.proofs.lemmas.Grind.{common_steps}
use Rattle.block_store.specs.Blocks.{run}
use Rattle.block_store.specs.Kept.{kept, blocks_of, tree_row}
use Rattle.block_store.specs.Inner.Padding.{length-blocks_in}
use Rattle.block_store.proofs.Rows.{run-row}
use Rattle.block_store.proofs.Runs.{run-add, length-run}
use Rattle.block_store.proofs.pages.Pages.read.Goals as goal

pub returns-then-in_page-count-clause-bytes : goal.returns-then-in_page-count-clause-bytes
returns-then-in_page-count-clause-bytes c =
    let size : length c.part.result.now ≡ 512 * c.args.count =
    ap length c.part.ensures ∙ length-run (blocks_of c.args.self.now) c.args.first c.args.count (λ b reaches short. length-blocks_in (kept c.args.self.now (b / 8)) (b % 8)) in
    let fits : vec_len c.args.into.now + length c.part.result.now ≤ vec_capacity c.args.into.now = omega arith in
    let grown : c.extend_from_slice.new.self.items ≡ c.args.into.now.items ++ c.part.result.now = grind (arith, common_steps) in
    grown ∙ ap (λ l. c.args.into.now.items ++ l) c.part.ensures

pub returns-then-in_page-count-clause-len : goal.returns-then-in_page-count-clause-len
returns-then-in_page-count-clause-len c =
    let size : length c.part.result.now ≡ 512 * c.args.count =
    ap length c.part.ensures ∙ length-run (blocks_of c.args.self.now) c.args.first c.args.count (λ b reaches short. length-blocks_in (kept c.args.self.now (b / 8)) (b % 8)) in
    let fits : vec_len c.args.into.now + length c.part.result.now ≤ vec_capacity c.args.into.now = omega arith in
    let len : vec_len c.extend_from_slice.new.self ≡ vec_len c.args.into.now + length c.part.result.now = grind (arith, common_steps) in
    omega arith

pub loop-done-preserved : goal.loop-done-preserved
loop-done-preserved c =
    let pages = c.args.self.now in
    let first = c.args.first in
    let done = c.loop-done.done in
    let some = c.in_row-some.result in
    record {
      within = omega arith;
      bytes =
          c.read.ensures.bytes
          ∙ ap (λ l. c.loop-done.into.items ++ l) (run-row (tree_row pages.held) c.row.result.now c.row_of.result c.in_row_of.result (first + done) some
          c.row.ensures c.row_of.ensures c.in_row_of.ensures c.in_row-some.ensures.fits)
          ∙ ap (λ l. l ++ run (blocks_of pages) (first + done) some) c.loop-done.invariant.bytes
          ∙ append_assoc c.args.into.now.items (run (blocks_of pages) first done) (run (blocks_of pages) (first + done) some)
          ∙ ap (λ l. c.args.into.now.items ++ l) (sym (run-add (blocks_of pages) first done some));
      len = omega arith;
      room = omega arith;
    }
