use Rattle.std.proofs.Common.{◌≡◌, ◌+◌, ◌-◌, ◌*◌, length, nat_lt, if◌then◌else◌, refl, ap, ◌∙◌, arith}
use Rattle.block_store.specs.Blocks.{block_count, nth_block, is_within}
use Rattle.block_store.specs.Kept.{tree_row}
use Rattle.block_store.specs.Inner.Kept.{row_blocks}
use Rattle.block_store.proofs.Rows.{Changed, row-covered, made-in-row, each-page}
use Rattle.block_store.proofs.pages.Pages.put_part.Goals as goal

pub put-requires-clause-made : goal.put-requires-clause-made
put-requires-clause-made c =
    made-in-row (tree_row c.args.self.now.held) c.take-row.result.items c.row_of-number.result c.in_row_of.result c.args.first (block_count c.args.bytes.now)
    c.take-row.ensures.taken c.row_of-number.ensures c.in_row_of.ensures c.requires.range c.requires.made

pub returns-clause-blocks : goal.returns-clause-blocks
returns-clause-blocks c =
    let rows = tree_row c.args.self.now.held in
    let taken = tree_row c.take-row.new.self in
    let put = tree_row c.put_row.new.self.held in
    let n = c.row_of-number.result in
    let from = c.in_row_of.result in
    let first = c.args.first in
    let row = c.take-row.result.items in
    let new = c.put.new.row.items in
    let bytes = c.args.bytes.now in
    let changed : Changed rows taken put n row new = record {
      was = c.take-row.ensures.taken;
      others = λ m apart. c.take-row.ensures.others m refl apart;
      now = c.put_row.ensures.here;
      others_now = c.put_row.ensures.others;
    } in
    row-covered rows taken put n row new changed from first (block_count bytes) (λ b. nth_block bytes (b - first))
    c.row_of-number.ensures c.in_row_of.ensures c.requires.range
    (λ k.
    let offset : k - from ≡ 512 * n + k - first = omega (arith, c.row_of-number.ensures, c.in_row_of.ensures) in
    c.put.ensures.blocks k ∙ ap (λ i. if is_within from (block_count bytes) k then nth_block bytes i else row_blocks row k) offset)

pub returns-clause-made : goal.returns-clause-made
returns-clause-made c =
    each-page (λ l m. nat_lt 0 (length m) ≡ nat_lt 0 (length l)) (λ l. refl)
    (tree_row c.args.self.now.held) (tree_row c.take-row.new.self) (tree_row c.put_row.new.self.held) c.row_of-number.result
    c.take-row.result.items c.put.new.row.items
    (record {
      was = c.take-row.ensures.taken;
      others = λ m apart. c.take-row.ensures.others m refl apart;
      now = c.put_row.ensures.here;
      others_now = c.put_row.ensures.others;
    })
    c.put.ensures.made
