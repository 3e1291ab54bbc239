use Rattle.std.proofs.Common.{◌≡◌, ◌+◌, ◌-◌, ◌*◌, if◌then◌else◌, refl, ap, ◌∙◌, arith}
use Rattle.block_store.specs.Blocks.{block_count, nth_block, is_within}
use Rattle.block_store.specs.Kept.{tree_row}
use Rattle.block_store.specs.Inner.Kept.{row_blocks}
use Rattle.block_store.proofs.Rows.{Changed, row-covered, row-same}
use Rattle.block_store.proofs.pages.Pages.try_put.Goals as goal

pub returns-clause-put : goal.returns-clause-put
returns-clause-put c = λ is_put.
    let rows = tree_row c.args.self.now.held in
    let put = tree_row c.try_put.new.self in
    let n = c.row_of.result in
    let from = c.in_row_of.result in
    let first = c.args.first in
    let bytes = c.args.bytes.now in
    let changed : Changed rows rows put n (rows n) (put n) = record {
      was = refl;
      others = λ m apart. refl;
      now = refl;
      others_now = λ m apart. c.try_put.ensures.others m refl apart;
    } in
    row-covered rows rows put n (rows n) (put n) changed from first (block_count bytes) (λ b. nth_block bytes (b - first))
    c.row_of.ensures c.in_row_of.ensures c.requires.range
    (λ k.
    let offset : k - from ≡ 512 * n + k - first = omega (arith, c.row_of.ensures, c.in_row_of.ensures) in
    c.try_put.ensures.put is_put k ∙ ap (λ i. if is_within from (block_count bytes) k then nth_block bytes i else row_blocks (rows n) k) offset)

pub returns-clause-same : goal.returns-clause-same
returns-clause-same c = λ is_not.
    let rows = tree_row c.args.self.now.held in
    let put = tree_row c.try_put.new.self in
    let n = c.row_of.result in
    let changed : Changed rows rows put n (rows n) (put n) = record {
      was = refl;
      others = λ m apart. refl;
      now = refl;
      others_now = λ m apart. c.try_put.ensures.others m refl apart;
    } in
    row-same rows rows put n (rows n) (put n) changed (λ b. ap (λ l. row_blocks l b) (c.try_put.ensures.same is_not))
