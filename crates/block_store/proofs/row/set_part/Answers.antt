use Rattle.std.proofs.Common.{◌≡◌, ◌-◌, ◌/◌, ◌%◌, ◌<◌, ◌∙◌, length, ap, arith, if◌then◌else◌}
use Rattle.block_store.specs.Blocks.{block_count, nth_block, is_within}
use Rattle.block_store.specs.Pages.{blocks_in}
use Rattle.block_store.proofs.Changes.{part-whole}
use Rattle.block_store.proofs.row.set_part.Goals as goal

pub returns : goal.returns
returns c =
    let bytes = c.args.bytes.now in
    let first = c.args.first in
    let page = c.page_of-page.result in
    let size : length bytes ≡ 4096 = omega arith in
    let eight : block_count bytes ≡ 8 = omega arith in
    let there : page < length c.reach.new.row.items = omega (arith, c.in_ok-reach.ensures.reached) in
    λ b.
    rw eight
    (part-whole c.reach.new.row.items page first c.in_ok-row.field-0 bytes c.page_of-page.ensures (omega arith) there c.in_ok-row.ensures size b
    ∙ ap (λ l. if is_within first 8 b then nth_block bytes (b - first) else blocks_in l (b % 8)) (c.in_ok-reach.ensures.pages (b / 8)))
