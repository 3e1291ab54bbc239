use Rattle.std.proofs.Common.{◌≡◌, ℕ, ◌+◌, ◌-◌, ◌*◌, ◌/◌, ◌%◌, ◌∙◌, ap, refl, arith, if◌then◌else◌}
use Rattle.block_store.specs.Blocks.{block_count, nth_block, is_within}
use Rattle.block_store.specs.Pages.{blocks_in}
use Rattle.block_store.specs.Kept.{kept_from, kept_at_ends}
use Rattle.block_store.specs.Inner.Kept.{row_blocks}
use Rattle.block_store.proofs.Placed.{from-ends, from-covered}
use Rattle.block_store.proofs.edges.Edges.prepare.Goals as goal

pub returns-clause-blocks : goal.returns-clause-blocks
returns-clause-blocks c =
    let edges = c.args.self in
    let bytes = c.args.bytes.now in
    let first = edges.first in
    let start = first / 8 in
    let end = (first + edges.count) / 8 in
    let copied = c.in_ok-row.row.items in
    let from = c.position_of-from.result in
    let ends : ((p : ℕ) → kept_from start copied p ≡ kept_at_ends start end edges.head.bytes.items edges.tail.bytes.items p) =
    from-ends start end (c.page_of.result - c.page_of-2.result) edges.head.bytes.items edges.tail.bytes.items copied
    (omega (arith, c.page_of.ensures, c.page_of-2.ensures, c.from.ensures)) (omega arith) c.in_ok-row.ensures in
    λ b.
    from-covered start copied c.set.new.row.items (λ j. nth_block bytes (j - first)) from first (block_count bytes) refl c.position_of-from.ensures
    (λ k.
    let offset : k - from ≡ 8 * start + k - first = omega (arith, c.position_of-from.ensures) in
    c.in_ok-set.ensures k ∙ ap (λ i. if is_within from (block_count bytes) k then nth_block bytes i else row_blocks copied k) offset) b
    ∙ ap (λ x. if is_within first (block_count bytes) b then nth_block bytes (b - first) else x)
    (ap (λ l. blocks_in l (b % 8)) (ends (b / 8)))
