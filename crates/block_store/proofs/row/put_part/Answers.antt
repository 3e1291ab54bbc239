use Rattle.std.proofs.Common.{◌≡◌, ℕ, ◌+◌, ◌-◌, ◌*◌, ◌<◌, ◌≤◌, ap, ◌∙◌, arith, if◌then◌else◌}
use Rattle.block_store.specs.Blocks.{block_count, nth_block, is_within}
use Rattle.block_store.specs.Inner.Whole.{length-nth_block}
use Rattle.block_store.proofs.Changes.{part-written, made-same, made-below}
use Rattle.block_store.specs.Inner.Kept.{is_made_in}
use Rattle.block_store.proofs.row.put_part.Goals as goal

pub returns-clause-blocks : goal.returns-clause-blocks
returns-clause-blocks c =
    let row = c.args.row.now.items in
    let bytes = c.args.bytes.now in
    let old = c.index_mut.result.now in
    let page = c.page_of.result in
    let from = c.position_of.result in
    let first = c.args.first in
    let there = made-below row page (ap (λ p. is_made_in row p) c.page_of.ensures ∙ c.requires.made) in
    let whole = λ (k : ℕ) (reaches : from ≤ k) (short : k < from + block_count bytes).
    length-nth_block bytes (8 * page + k - first) (omega (arith, c.page_of.ensures, c.position_of.ensures)) in
    let written = λ (k : ℕ).
    let offset : k - from ≡ 8 * page + k - first = omega (arith, c.page_of.ensures, c.position_of.ensures) in
    c.put.ensures.blocks k ∙ ap (λ i. if is_within from (block_count bytes) k then nth_block bytes i else nth_block old.bytes.items k) offset in
    part-written row page from first (block_count bytes) old c.put.new.self (λ b. nth_block bytes (b - first))
    c.page_of.ensures c.position_of.ensures c.requires.range there c.index_mut.ensures.value whole written

pub returns-clause-made : goal.returns-clause-made
returns-clause-made c =
    let row = c.args.row.now.items in
    let page = c.page_of.result in
    made-same row page c.index_mut.result.now c.put.new.self
    (made-below row page (ap (λ p. is_made_in row p) c.page_of.ensures ∙ c.requires.made)) c.index_mut.ensures.value c.put.ensures.len
