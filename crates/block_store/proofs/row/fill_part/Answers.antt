use Rattle.std.proofs.Common.{ap, ◌∙◌}
use Rattle.block_store.proofs.Changes.{part-written, made-same, made-below}
use Rattle.block_store.specs.Inner.Kept.{is_made_in}
use Rattle.block_store.proofs.row.fill_part.Goals as goal

pub returns-clause-blocks : goal.returns-clause-blocks
returns-clause-blocks c =
    let row = c.args.row.now.items in
    let page = c.page_of.result in
    part-written row page c.position_of.result c.args.first c.args.count c.index_mut.result.now c.fill.new.self (λ _. c.args.block.now)
    c.page_of.ensures c.position_of.ensures c.requires.range
    (made-below row page (ap (λ p. is_made_in row p) c.page_of.ensures ∙ c.requires.made)) c.index_mut.ensures.value
    (λ k reaches short. c.told-block) c.fill.ensures.blocks

pub returns-clause-made : goal.returns-clause-made
returns-clause-made c =
    let row = c.args.row.now.items in
    let page = c.page_of.result in
    made-same row page c.index_mut.result.now c.fill.new.self
    (made-below row page (ap (λ p. is_made_in row p) c.page_of.ensures ∙ c.requires.made)) c.index_mut.ensures.value c.fill.ensures.len
