use Rattle.std.proofs.Common.{◌≡◌, ◌-◌, ◌%◌, nat_lt, if◌then◌else◌, ap, ◌∙◌}
use Rattle.block_store.specs.Blocks.{zero_block}
use Rattle.block_store.specs.Kept.{blocks_of}
use Rattle.block_store.proofs.CutOff.{cut-blocks}
use Rattle.block_store.proofs.paged.PagedStore.resize.Goals as goal

pub returns-clause-blocks : goal.returns-clause-blocks
returns-clause-blocks c =
    let left = c.min-left.result in
    let tail : (8 - c.position_of.result) % 8 ≡ (8 - left % 8) % 8 = ap (λ i. (8 - i) % 8) c.position_of.ensures in
    λ b. cut-blocks c.args.self.now.pages c.cut.new.self c.clear_part.new.self left c.page_from.result ((8 - c.position_of.result) % 8)
    c.page_from.ensures tail c.cut.ensures c.clear_part.ensures b
    ∙ ap (λ i. if nat_lt b i then blocks_of c.args.self.now.pages b else zero_block) c.min-left.ensures
