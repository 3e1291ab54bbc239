use Rattle.std.proofs.Common.{sym, ◌∙◌, arith}
use Rattle.block_store.specs.Blocks.{zero_block}
use Rattle.block_store.specs.Inner.Padding.{length-zero_block}
use Rattle.block_store.proofs.Paging.{blocks_in-covered, blocks_in-none, clear-unmade}
use Rattle.block_store.proofs.Within.{is_within-inside}
use Rattle.block_store.proofs.page.Page.clear.Goals as goal

pub returns-then-count-eq-PAGE_BLOCKS : goal.returns-then-count-eq-PAGE_BLOCKS
returns-then-count-eq-PAGE_BLOCKS c = λ k below.
    rw (c.new.ensures.items, is_within-inside c.args.from c.args.count k (omega arith) (omega arith)) (blocks_in-none k)

pub returns-then-is_made : goal.returns-then-is_made
returns-then-is_made c = λ k below.
    blocks_in-covered c.args.self.now.bytes.items c.wipe.new.self.bytes.items (λ _. zero_block) c.args.from c.args.count
    (λ k reaches short. length-zero_block) c.wipe.ensures.blocks k

pub returns-else-is_made : goal.returns-else-is_made
returns-else-is_made c = λ k below. clear-unmade c.args.self.now.bytes.items c.args.from c.args.count (sym c.is_made.ensures ∙ c.if-is_made.false) k
