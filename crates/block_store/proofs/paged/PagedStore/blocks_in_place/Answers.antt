use Rattle.std.proofs.Common.{◌/◌, ◌%◌, ◌∙◌, ap, length}
use Rattle.block_store.specs.Kept.{kept, blocks_of}
use Rattle.block_store.specs.Inner.Padding.{length-blocks_in}
use Rattle.block_store.proofs.Runs.{length-run}
use Rattle.block_store.proofs.paged.PagedStore.blocks_in_place.Goals as goal

pub returns-clause-len : goal.returns-clause-len
returns-clause-len c =
    let pages = c.args.self.now.pages in
    ap length c.part.ensures ∙ length-run (blocks_of pages) c.args.first c.args.count (λ b reaches short. length-blocks_in (kept pages (b / 8)) (b % 8))
