use Rattle.std.proofs.Common.{◌/◌, ◌%◌, ◌∙◌, refl}
use Rattle.std.specs.Cmp.{unsigned_Decides}
use Rattle.std.proofs.lemmas.Slice.Eq.{slice_eq-Decides}
use Rattle.block_store.specs.Pages.{paged}
use Rattle.block_store.specs.Kept.{kept, kept_from, blocks_of}
use Rattle.block_store.specs.Inner.Padding.{length-blocks_in}
use Rattle.block_store.proofs.Agreeing.{agree-by}
use Rattle.block_store.proofs.Placed.{run-from}
use Rattle.block_store.proofs.pages.Pages.is_same.Goals as goal

pub returns : goal.returns
returns c =
    let pages = c.args.self.now in
    let start = c.args.start in
    let row = c.args.row.now in
    agree-by (blocks_of pages) (paged (kept_from start row)) c.args.first c.args.count c.part.result.now c.part-2.result.now c.eq.result
    (λ b. length-blocks_in (kept pages (b / 8)) (b % 8)) (λ b. length-blocks_in (kept_from start row (b / 8)) (b % 8))
    c.part.ensures (c.part-2.ensures ∙ run-from start row _ c.args.first c.args.count c.requires.begun refl)
    (slice_eq-Decides unsigned_Decides c.part.result.now c.part-2.result.now c.eq.result c.eq.ensures)
