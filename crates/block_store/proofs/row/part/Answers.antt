use Rattle.std.proofs.Common.{◌≡◌, ◌/◌, ◌%◌, [], refl, sym, ap, ◌∙◌, arith}
use Rattle.block_store.specs.Blocks.{run}
use Rattle.block_store.specs.Pages.{blocks_in}
use Rattle.block_store.specs.Kept.{row_kept}
use Rattle.block_store.proofs.Changes.{kept-at, kept-past}
use Rattle.block_store.proofs.Paging.{run-part, run-unmade}
use Rattle.block_store.proofs.row.part.Goals as goal

pub returns-then-page-row : goal.returns-then-page-row
returns-then-page-row c =
    let row = c.args.row.now in
    let here : row_kept row (c.args.first / 8) ≡ [] = kept-past row (c.args.first / 8) (omega arith) in
    c.zeros.ensures ∙ sym (run-unmade [] (c.args.first % 8) c.args.count refl)
    ∙ ap (λ l. run (blocks_in l) (c.args.first % 8) c.args.count) (sym here) ∙ run-part (row_kept row) c.args.first c.args.count c.requires

pub returns : goal.returns
returns c =
    let row = c.args.row.now in
    let page = c.index-row-page.result in
    let here : row_kept row (c.args.first / 8) ≡ page.bytes.items =
    ap (λ p. row_kept row p) (sym c.page_of-page.ensures) ∙ kept-at row c.page_of-page.result page (omega arith) c.index-row-page.is in
    c.part.ensures ∙ ap (λ r. run (blocks_in page.bytes.items) r c.args.count) c.position_of.ensures
    ∙ ap (λ l. run (blocks_in l) (c.args.first % 8) c.args.count) (sym here) ∙ run-part (row_kept row) c.args.first c.args.count c.requires
