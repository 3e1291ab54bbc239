use Rattle.std.proofs.Common.{◌≡◌, ◌%◌, ◌/◌, ◌∙◌, false, nat_lt, length, ap, rules}
use Rattle.block_store.specs.Pages.{blocks_in}
use Rattle.block_store.specs.Inner.Kept.{is_made_in}
use Rattle.block_store.proofs.Changes.{made-zeros}
use Rattle.block_store.proofs.row.make.Goals as goal

pub returns-clause-blocks : goal.returns-clause-blocks
returns-clause-blocks c =
    let row = c.reach.new.row.items in
    let page = c.page_of-page.result in
    let pages = c.in_ok-reach.ensures.pages in
    let unmade : is_made_in row page ≡ false =
    ap (λ l. nat_lt 0 (length l)) (pages page) ∙ search rules in
    λ b. made-zeros row page c.in_ok-row.field-0 (search rules) unmade c.in_ok-row.ensures b ∙ ap (λ l. blocks_in l (b % 8)) (pages (b / 8))
