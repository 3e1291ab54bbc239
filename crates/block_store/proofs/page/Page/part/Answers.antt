use Rattle.std.proofs.Common.{sym, ◌∙◌, ap}
use Rattle.block_store.specs.Blocks.{nth_block, run}
use Rattle.block_store.proofs.Paging.{run-unmade, run-made}
use Rattle.block_store.proofs.page.Page.part.Goals as goal

pub returns-then-not-is_made : goal.returns-then-not-is_made
returns-then-not-is_made c =
    c.zeros.ensures ∙ sym (run-unmade c.args.self.now.bytes.items c.args.from c.args.count (sym c.is_made.ensures ∙ c.if-not-is_made.true))

pub returns : goal.returns
returns c =
    let bytes = c.args.self.now.bytes.items in
    c.blocks_at.ensures.bytes ∙ ap (λ l. run (nth_block l) c.args.from c.args.count) c.deref.ensures.value
    ∙ sym (run-made bytes c.args.from c.args.count (sym c.is_made.ensures ∙ c.if-not-is_made.false) c.args.self.now.whole c.requires)
