use Rattle.std.proofs.Common.{◌≡◌, ◌+◌, true, false, ap, sym, ◌∙◌}
use Rattle.std.specs.Prelude.{◌||◌}
use Rattle.command_model.specs.Failing.{cuts, are_cut}
use Rattle.block_commands.proofs.Descriptors.{left, are_cut-more}
use Rattle.block_commands.proofs.failing.cuts_any.Goals as goal

pub returns-then-cuts : goal.returns-then-cuts
returns-then-cuts c =
    let e = c.extent_at-extent in
    let inside : cuts c.args.capacity e.result.lba e.result.count c.args.page ≡ true = sym c.cuts.ensures ∙ c.if-cuts.true in
    let more = are_cut-more c.args.count c.loop-i.i c.args.taken.now e.result.lba e.result.count c.loop-i-test.true e.ensures.lba e.ensures.count
    c.args.capacity c.args.page in
    sym (more ∙ ap (λ t. t || are_cut c.args.capacity (left c.args.count (c.loop-i.i + 1) c.args.taken.now) c.args.page) inside) ∙ c.loop-i.invariant

pub loop-i-preserved : goal.loop-i-preserved
loop-i-preserved c =
    let e = c.extent_at-extent in
    let outside : cuts c.args.capacity e.result.lba e.result.count c.args.page ≡ false = sym c.cuts.ensures ∙ c.if-cuts.false in
    let more = are_cut-more c.args.count c.loop-i.i c.args.taken.now e.result.lba e.result.count c.loop-i-test.true e.ensures.lba e.ensures.count
    c.args.capacity c.args.page in
    sym (more ∙ ap (λ t. t || are_cut c.args.capacity (left c.args.count (c.loop-i.i + 1) c.args.taken.now) c.args.page) outside) ∙ c.loop-i.invariant
