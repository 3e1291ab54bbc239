use Rattle.std.proofs.Common.{◌≡◌, ◌+◌, true, false, ap, sym, ◌∙◌}
use Rattle.std.specs.Prelude.{◌&&◌}
use Rattle.command_model.specs.Capacity.{is_in_range}
use Rattle.command_model.specs.UnmapList.{are_in_range}
use Rattle.block_commands.proofs.Descriptors.{left, are_in_range-more}
use Rattle.block_commands.proofs.unmap.are_in_range.Goals as goal

pub returns-then-not-is_in_range : goal.returns-then-not-is_in_range
returns-then-not-is_in_range c =
    let e = c.extent_at-extent in
    let outside : is_in_range c.args.capacity e.result.lba e.result.count ≡ false = sym c.is_in_range.ensures ∙ c.if-not-is_in_range.true in
    let more = are_in_range-more c.args.count c.loop-i.i c.args.taken.now e.result.lba e.result.count c.loop-i-test.true e.ensures.lba e.ensures.count c.args.capacity in
    sym (more ∙ ap (λ t. t && are_in_range c.args.capacity (left c.args.count (c.loop-i.i + 1) c.args.taken.now)) outside) ∙ c.loop-i.invariant

pub loop-i-preserved : goal.loop-i-preserved
loop-i-preserved c =
    let e = c.extent_at-extent in
    let inside : is_in_range c.args.capacity e.result.lba e.result.count ≡ true = sym c.is_in_range.ensures ∙ c.if-not-is_in_range.false in
    let more = are_in_range-more c.args.count c.loop-i.i c.args.taken.now e.result.lba e.result.count c.loop-i-test.true e.ensures.lba e.ensures.count c.args.capacity in
    sym (more ∙ ap (λ t. t && are_in_range c.args.capacity (left c.args.count (c.loop-i.i + 1) c.args.taken.now)) inside) ∙ c.loop-i.invariant
