use Rattle.std.proofs.Common.{◌∙◌, arith}
use Rattle.block_store.specs.Inner.Kept.{has_slot}
use Rattle.block_store.proofs.Made.{within-further}
use Rattle.block_store.proofs.pages.Pages.place_all.Goals as goal

pub loop-done-preserved : goal.loop-done-preserved
loop-done-preserved c =
    let ensured = c.in_ok-place_part.ensures in
    record {
      within = omega arith;
      placed = within-further (has_slot c.loop-done.self) (has_slot c.place_part.new.self) c.args.start c.loop-done.done c.of_row-some.result
          c.loop-done.invariant.placed ensured.others ensured.placed;
      kept = λ p. ensured.kept p ∙ c.loop-done.invariant.kept p;
    }
