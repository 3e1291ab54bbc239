use Rattle.std.proofs.Common.{ap, sym, ◌∙◌}
use Rattle.block_store.specs.Pages.{blocks_in}
use Rattle.block_store.proofs.Paging.{blocks_in-none}
use Rattle.logical_unit.specs.Fields.{content_of}
use Rattle.logical_unit.proofs.Opening.{kept_new, based_new}
use Rattle.logical_unit.proofs.Noting.{recorded_new}
use Rattle.logical_unit.proofs.unit.UnitState.new.Goals as goal

pub invariant_of-result-2 : goal.invariant_of-result-2
invariant_of-result-2 c =
    record {
      kept =
          kept_new _ _ _ _ _ _ _ c.new-4.ensures.steps c.new-3.ensures c.attentions_at_start.ensures
          (λ b. c.new.ensures.zeros b ∙ sym (ap (λ w. blocks_in (content_of w) b) c.new-2.ensures ∙ blocks_in-none b)) c.new-5.ensures;
      based = based_new _ _ _ _ c.new-4.ensures.steps c.new-3.ensures c.new-4.ensures.base c.new-4.ensures.forgotten;
      sized = rw (c.new-4.ensures.steps) c.new.ensures.capacity;
      noted = recorded_new _ _ _ c.new-4.ensures.steps c.since_place.ensures.since;
      flushing = tt;
    }
