use Rattle.std.proofs.Common.{◌≡◌, ap, sym, ◌∙◌, ◌++◌, ◌∷◌, []}
use Rattle.backed_store.specs.Disks as disks
use Rattle.block_store.specs.Pages.{blocks_in}
use Rattle.unit_model.specs.Unit.{PlainUnit}
use Rattle.logical_unit.specs.Fields.{content_of}
use Rattle.logical_unit.proofs.Opening.{content_blocks, opens_again}
use Rattle.logical_unit.proofs.Noting.{recorded_again}
use Rattle.logical_unit.proofs.unit.UnitState.hand_in.Goals as goal

pub invariant_of-self : goal.invariant_of-self
invariant_of-self c =
    let d = c.args.disk in
    let opened : c.and-self-inside.result.items ≡ d ∷ [] = c.and-self-inside.ensures ∙ ap (λ w. w ++ d ∷ []) c.new.ensures in
    let fresh : c.self.inside.log.steps ≡ [] = ap (λ (u : PlainUnit). u.steps) c.self.view_is ∙ c.requires.fresh in
    record {
      kept = opens_again _ _ _ _ _ _ _ _ _ _ _ fresh c.self.invariant.kept
          (λ b.
          c.cut_off.ensures.blocks b ∙ content_blocks (disks.blocks_of d) (disks.size_of d) b (disks.length-block d)
          ∙ ap (λ w. blocks_in (content_of w) b) (sym opened));
      based = c.self.invariant.based;
      sized = rw fresh (c.cut_off.ensures.size ∙ sym c.capacity-self-inside.ensures);
      noted = recorded_again _ _ _ _ fresh c.self.invariant.noted;
      flushing = tt;
    }
