use Rattle.std.proofs.Common.{◌≡◌, ◌≤◌, ◌∷◌, true, refl, sym, ap, ◌∙◌, arith, cond, nat_lt, min}
use Rattle.std.specs.Option.{option_map}
use Rattle.block_store.specs.Blocks.{zero_block}
use Rattle.block_store.specs.Storage.{Dealing, and_then}
use Rattle.block_store.specs.Inner.Hosted.{hosted_after}
use Rattle.backed_store.specs.Disks as disks
use Rattle.unit_model.specs.Contents.{is_capacity}
use Rattle.unit_model.specs.Steps.{Step}
use Rattle.task_set.specs.Inner.Tasks.{seen_of}
use Rattle.logical_unit.proofs.Basing.{based_way}
use Rattle.logical_unit.proofs.Keeping.{may_resize, keep_resize}
use Rattle.logical_unit.proofs.Handing.{parked_resize}
use Rattle.logical_unit.proofs.Stepping.{steps_is}
use Rattle.logical_unit.specs.Fields.{opening_of}
use Rattle.logical_unit.proofs.Noting.{recorded_resize}
use Rattle.logical_unit.proofs.Durable.{fenced_same, cut_fenced, ledger_then}
use Rattle.logical_unit.proofs.unit.UnitState.resize.Goals as goal

pub invariant_of-self-2 : goal.invariant_of-self-2
invariant_of-self-2 c =
    let u = c.self.inside in
    let is : is_capacity c.args.blocks ≡ true = sym c.is_capacity.ensures ∙ c.if-not-is_capacity.false in
    let ahead : 129 ≤ c.make_way.new.log.room = c.in-Ok.ensures.room in
    let left = c.push.ensures.room in
    let n = c.make_way.new.log.forgotten in
    record {
      kept =
          rw (c.push.ensures.steps, c.make_way.ensures.steps)
          (keep_resize c.self.invariant.kept c.args.blocks _ _ _ is
          (λ b. c.resize.ensures.blocks b ∙ ap (λ k. cond (nat_lt b (min k c.args.blocks)) (disks.blocks_of u.store b) zero_block) c.self.invariant.sized)
          c.raise.ensures (omega (arith, ahead, left)));
      based =
          based_way _ n _ (Step.Resize c.args.blocks) u.log.steps _ (seen_of u.tasks) _ refl
          (c.push.ensures.base ∙ c.in-Ok.ensures.base) c.push.ensures.forgotten
          (c.push.ensures.steps ∙ ap (λ w. Step.Resize c.args.blocks ∷ w) c.make_way.ensures.steps)
          (λ le b. b) (c.make_way.ensures.clear c.self.invariant.based.clear);
      sized = rw (c.push.ensures.steps) c.resize.ensures.size;
      noted =
          recorded_resize (opening_of u) c.args.blocks u.log.steps _ _ _ c.self.invariant.noted
          (rw (c.capacity.ensures, c.self.invariant.sized, c.len-place.ensures, c.make_way.ensures.steps) at c.note_growth.ensures.notes)
          (c.push.ensures.steps ∙ ap (λ w. Step.Resize c.args.blocks ∷ w) c.make_way.ensures.steps);
      flushing =
          fenced_same _ _ _ _ _
          (cut_fenced _ u.log.steps _ _ c.args.blocks (disks.hosted_of u.store)
          (c.push.ensures.steps ∙ ap (λ w. Step.Resize c.args.blocks ∷ w) c.make_way.ensures.steps) c.self.invariant.flushing)
          (c.resize.ensures.storage
          ∙ ap (λ n. option_map (hosted_after (Dealing.Cut (min n c.args.blocks))) (disks.hosted_of u.store)) c.self.invariant.sized);
    }

pub returns-clause-step : goal.returns-clause-step
returns-clause-step c =
    let is : is_capacity c.args.blocks ≡ true = sym c.is_capacity.ensures ∙ c.if-not-is_capacity.false in
    rw (← c.self.view_is)
    (steps_is _ (Step.Resize c.args.blocks) _ _ _ _ _ _ _ _ (may_resize c.self.invariant.kept c.args.blocks is)
    (c.push.ensures.steps ∙ ap (λ w. Step.Resize c.args.blocks ∷ w) c.make_way.ensures.steps)
    (parked_resize c.self.inside.log.steps c.self.inside.tasks c.args.blocks) (c.push.ensures.keeps ∙ c.make_way.ensures.keeps)
    (ledger_then _ c.resize.new.self c.self.inside.store c.resize.ensures.storage
    ∙ ap (λ n. option_map (and_then (Dealing.Cut (min n c.args.blocks))) (disks.storage_of c.self.inside.store)) c.self.invariant.sized))
