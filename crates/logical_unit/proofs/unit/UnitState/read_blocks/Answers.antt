use Rattle.std.proofs.Common.{◌+◌, ◌≤◌, ◌++◌, ap, sym, ◌∙◌, subst}
use Rattle.block_store.specs.Blocks.{run}
use Rattle.backed_store.specs.Disks as disks
use Rattle.block_commands.proofs.Ranges.{run-agree}
use Rattle.unit_model.specs.Contents.{blocks_of, capacity_of}
use Rattle.logical_unit.specs.Fields.{opening_of}
use Rattle.unit_model.specs.Unit.{PlainUnit}
use Rattle.logical_unit.proofs.unit.UnitState.read_blocks.Goals as goal

pub returns-clause-ok : goal.returns-clause-ok
returns-clause-ok c =
    let u = c.self.inside in
    let within : c.args.first + c.args.count ≤ capacity_of (opening_of u) u.log.steps =
    subst (λ (v : PlainUnit). c.args.first + c.args.count ≤ capacity_of v.opening v.steps) (sym c.self.view_is) c.requires in
    rw (← c.self.view_is)
    (c.read_blocks.ensures.bytes
    ∙ ap (λ w. w ++ run (disks.blocks_of u.store) c.args.first c.args.count) c.reserve.ensures.items
    ∙ ap (λ w. c.args.into.now.items ++ w) (run-agree (disks.blocks_of u.store) (blocks_of (opening_of u) u.log.steps) c.args.first c.args.count _ within (λ b below. c.self.invariant.kept.stored b)))
