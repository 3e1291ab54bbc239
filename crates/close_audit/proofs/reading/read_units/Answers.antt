use Rattle.std.proofs.Common.{ap, ◌∙◌}
use Rattle.std.specs.Option.{option_map}
use Rattle.unit_model.specs.Base.{kept_steps}
use Rattle.unit_model.specs.Steps.{alive}
use Rattle.unit_model.specs.Unit.{PlainUnit}
use Rattle.close_audit.specs.Inner.Tallies.{read, read_folded, read_alive, tally_at}
use Rattle.close_audit.proofs.Folding.{unit_more}
use Rattle.close_audit.proofs.reading.read_units.Goals as goal

pub loop-index-preserved : goal.loop-index-preserved
loop-index-preserved c = λ t.
    unit_more t c.args.units.now c.loop-index.index c.index-units-index.result c.loop-index-test.true
    (tally_at c.args.tables.now.tables.items t) (tally_at c.loop-index.tables.tables.items t) (tally_at c.read_folded.new.tables.tables.items t) (tally_at c.read_unit.new.tables.tables.items t) _
    (c.loop-index.invariant t)
    (c.read_folded.ensures t
    ∙ ap (λ (u : PlainUnit). option_map (read_folded t c.loop-index.index u) (tally_at c.loop-index.tables.tables.items t)) c.index-units-index.is)
    (c.read_unit.ensures t
    ∙ ap (λ (u : PlainUnit). option_map (read t c.loop-index.index (kept_steps u.steps)) (tally_at c.read_folded.new.tables.tables.items t)) c.index-units-index.is)
    (c.read_alive.ensures t
    ∙ ap (λ (u : PlainUnit). option_map (read_alive t (alive u.steps)) (tally_at c.read_unit.new.tables.tables.items t)) c.index-units-index.is)
