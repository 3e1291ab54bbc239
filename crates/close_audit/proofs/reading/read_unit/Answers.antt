use Rattle.std.proofs.Common.{ap, sym, ◌∙◌, ℕ, List, Option, arith}
use Rattle.std.specs.Option.{option_map}
use Rattle.unit_model.specs.Base.{base_of}
use Rattle.unit_model.specs.Steps.{Step}
use Rattle.close_audit.specs.declared.tally.TicketFact.{TicketFact}
use Rattle.close_audit.specs.Inner.Tallies.{read, tells, fact_of_one, tally_at}
use Rattle.close_audit.proofs.Slots.{map_same}
use Rattle.close_audit.proofs.Folding.{between, none_between, all_between, unit_step}
use Rattle.close_audit.proofs.reading.read_unit.Goals as goal

pub loop-place-init : goal.loop-place-init
loop-place-init c = λ t.
    map_same (tally_at c.args.tables.now.tables.items t)
    ∙ ap (λ (p : List Step). option_map (read t c.args.index p) (tally_at c.args.tables.now.tables.items t))
    (sym (ap (λ (n : ℕ). between (base_of c.args.unit.now.steps) n c.args.unit.now.steps) c.base-place.ensures ∙ none_between (base_of c.args.unit.now.steps) c.args.unit.now.steps))

pub loop-place-preserved : goal.loop-place-preserved
loop-place-preserved c = λ t.
    unit_step t c.args.index c.args.unit.now.steps c.loop-place.place (omega arith) (omega arith)
    (tally_at c.args.tables.now.tables.items t) (tally_at c.loop-place.tables.tables.items t) _
    (c.loop-place.invariant t)
    (c.tell.ensures t
    ∙ ap (λ (w : Option TicketFact). option_map (tells w t) (tally_at c.loop-place.tables.tables.items t)) (c.fact_of_one.ensures ∙ ap (fact_of_one c.args.index) c.step.ensures))

pub returns : goal.returns
returns c = λ t.
    c.loop-place.invariant t
    ∙ ap (λ (p : List Step). option_map (read t c.args.index p) (tally_at c.args.tables.now.tables.items t))
    (all_between (base_of c.args.unit.now.steps) c.loop-place.place c.args.unit.now.steps (omega arith))
