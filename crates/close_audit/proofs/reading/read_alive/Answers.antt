use Rattle.std.proofs.Common.{ap, ◌∙◌, List, Option, arith}
use Rattle.std.proofs.lemmas.List.{take_all}
use Rattle.std.specs.Option.{option_map}
use Rattle.unit_model.specs.Tasks.{Entry}
use Rattle.unit_model.specs.Steps.{alive}
use Rattle.close_audit.specs.declared.tally.TicketFact.{TicketFact}
use Rattle.close_audit.specs.Inner.Tallies.{read_alive, tells, fact_of_alive, tally_at}
use Rattle.close_audit.proofs.Slots.{map_same}
use Rattle.close_audit.proofs.Folding.{alive_step}
use Rattle.close_audit.proofs.reading.read_alive.Goals as goal

pub loop-number-init : goal.loop-number-init
loop-number-init c = λ t. map_same (tally_at c.args.tables.now.tables.items t)

pub loop-number-preserved : goal.loop-number-preserved
loop-number-preserved c = λ t.
    alive_step t (alive c.args.unit.now.steps) c.loop-number.number (omega arith)
    (tally_at c.args.tables.now.tables.items t) (tally_at c.loop-number.tables.tables.items t) _
    (c.loop-number.invariant t)
    (c.tell.ensures t
    ∙ ap (λ (w : Option TicketFact). option_map (tells w t) (tally_at c.loop-number.tables.tables.items t)) (c.fact_of_alive.ensures ∙ ap fact_of_alive c.alive_ticket.ensures))

pub returns : goal.returns
returns c = λ t.
    c.loop-number.invariant t
    ∙ ap (λ (es : List Entry). option_map (read_alive t es) (tally_at c.args.tables.now.tables.items t)) (take_all c.loop-number.number (alive c.args.unit.now.steps) (omega arith))
