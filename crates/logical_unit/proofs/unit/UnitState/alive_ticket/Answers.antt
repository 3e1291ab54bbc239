use Rattle.std.proofs.Common.{◌∙◌, ap, List}
use Rattle.std.specs.Prelude.{slice_get}
use Rattle.std.specs.Option.{option_map}
use Rattle.unit_model.specs.Tasks.{Entry}
use Rattle.logical_unit.proofs.Keeping.{entries_alive}
use Rattle.logical_unit.proofs.unit.UnitState.alive_ticket.Goals as goal

pub returns : goal.returns
returns c =
    rw (← c.self.view_is)
    (c.ticket_at.ensures ∙ ap (λ (es : List Entry). option_map (λ (e : Entry). e.ticket) (slice_get es c.args.index)) (entries_alive c.self.invariant.kept))
