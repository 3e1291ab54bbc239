use Rattle.std.proofs.Common.{◌≡◌, [], Some, inr, ap, sym, ◌∙◌, refl}
use Rattle.command_model.specs.PlainReply.{success}
use Rattle.unit_model.specs.Receipts.{Receipt}
use Rattle.unit_model.proofs.Keeping.{well_done}
use Rattle.unit_model.proofs.Withheld.{contained_well}
use Rattle.logical_unit.proofs.Through.{own_command}
use Rattle.logical_unit.proofs.unit.UnitState.conclude.Goals as goal

pub is_through-requires : goal.is_through-requires
is_through-requires c =
    let held = c.requires.held in
    record {
      ran = rw c.ticket-ticket.ensures.entry
          (well_done c.args.job.now.entry.ticket c.args.self.now.steps
          (contained_well c.args.job.now.entry.ticket (success c.requires.entry.command []) c.args.self.now.steps refl held.ran));
    }

pub returns-then-not-is_through-clause-waits : goal.returns-then-not-is_through-clause-waits
returns-then-not-is_through-clause-waits c =
    record {
      entry = c.requires.entry;
      of = c.requires.of;
      waits = inr (success c.requires.entry.command [], c.requires.held);
      same = c.is_through.ensures.same;
    }

pub returns-clause-step : goal.returns-clause-step
returns-clause-step c = (
  c.requires.entry,
  c.requires.of,
  success c.requires.entry.command [],
  c.requires.held,
  rw (c.ticket-ticket.ensures.entry) at (c.is_through.ensures.through c.if-not-is_through.false),
  ap (λ (x : Receipt). x.reply) c.new-2.ensures
      ∙ ap Some (c.success-reply.ensures ∙ ap (λ bytes. success c.command.result bytes) c.new.ensures.items ∙ ap (λ k. success k []) (c.command.ensures ∙ sym (own_command c.args.job.now c.requires.entry c.args.self.now.steps c.requires.of))),
  c.is_through.ensures.same,
)
