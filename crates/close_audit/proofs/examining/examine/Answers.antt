use Rattle.std.proofs.Common.{refl, subst, List, None, Option}
use Rattle.ring_core.specs.declared.log.Ticket.{Ticket}
use Rattle.unit_model.specs.Receipts.{Receipt}
use Rattle.unit_model.specs.Unit.{PlainUnit}
use Rattle.virtqueue.specs.Queue.{BareQueue}
use Rattle.close_audit.specs.Inner.Belonging.{FindsForeign}
use Rattle.close_audit.specs.Closed.{IsFirst, AreConfirmed, is_outstanding}
use Rattle.close_audit.specs.Inner.Unconfirmed.{AllStand, AllSound}
use Rattle.close_audit.proofs.Summing.{adds_up}
use Rattle.close_audit.proofs.examining.examine.Goals as goal

pub returns-in-None : goal.returns-in-None
returns-in-None c =
    let r = c.args.report in
    let none : IsFirst (is_outstanding r.units.items r.queues.items r.receipts.items r.notes.items) None =
    subst (λ (o : Option Ticket). IsFirst (is_outstanding r.units.items r.queues.items r.receipts.items r.notes.items) o) c.in-Ok-None.field-0-is c.in-Ok-None.ensures in
    let confirmed : AreConfirmed r.units.items r.receipts.items =
    subst (λ (us : List PlainUnit). AreConfirmed us r.receipts.items) c.as_slice.ensures.value
    (subst (λ (cs : List Receipt). AreConfirmed c.as_slice.result.now cs) c.as_slice-2.ensures.value c.in_default.ensures) in
    let own : FindsForeign c.args.specs.now r.units.items r.queues.items None =
    subst (λ (us : List PlainUnit). FindsForeign c.args.specs.now us r.queues.items None) c.as_slice-in-Ok-None.ensures.value
    (subst (λ (qs : List BareQueue). FindsForeign c.args.specs.now c.as_slice-in-Ok-None.result.now qs None) c.as_slice-in-Ok-None-2.ensures.value
    (subst (λ (o : Option Ticket). FindsForeign c.args.specs.now c.as_slice-in-Ok-None.result.now c.as_slice-in-Ok-None-2.result.now o) c.in-None.is c.first_foreign.ensures)) in (
      refl,
      adds_up r.units.items r.queues.items r.receipts.items r.notes.items none c.args.specs.now own.0 own.1
          (subst (λ (us : List PlainUnit). AllStand us) c.as_slice-3.ensures.value c.stand.ensures)
          (subst (λ (qs : List BareQueue). AllSound qs) c.as_slice-4.ensures.value c.are_sound.ensures)
          confirmed,
      none,
    )

pub first_outstanding-requires-clause-stand : goal.first_outstanding-requires-clause-stand
first_outstanding-requires-clause-stand c = subst (λ (us : List PlainUnit). AllStand us) c.as_slice-3.ensures.value c.stand.ensures
