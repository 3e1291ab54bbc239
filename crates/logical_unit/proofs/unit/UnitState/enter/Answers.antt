use Rattle.std.proofs.Common.{◌≡◌, ◌≤◌, ◌∷◌, List, length, refl, sym, ap, ◌∙◌, arith, subst}
use Rattle.ring_core.specs.declared.log.Ticket.{Ticket}
use Rattle.unit_model.specs.Steps.{Step, next_number}
use Rattle.logical_unit.proofs.Keeping.{CameTo, fresh, keep_full, keep_enter}
use Rattle.logical_unit.proofs.Entering.{not_stale, came_then, enters_full, enters_task}
use Rattle.task_set.specs.Inner.Tasks.{seen_of}
use Rattle.logical_unit.specs.Inner.Parts.{AreBehind}
use Rattle.logical_unit.proofs.Basing.{based_way, behind_entering}
use Rattle.logical_unit.proofs.Noting.{recorded_on}
use Rattle.logical_unit.proofs.Durable.{fenced_more}
use Rattle.logical_unit.proofs.unit.UnitState.enter.Goals as goal

pub enter-requires : goal.enter-requires
enter-requires c =
    let t : c.ticket-ticket.result ≡ c.args.arrival.entry.ticket = c.ticket-ticket.ensures.entry in
    let le = not_stale c.self.invariant.kept c.ticket-ticket.result c.is_stale.result c.is_stale.ensures c.if-is_stale.false in
    record { fresh = fresh c.self.invariant.kept c.args.arrival.entry.ticket (subst (λ (n : Ticket). next_number n.queue c.self.inside.log.steps ≤ n.number) t le) }

pub invariant_of-self-in-Err : goal.invariant_of-self-in-Err
invariant_of-self-in-Err c =
    let le = not_stale c.self.invariant.kept c.ticket-ticket.result c.is_stale.result c.is_stale.ensures c.if-is_stale.false in
    let room : 129 ≤ c.make_way.new.log.room = c.in-Ok-make_way.ensures.room in
    let full = c.in-Err.ensures.err in
    let n = c.make_way.new.log.forgotten in
    record {
      kept =
          rw (c.push.ensures.steps, c.in-Ok-make_way.ensures.steps, full.1)
          (keep_full c.self.invariant.kept c.ticket-ticket.result _ _ full.0 le
          (came_then c.ticket-ticket.result _ _ _ c.in-Ok.ensures.same c.came.ensures) (omega (arith, room, c.push.ensures.room)));
      based =
          based_way _ n _ (Step.Full c.ticket-ticket.result) c.self.inside.log.steps _ (seen_of c.self.inside.tasks) _ refl
          (c.push.ensures.base ∙ c.in-Ok-make_way.ensures.base) c.push.ensures.forgotten
          (c.push.ensures.steps ∙ ap (λ w. Step.Full c.ticket-ticket.result ∷ w) c.make_way.ensures.steps)
          (λ le b. subst (λ ts. AreBehind n (seen_of ts)) (sym full.1) b)
          (c.make_way.ensures.clear c.self.invariant.based.clear);
      sized = c.self.invariant.sized ∙ rw (c.push.ensures.steps, c.in-Ok-make_way.ensures.steps) refl;
      noted =
          recorded_on _ (Step.Full c.ticket-ticket.result) c.self.inside.log.steps _ _ c.self.invariant.noted (λ b below out. (below, refl))
          (c.push.ensures.steps ∙ ap (λ w. Step.Full c.ticket-ticket.result ∷ w) c.make_way.ensures.steps);
      flushing =
          fenced_more _ (Step.Full c.ticket-ticket.result) _ _ _ _ c.self.invariant.flushing
          (c.push.ensures.steps ∙ ap (λ w. Step.Full c.ticket-ticket.result ∷ w) c.make_way.ensures.steps);
    }

pub invariant_of-self-in-Ok-enter : goal.invariant_of-self-in-Ok-enter
invariant_of-self-in-Ok-enter c =
    let t : c.ticket-ticket.result ≡ c.args.arrival.entry.ticket = c.ticket-ticket.ensures.entry in
    let le = not_stale c.self.invariant.kept c.ticket-ticket.result c.is_stale.result c.is_stale.ensures c.if-is_stale.false in
    let room : 129 ≤ c.make_way.new.log.room = c.in-Ok-make_way.ensures.room in
    let entered = c.in-Ok-enter.ensures.ok in
    let n = c.make_way.new.log.forgotten in
    let at : c.len-place.result ≡ length c.self.inside.log.steps = c.len-place.ensures ∙ ap (λ (w : List Step). length w) c.make_way.ensures.steps in
    record {
      kept =
          rw (c.push-in-Ok-enter.ensures.steps, c.recorded_entry-entered.ensures, entered.1, c.len-place.ensures, c.in-Ok-make_way.ensures.steps)
          (keep_enter c.self.invariant.kept c.args.arrival _ _ entered.0 (subst (λ (n : Ticket). next_number n.queue c.self.inside.log.steps ≤ n.number) t le)
          (subst (λ (n : Ticket). CameTo n c.self.inside.last_tickets c.came.new.self) t
          (came_then c.ticket-ticket.result _ _ _ c.in-Ok.ensures.same c.came.ensures))
          (omega (arith, room, c.push-in-Ok-enter.ensures.room)));
      based =
          based_way _ n _ (Step.Enter c.args.arrival.entry) c.self.inside.log.steps _ (seen_of c.self.inside.tasks) _ refl
          (c.push-in-Ok-enter.ensures.base ∙ c.in-Ok-make_way.ensures.base) c.push-in-Ok-enter.ensures.forgotten
          (c.push-in-Ok-enter.ensures.steps ∙ ap (λ e. Step.Enter e ∷ c.make_way.new.log.steps) c.recorded_entry-entered.ensures
          ∙ ap (λ w. Step.Enter c.args.arrival.entry ∷ w) c.make_way.ensures.steps)
          (λ le b. subst (λ ts. AreBehind n (seen_of ts)) (sym entered.1) (behind_entering c.len-place.result n c.self.inside.tasks c.args.arrival (omega (arith, at, le)) b))
          (c.make_way.ensures.clear c.self.invariant.based.clear);
      sized = c.self.invariant.sized ∙ rw (c.push-in-Ok-enter.ensures.steps, c.in-Ok-make_way.ensures.steps) refl;
      noted =
          recorded_on _ (Step.Enter c.args.arrival.entry) c.self.inside.log.steps _ _ c.self.invariant.noted (λ b below out. (below, refl))
          (c.push-in-Ok-enter.ensures.steps ∙ ap (λ e. Step.Enter e ∷ c.make_way.new.log.steps) c.recorded_entry-entered.ensures
          ∙ ap (λ w. Step.Enter c.args.arrival.entry ∷ w) c.make_way.ensures.steps);
      flushing =
          fenced_more _ (Step.Enter c.args.arrival.entry) _ _ _ _ c.self.invariant.flushing
          (c.push-in-Ok-enter.ensures.steps ∙ ap (λ e. Step.Enter e ∷ c.make_way.new.log.steps) c.recorded_entry-entered.ensures
          ∙ ap (λ w. Step.Enter c.args.arrival.entry ∷ w) c.make_way.ensures.steps);
    }

pub returns-in-Err : goal.returns-in-Err
returns-in-Err c =
    let t : c.ticket-ticket.result ≡ c.args.arrival.entry.ticket = c.ticket-ticket.ensures.entry in
    let le = not_stale c.self.invariant.kept c.ticket-ticket.result c.is_stale.result c.is_stale.ensures c.if-is_stale.false in
    let full = c.in-Err.ensures.err in
    let steps : c.push.new.self.steps ≡ Step.Full c.args.arrival.entry.ticket ∷ c.self.inside.log.steps =
    c.push.ensures.steps ∙ ap (λ n. Step.Full n ∷ c.make_way.new.log.steps) t ∙ ap (λ w. Step.Full c.args.arrival.entry.ticket ∷ w) c.in-Ok-make_way.ensures.steps in
    rw (← c.self.view_is, c.in-Err.ensures.full, full.1)
    (enters_full c.self.invariant.kept c.args.arrival _ _ _ _ (c.if-not-is_named.ensures.yes refl) full.0 (subst (λ (n : Ticket). next_number n.queue c.self.inside.log.steps ≤ n.number) t le) steps
    (c.push.ensures.keeps ∙ c.in-Ok-make_way.ensures.keeps))

pub returns-in-Ok-enter : goal.returns-in-Ok-enter
returns-in-Ok-enter c =
    let t : c.ticket-ticket.result ≡ c.args.arrival.entry.ticket = c.ticket-ticket.ensures.entry in
    let le = not_stale c.self.invariant.kept c.ticket-ticket.result c.is_stale.result c.is_stale.ensures c.if-is_stale.false in
    let entered = c.in-Ok-enter.ensures.ok in
    let steps : c.push-in-Ok-enter.new.self.steps ≡ Step.Enter c.args.arrival.entry ∷ c.self.inside.log.steps =
    c.push-in-Ok-enter.ensures.steps ∙ ap (λ e. Step.Enter e ∷ c.make_way.new.log.steps) c.recorded_entry-entered.ensures
    ∙ ap (λ w. Step.Enter c.args.arrival.entry ∷ w) c.in-Ok-make_way.ensures.steps in
    rw (c.of.ensures, ← c.self.view_is, entered.1)
    (enters_task c.self.invariant.kept c.args.arrival c.in-Ok-enter.job c.len-place.result _ _ _ _
    (c.if-not-is_named.ensures.yes refl) entered.0
    (subst (λ (n : Ticket). next_number n.queue c.self.inside.log.steps ≤ n.number) t le) c.in-Ok-enter.ensures.job steps
    (c.push-in-Ok-enter.ensures.keeps ∙ c.in-Ok-make_way.ensures.keeps))
