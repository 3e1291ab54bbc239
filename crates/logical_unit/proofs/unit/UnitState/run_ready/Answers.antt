use Rattle.std.proofs.Common.{◌≡◌, true, false, Some, IfSome, ap, sym, subst, ◌∙◌, refl}
use Rattle.unit_model.specs.Seen.{finished}
use Rattle.logical_unit.specs.Inner.Parts.{AreBehind}
use Rattle.logical_unit.proofs.Basing.{based_on, behind_moved, ran_folds, ran_sized}
use Rattle.std.specs.Option.{option_copied, option_map}
use Rattle.block_store.specs.Storage.{IsLostIn, IsDeniedIn}
use Rattle.backed_store.specs.Disks as disks
use Rattle.block_commands.specs.Inner.Told.{facts_of}
use Rattle.command_model.specs.Waiting.{needs}
use Rattle.logical_unit.specs.Fields.{opening_of}
use Rattle.logical_unit.specs.Inner.Flushes.{fence_of}
use Rattle.logical_unit.specs.Inner.Performing.{performed_of, ran_well, told, step_for}
use Rattle.task_set.specs.Inner.Tasks.{task_at, seen_of}
use Rattle.logical_unit.proofs.Keeping.{has_room, is_ready, told_is, task_at_alive}
use Rattle.logical_unit.proofs.Committing.{cannot_none, cannot_turn, is_of, is_aborted, keep_run, commits_run, keep_unwritten, commits_unwritten, waits_for, or-left, or-right}
use Rattle.command_model.specs.Failing.{IsUnwritten}
use Rattle.logical_unit.proofs.Noting.{recorded_run, recorded_unwritten}
use Rattle.unit_model.specs.Flushing.{IsFlushed}
use Rattle.logical_unit.proofs.Flushed.{flushed}
use Rattle.logical_unit.proofs.Durable.{fenced_more, fenced_same, hosted_ledger, over_durable, stands_at, may_begin, kept_on, came_on, unwritten_on, backed_on, fenced_without}
use Rattle.logical_unit.proofs.unit.UnitState.run_ready.Goals as goal

pub returns-in_default-clause-step : goal.returns-in_default-clause-step
returns-in_default-clause-step c =
    let at = ap (λ t. task_at t c.self.inside.tasks) (sym c.ticket-ticket.ensures.entry) ∙ sym c.task.ensures ∙ ap option_copied c.in_default.is in
    rw (← c.self.view_is) (cannot_none c.self.invariant.kept c.args.job.now at, refl)

pub record_run-requires-clause-room : goal.record_run-requires-clause-room
record_run-requires-clause-room c =
    has_room c.self.invariant.kept c.ticket-ticket.result c.in-Some.task.now (sym c.task.ensures ∙ ap option_copied c.in-Some.is)

pub invariant_of-self : goal.invariant_of-self
invariant_of-self c =
    let at = sym c.task.ensures ∙ ap option_copied c.in-Some.is in
    let u = c.self.inside in
    let turn = c.in-Ready.ensures in
    let begins = may_begin c.self.invariant.kept c.ticket-ticket.result c.in-Some.task.now _ at c.place.ensures
    (is_ready c.self.invariant.kept c.ticket-ticket.result c.in-Some.task.now at turn.1 turn.2 turn.3) in
    let e = c.in_default-fail_flush.ensures in
    record {
      kept =
          rw (c.fail_flush.ensures.facts, e.pends)
          (kept_on (opening_of u) u.log.steps _ _ u.attentions u.tasks u.last_tickets u.log.room c.self.invariant.kept
          (ap (λ d. disks.blocks_of d) e.otherwise ∙ c.has_to_wait.ensures.blocks));
      based = c.self.invariant.based;
      sized = rw (c.fail_flush.ensures.facts) (c.fail_flush.ensures.size ∙ c.has_to_wait.ensures.size ∙ c.self.invariant.sized);
      noted = rw (c.fail_flush.ensures.facts) c.self.invariant.noted;
      flushing =
          rw (c.fail_flush.ensures.facts, e.waits)
          (fenced_same (opening_of u) u.log.steps _ _ _
          (c.has_to_wait.ensures.fenced (opening_of u) u.log.steps begins c.self.invariant.kept.stored
          c.self.invariant.flushing)
          c.fail_flush.ensures.storage);
    }

pub record_run-outcome-requires-clause-room : goal.record_run-outcome-requires-clause-room
record_run-outcome-requires-clause-room c =
    has_room c.self.invariant.kept c.ticket-ticket.result c.in-Some.task.now (sym c.task.ensures ∙ ap option_copied c.in-Some.is)

pub invariant_of-self-then-has_to_wait : goal.invariant_of-self-then-has_to_wait
invariant_of-self-then-has_to_wait c =
    let at = sym c.task.ensures ∙ ap option_copied c.in-Some.is in
    let turns = c.in-Ready.ensures in
    let n = c.self.inside.log.forgotten in
    let u = c.self.inside in
    let store = c.has_to_wait.new.disk in
    let p = performed_of c.in-Some-fail_flush.failed in
    let kept = kept_on (opening_of u) u.log.steps _ _ u.attentions u.tasks u.last_tickets u.log.room c.self.invariant.kept c.has_to_wait.ensures.blocks in
    let sized = c.has_to_wait.ensures.size ∙ c.self.invariant.sized in
    let begins = may_begin c.self.invariant.kept c.ticket-ticket.result c.in-Some.task.now _ at c.place.ensures
    (is_ready c.self.invariant.kept c.ticket-ticket.result c.in-Some.task.now at turns.1 turns.2 turns.3) in
    let told_so = told_is kept c.self.inside.facts (disks.size_of store) refl refl refl refl refl refl sized in
    let ran = rw (c.command-command.ensures, c.asks_medium-asks_medium.ensures) at c.in-Some-fail_flush.ensures.failed in
    record {
      kept =
          rw (c.record_run-outcome.ensures.tasks, c.record_run-outcome.ensures.steps, c.fail_flush.ensures.facts)
          (keep_unwritten kept c.ticket-ticket.result c.in-Some.task.now.seen.entry c.keeps_replies-keeps.result
          (facts_of (told c.self.inside.facts c.self.inside.attentions) (disks.size_of store)) (IsDeniedIn (disks.storage_of store)) p _ _ _
          (is_ready kept c.ticket-ticket.result c.in-Some.task.now at turns.1 turns.2 turns.3) told_so ran c.record_run-outcome.ensures.room);
      based =
          based_on _ _ n _ (step_for c.ticket-ticket.result (Some p)) c.self.inside.log.steps _ (seen_of c.self.inside.tasks) _ c.self.invariant.based (ran_folds c.ticket-ticket.result (Some p))
          c.record_run-outcome.ensures.base c.record_run-outcome.ensures.forgotten c.record_run-outcome.ensures.steps
          (λ b. subst (λ ts. AreBehind n (seen_of ts)) (sym c.record_run-outcome.ensures.tasks) (behind_moved (finished c.ticket-ticket.result (ran_well (Some p))) n c.self.inside.tasks (λ s. refl) b));
      sized = c.fail_flush.ensures.size ∙ sized ∙ sym (ran_sized (opening_of c.self.inside) c.ticket-ticket.result (Some p) c.self.inside.log.steps _ c.record_run-outcome.ensures.steps);
      noted =
          rw (c.fail_flush.ensures.facts)
          (recorded_unwritten (opening_of c.self.inside) c.ticket-ticket.result c.in-Some.task.now.seen.entry c.self.inside.log.steps _ ran.page p.reply _ c.self.invariant.noted
          (subst (λ f. IsUnwritten f c.in-Some.task.now.seen.entry.asks_medium c.in-Some.task.now.seen.entry.command ran.page p.reply) told_so ran.unwritten)
          c.record_run-outcome.ensures.steps);
      flushing =
          rw (c.fail_flush.ensures.facts, c.in-Some-fail_flush.ensures.over)
          (fenced_more _ (step_for c.ticket-ticket.result (Some p)) u.log.steps _ _ _
          (fenced_same _ _ _ _ _
          (fenced_without (opening_of u) u.log.steps _ c.ticket-ticket.result _
          (c.has_to_wait.ensures.fenced (opening_of u) u.log.steps begins c.self.invariant.kept.stored c.self.invariant.flushing))
          c.fail_flush.ensures.storage) c.record_run-outcome.ensures.steps);
    }

pub returns-then-has_to_wait-clause-step : goal.returns-then-has_to_wait-clause-step
returns-then-has_to_wait-clause-step c =
    let at = ap (λ t. task_at t c.self.inside.tasks) (sym c.ticket-ticket.ensures.entry) ∙ sym c.task.ensures ∙ ap option_copied c.in-Some.is in
    let turns = c.in-Ready.ensures in
    let u = c.self.inside in
    let store = c.has_to_wait.new.disk in
    let p = performed_of c.in-Some-fail_flush.failed in
    let kept = kept_on (opening_of u) u.log.steps _ _ u.attentions u.tasks u.last_tickets u.log.room c.self.invariant.kept c.has_to_wait.ensures.blocks in
    let keeps : c.self.inside.log.keeps ≡ c.keeps_replies-keeps.result = sym c.keeps_replies-keeps.ensures in
    rw (
      ← c.self.view_is,
      c.record_run-outcome.ensures.outcome,
      c.record_run-outcome.ensures.tasks,
      c.record_run-outcome.ensures.steps,
      c.record_run-outcome.ensures.keeps,
      c.fail_flush.ensures.facts,
      c.ticket-ticket.ensures.entry,
    )
    (commits_unwritten kept c.args.job.now c.in-Some.task.now.seen.entry c.self.inside.log.keeps _ _
    (facts_of (told c.self.inside.facts c.self.inside.attentions) (disks.size_of store)) p
    (disks.blocks_of c.fail_flush.new.store) c.fail_flush.new.attentions (hosted_ledger _ store c.fail_flush.ensures.storage ∙ c.has_to_wait.ensures.storage)
    (is_of kept c.args.job.now c.in-Some.task.now at turns.0)
    (is_ready kept c.args.job.now.entry.ticket c.in-Some.task.now at turns.1 turns.2 turns.3)
    (told_is kept c.self.inside.facts (disks.size_of store) refl refl refl refl refl refl (c.has_to_wait.ensures.size ∙ c.self.invariant.sized))
    (unwritten_on _ _ _ _ _ _ _ _ _ _ _ c.has_to_wait.ensures.storage
    (rw keeps (rw (c.command-command.ensures, c.asks_medium-asks_medium.ensures) at c.in-Some-fail_flush.ensures.failed))))

pub invariant_of-self-in_default-perform_if_ready : goal.invariant_of-self-in_default-perform_if_ready
invariant_of-self-in_default-perform_if_ready c =
    let at = sym c.task.ensures ∙ ap option_copied c.in-Some.is in
    let u = c.self.inside in
    let turn = c.in-Ready.ensures in
    let begins = may_begin c.self.invariant.kept c.ticket-ticket.result c.in-Some.task.now _ at c.place.ensures
    (is_ready c.self.invariant.kept c.ticket-ticket.result c.in-Some.task.now at turn.1 turn.2 turn.3) in
    let waits = c.in_default-perform_if_ready.ensures.waits in
    record {
      kept =
          rw (c.perform_if_ready.ensures.facts, waits.1)
          (kept_on (opening_of u) u.log.steps _ _ u.attentions u.tasks u.last_tickets u.log.room c.self.invariant.kept (waits.0 ∙ c.has_to_wait.ensures.blocks));
      based = c.self.invariant.based;
      sized = rw (c.perform_if_ready.ensures.facts) (c.perform_if_ready.ensures.size ∙ c.has_to_wait.ensures.size ∙ c.self.invariant.sized);
      noted = rw (c.perform_if_ready.ensures.facts) c.self.invariant.noted;
      flushing =
          rw (c.perform_if_ready.ensures.facts)
          (fenced_same (opening_of u) u.log.steps _ _ _
          (c.has_to_wait.ensures.fenced (opening_of u) u.log.steps begins c.self.invariant.kept.stored
          c.self.invariant.flushing)
          c.perform_if_ready.ensures.storage);
    }

pub invariant_of-self-in-Ready : goal.invariant_of-self-in-Ready
invariant_of-self-in-Ready c =
    let at = sym c.task.ensures ∙ ap option_copied c.in-Some.is in
    let turns = c.in-Ready.ensures in
    let n = c.self.inside.log.forgotten in
    let u = c.self.inside in
    let store = c.has_to_wait.new.disk in
    let kept = kept_on (opening_of u) u.log.steps _ _ u.attentions u.tasks u.last_tickets u.log.room c.self.invariant.kept c.has_to_wait.ensures.blocks in
    let sized = c.has_to_wait.ensures.size ∙ c.self.invariant.sized in
    let turn = c.in-Ready.ensures in
    let begins = may_begin c.self.invariant.kept c.ticket-ticket.result c.in-Some.task.now _ at c.place.ensures
    (is_ready c.self.invariant.kept c.ticket-ticket.result c.in-Some.task.now at turn.1 turn.2 turn.3) in
    record {
      kept =
          rw (c.record_run.ensures.tasks, c.record_run.ensures.steps, c.perform_if_ready.ensures.facts)
          (keep_run kept c.ticket-ticket.result c.in-Some.task.now.seen.entry c.keeps_replies-keeps.result
          (facts_of (told c.self.inside.facts c.self.inside.attentions) (disks.size_of store)) (IsLostIn (disks.storage_of store))
          (option_map performed_of c.in-Ok.performed) _ _ _
          (is_ready kept c.ticket-ticket.result c.in-Some.task.now at turns.1 turns.2 turns.3)
          (told_is kept c.self.inside.facts (disks.size_of store) refl refl refl refl refl refl sized)
          (rw (c.command-command.ensures, c.data-bytes.ensures.data) at c.in-Ok.ensures.performed) c.record_run.ensures.room);
      based =
          based_on _ _ n _ (step_for c.ticket-ticket.result _) c.self.inside.log.steps _ (seen_of c.self.inside.tasks) _ c.self.invariant.based (ran_folds c.ticket-ticket.result _)
          c.record_run.ensures.base c.record_run.ensures.forgotten c.record_run.ensures.steps
          (λ b. subst (λ ts. AreBehind n (seen_of ts)) (sym c.record_run.ensures.tasks) (behind_moved (finished c.ticket-ticket.result (ran_well (option_map performed_of c.in-Ok.performed))) n c.self.inside.tasks (λ s. refl) b));
      sized = c.perform_if_ready.ensures.size ∙ sized ∙ sym (ran_sized (opening_of c.self.inside) c.ticket-ticket.result _ c.self.inside.log.steps _ c.record_run.ensures.steps);
      noted =
          rw (c.perform_if_ready.ensures.facts)
          (recorded_run (opening_of c.self.inside) c.ticket-ticket.result c.in-Some.task.now.seen.entry _ c.self.inside.log.steps _ _ _ _ c.self.invariant.noted
          (task_at_alive kept c.ticket-ticket.result c.in-Some.task.now at).0
          (rw (c.command-command.ensures, c.data-bytes.ensures.data, c.len.ensures) at c.note_command.ensures)
          (c.capacity.ensures ∙ c.perform_if_ready.ensures.size ∙ sized) c.record_run.ensures.steps);
      flushing =
          rw (c.perform_if_ready.ensures.facts)
          (fenced_more _ (step_for c.ticket-ticket.result (option_map performed_of c.in-Ok.performed)) u.log.steps _ _ _
          (fenced_same _ _ _ _ _
          (c.has_to_wait.ensures.fenced (opening_of u) u.log.steps begins c.self.invariant.kept.stored c.self.invariant.flushing)
          c.perform_if_ready.ensures.storage) c.record_run.ensures.steps);
    }

pub returns-in-Unknown-clause-step : goal.returns-in-Unknown-clause-step
returns-in-Unknown-clause-step c =
    let at = ap (λ t. task_at t c.self.inside.tasks) (sym c.ticket-ticket.ensures.entry) ∙ sym c.task.ensures ∙ ap option_copied c.in-Some.is in
    rw (← c.self.view_is) (cannot_turn c.self.invariant.kept c.args.job.now c.in-Some.task.now at c.in-Unknown.ensures, refl)

pub returns-in-Aborted-clause-step : goal.returns-in-Aborted-clause-step
returns-in-Aborted-clause-step c =
    let at = ap (λ t. task_at t c.self.inside.tasks) (sym c.ticket-ticket.ensures.entry) ∙ sym c.task.ensures ∙ ap option_copied c.in-Some.is in
    let turns = c.in-Aborted.ensures in
    rw (← c.self.view_is) (
      c.in-Some.task.now.seen.entry,
      is_of c.self.invariant.kept c.args.job.now c.in-Some.task.now at turns.0,
      is_aborted c.self.invariant.kept c.args.job.now.entry.ticket c.in-Some.task.now c.in-Aborted.reason at turns.2,
      refl,
    )

pub returns-in-Ok-clause-step : goal.returns-in-Ok-clause-step
returns-in-Ok-clause-step c =
    let at = ap (λ t. task_at t c.self.inside.tasks) (sym c.ticket-ticket.ensures.entry) ∙ sym c.task.ensures ∙ ap option_copied c.in-Some.is in
    let turns = c.in-Ready.ensures in
    let u = c.self.inside in
    let store = c.has_to_wait.new.disk in
    let e = c.in-Some.task.now.seen.entry in
    let kept = kept_on (opening_of u) u.log.steps _ _ u.attentions u.tasks u.last_tickets u.log.room c.self.invariant.kept c.has_to_wait.ensures.blocks in
    let t = c.args.job.now.entry.ticket in
    let stands = stands_at c.self.invariant.kept t c.in-Some.task.now _ at c.place.ensures in
    let there = sym c.task.ensures ∙ ap option_copied c.in-Some.is in
    let begins = may_begin c.self.invariant.kept c.ticket-ticket.result c.in-Some.task.now _ there c.place.ensures
    (is_ready c.self.invariant.kept c.ticket-ticket.result c.in-Some.task.now there turns.1 turns.2 turns.3) in
    let keeps : c.self.inside.log.keeps ≡ c.keeps_replies-keeps.result = sym c.keeps_replies-keeps.ensures in
    rw (
      ← c.self.view_is,
      c.record_run.ensures.outcome,
      c.record_run.ensures.tasks,
      c.record_run.ensures.steps,
      c.record_run.ensures.keeps,
      c.perform_if_ready.ensures.facts,
      c.ticket-ticket.ensures.entry,
    )
    (commits_run kept c.args.job.now c.in-Some.task.now.seen.entry c.self.inside.log.keeps _ _
    (facts_of (told c.self.inside.facts c.self.inside.attentions) (disks.size_of store)) (option_map performed_of c.in-Ok.performed)
    (disks.blocks_of c.perform_if_ready.new.store) c.perform_if_ready.new.attentions (hosted_ledger _ store c.perform_if_ready.ensures.storage ∙ c.has_to_wait.ensures.storage)
    (is_of kept c.args.job.now c.in-Some.task.now at turns.0)
    (is_ready kept c.args.job.now.entry.ticket c.in-Some.task.now at turns.1 turns.2 turns.3)
    (told_is kept c.self.inside.facts (disks.size_of store) refl refl refl refl refl refl (c.has_to_wait.ensures.size ∙ c.self.invariant.sized))
    (came_on _ _ _ _ _ _ _ _ _ _ _ c.has_to_wait.ensures.storage (rw keeps (rw (c.command-command.ensures, c.data-bytes.ensures.data) at c.in-Ok.ensures.performed)))
    (λ r replied ends flush.
    subst (λ x. IfSome x (λ l. IsFlushed (opening_of u) u.log.steps l e)) c.has_to_wait.ensures.storage
    (flushed (opening_of u) u.log.steps e r
    (is_ready c.self.invariant.kept c.ticket-ticket.result c.in-Some.task.now there turns.1 turns.2 turns.3).is_enabled replied ends store kept.stored
    (c.has_to_wait.ensures.size ∙ c.self.invariant.sized)
    (λ syncs.
    let is = rw (← c.command-command.ensures) at syncs in
    over_durable (opening_of u) u.log.steps (fence_of c.ticket-ticket.result _ false) e store refl stands.entered
    (c.has_to_wait.ensures.since (opening_of u) u.log.steps begins c.self.invariant.kept.stored c.self.invariant.flushing c.if-has_to_wait.false is)
    (c.has_to_wait.ensures.over c.if-has_to_wait.false is))
    (rw (c.command-command.ensures, c.asks_medium-asks_medium.ensures) at c.has_to_wait.ensures.read c.if-has_to_wait.false)
    flush)))

pub returns-in_default-perform_if_ready-clause-waits : goal.returns-in_default-perform_if_ready-clause-waits
returns-in_default-perform_if_ready-clause-waits c =
    let at = ap (λ t. task_at t c.self.inside.tasks) (sym c.ticket-ticket.ensures.entry) ∙ sym c.task.ensures ∙ ap option_copied c.in-Some.is in
    let needed : needs (disks.size_of c.has_to_wait.new.disk) c.in-Some.task.now.seen.entry.command ≡ true =
    rw c.command-command.ensures at c.in_default-perform_if_ready.ensures.needed in
    rw (← c.self.view_is, c.perform_if_ready.ensures.facts)
    (waits_for c.self.invariant.kept c.args.job.now c.in-Some.task.now _ _ _ at c.in-Ready.ensures
    (backed_on _ _ c.has_to_wait.ensures.storage c.in_default-perform_if_ready.ensures.backed) (or-left _ _ (rw (c.has_to_wait.ensures.size ∙ c.self.invariant.sized) at needed))
    (hosted_ledger _ c.has_to_wait.new.disk c.perform_if_ready.ensures.storage ∙ c.has_to_wait.ensures.storage))

pub returns-in_default-fail_flush-clause-waits : goal.returns-in_default-fail_flush-clause-waits
returns-in_default-fail_flush-clause-waits c =
    let at = ap (λ t. task_at t c.self.inside.tasks) (sym c.ticket-ticket.ensures.entry) ∙ sym c.task.ensures ∙ ap option_copied c.in-Some.is in
    let flush = rw (c.command-command.ensures, c.asks_medium-asks_medium.ensures) at c.has_to_wait.ensures.flush c.if-has_to_wait.true in
    rw (← c.self.view_is, c.fail_flush.ensures.facts)
    (waits_for c.self.invariant.kept c.args.job.now c.in-Some.task.now _ _ _ at c.in-Ready.ensures
    (c.has_to_wait.ensures.backed c.if-has_to_wait.true) (or-right _ _ flush)
    (hosted_ledger _ c.has_to_wait.new.disk c.fail_flush.ensures.storage ∙ c.has_to_wait.ensures.storage))
