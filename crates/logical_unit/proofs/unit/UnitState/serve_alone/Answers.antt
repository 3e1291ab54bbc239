use Rattle.std.proofs.Common.{◌≡◌, ◌≤◌, ◌+◌, ◌∷◌, false, Option, IfSome, ap, sym, ◌∙◌, arith, subst, refl}
use Rattle.block_commands.specs.Inner.Told.{facts_of}
use Rattle.cdb.specs.declared.commands.Command.{Command}
use Rattle.logical_unit.specs.Fields.{plain_unit}
use Rattle.logical_unit.specs.Inner.Calls.{writes_through}
use Rattle.backed_store.specs.Disks as disks
use Rattle.ring_core.specs.declared.log.Ticket.{Ticket}
use Rattle.unit_model.specs.Endings.{Ending}
use Rattle.unit_model.specs.Steps.{Step, next_number}
use Rattle.logical_unit.specs.Fields.{opening_of}
use Rattle.logical_unit.specs.Inner.Performing.{told, step_for, unkept}
use Rattle.block_store.specs.Storage.{Ledger}
use Rattle.unit_model.specs.Flushing.{IsFlushed}
use Rattle.logical_unit.proofs.Flushed.{flushed}
use Rattle.logical_unit.proofs.Durable.{fenced_more, fenced_same, hosted_ledger, kept_durable}
use Rattle.logical_unit.proofs.Alone.{no_tasks, ends_as, all_steps, based_served, kept_served, recorded_served, serves_alone}
use Rattle.logical_unit.proofs.Entering.{not_stale, came_then}
use Rattle.logical_unit.proofs.Keeping.{CameTo, told_is}
use Rattle.logical_unit.proofs.Readied.{readied}
use Rattle.task_set.specs.Inner.Tasks.{seen_of}
use Rattle.logical_unit.proofs.Basing.{ran_sized}
use Rattle.logical_unit.proofs.unit.UnitState.serve_alone.Goals as goal

pub invariant_of-self-2 : goal.invariant_of-self-2
invariant_of-self-2 g c =
    let u = c.self.inside in
    let size : disks.size_of c.may_run.new.store ≡ disks.size_of c.self.inside.store = c.may_run.ensures.size in
    let blocks : disks.blocks_of c.may_run.new.store ≡ disks.blocks_of c.self.inside.store = c.may_run.ensures.blocks in
    let facts : c.run_and_answer-ran.new.facts ≡ told c.self.inside.facts c.self.inside.attentions =
    c.run_and_answer-ran.ensures.facts ∙ ap (λ f. told f c.self.inside.attentions) c.may_run.ensures.facts in
    let performed = readied false (told c.self.inside.facts c.self.inside.attentions) (told c.may_run.new.facts c.self.inside.attentions) c.self.inside.attentions c.run_and_answer-ran.new.attentions
    (disks.size_of c.self.inside.store) (disks.size_of c.may_run.new.store) c.args.arrival.now.entry.command c.args.arrival.now.entry.data_out
    (unkept c.run_and_answer-ran.result)
    (disks.blocks_of c.self.inside.store) (disks.blocks_of c.may_run.new.store) (disks.blocks_of c.run_and_answer-ran.new.store)
    (ap (λ f. told f c.self.inside.attentions) c.may_run.ensures.facts) size blocks c.run_and_answer-ran.ensures.performed in
    let t = c.ticket-ticket.result in
    let own : t ≡ c.args.arrival.now.entry.ticket = c.ticket-ticket.ensures.entry in
    let le = subst (λ (n : Ticket). next_number n.queue c.self.inside.log.steps ≤ n.number) own
    (not_stale c.self.invariant.kept t c.is_stale.result c.is_stale.ensures c.if-is_stale.false) in
    let came = subst (λ (n : Ticket). CameTo n c.self.inside.last_tickets c.came.new.self) own
    (came_then t _ _ _ c.in-Ok.ensures.same c.came.ensures) in
    let room : 129 ≤ c.make_way.new.log.room = c.in-Ok-make_way.ensures.room in
    let less = c.push_three.ensures.room in
    let left = c.push_three.new.self.room in
    let steps = all_steps c.args.arrival.now.entry.ticket t c.args.arrival.now.entry _ (unkept c.run_and_answer-ran.result) _ _ _ _
    c.in-Ok-make_way.ensures.steps c.push_three.ensures.steps c.recorded_entry.ensures c.step_of_run.ensures own in
    record {
      kept =
          rw facts
          (kept_served (opening_of u) u.log.steps (disks.blocks_of u.store) u.attentions u.tasks u.last_tickets u.log.room
          c.self.invariant.kept (no_tasks u.tasks (omega (arith, c.len.ensures.value, c.if-len-gt0.false))) c.args.arrival.now
          c.came.new.self le came (left + 2) (omega (arith, room, less))
          (facts_of (told u.facts u.attentions) (disks.size_of u.store)) (unkept c.run_and_answer-ran.result) (disks.blocks_of c.run_and_answer-ran.new.store)
          c.run_and_answer-ran.new.attentions (told_is c.self.invariant.kept u.facts (disks.size_of u.store) refl refl refl refl refl refl c.self.invariant.sized)
          performed c.push_three.new.self.steps steps
          (left + 1) left (omega (arith)) (omega (arith)));
      based =
          based_served c.push_three.new.self.base c.make_way.new.log.forgotten c.push_three.new.self.forgotten
          c.args.arrival.now.entry.ticket (unkept c.run_and_answer-ran.result) c.args.arrival.now.entry u.log.steps c.push_three.new.self.steps
          (seen_of u.tasks) (c.push_three.ensures.base ∙ c.in-Ok-make_way.ensures.base) c.push_three.ensures.forgotten steps
          (c.make_way.ensures.clear c.self.invariant.based.clear);
      sized =
          c.run_and_answer-ran.ensures.size ∙ size ∙ c.self.invariant.sized
          ∙ sym (rw steps (ran_sized (opening_of u) c.args.arrival.now.entry.ticket (unkept c.run_and_answer-ran.result) (Step.Enter c.args.arrival.now.entry ∷ u.log.steps) _ refl));
      noted =
          rw facts
          (recorded_served (opening_of u) u.log.steps (disks.blocks_of u.store) u.attentions u.tasks u.last_tickets u.log.room
          c.self.invariant.kept (no_tasks u.tasks (omega (arith, c.len.ensures.value, c.if-len-gt0.false))) c.args.arrival.now
          c.came.new.self le came (left + 2) (omega (arith, room, less))
          (facts_of (told u.facts u.attentions) (disks.size_of u.store)) (unkept c.run_and_answer-ran.result) (disks.blocks_of c.run_and_answer-ran.new.store)
          c.run_and_answer-ran.new.attentions (told_is c.self.invariant.kept u.facts (disks.size_of u.store) refl refl refl refl refl refl c.self.invariant.sized)
          performed c.push_three.new.self.steps steps
          _ _ _ _ c.self.invariant.noted refl
          (rw (c.command-command.ensures, c.data-bytes.ensures.data, c.len-2.ensures, c.in-Ok-make_way.ensures.steps) at c.note_command.ensures)
          (c.capacity.ensures ∙ size ∙ c.self.invariant.sized));
      flushing =
          rw facts
          (fenced_more (opening_of u) (Step.Leave c.args.arrival.now.entry.ticket)
          (step_for c.args.arrival.now.entry.ticket (unkept c.run_and_answer-ran.result) ∷ Step.Enter c.args.arrival.now.entry ∷ u.log.steps)
          c.push_three.new.self.steps u.fence (disks.hosted_of c.run_and_answer-ran.new.store)
          (fenced_more (opening_of u) (step_for c.args.arrival.now.entry.ticket (unkept c.run_and_answer-ran.result)) (Step.Enter c.args.arrival.now.entry ∷ u.log.steps)
          (step_for c.args.arrival.now.entry.ticket (unkept c.run_and_answer-ran.result) ∷ Step.Enter c.args.arrival.now.entry ∷ u.log.steps) u.fence (disks.hosted_of c.run_and_answer-ran.new.store)
          (fenced_more (opening_of u) (Step.Enter c.args.arrival.now.entry) u.log.steps (Step.Enter c.args.arrival.now.entry ∷ u.log.steps) u.fence (disks.hosted_of c.run_and_answer-ran.new.store)
          (fenced_same (opening_of u) u.log.steps u.fence (disks.hosted_of u.store) (disks.hosted_of c.run_and_answer-ran.new.store) c.self.invariant.flushing (c.run_and_answer-ran.ensures.storage ∙ c.may_run.ensures.storage)) refl) refl) steps);
    }

pub returns-clause-serves : goal.returns-clause-serves
returns-clause-serves g c =
    let u = c.self.inside in
    let size : disks.size_of c.may_run.new.store ≡ disks.size_of c.self.inside.store = c.may_run.ensures.size in
    let blocks : disks.blocks_of c.may_run.new.store ≡ disks.blocks_of c.self.inside.store = c.may_run.ensures.blocks in
    let facts : c.run_and_answer-ran.new.facts ≡ told c.self.inside.facts c.self.inside.attentions =
    c.run_and_answer-ran.ensures.facts ∙ ap (λ f. told f c.self.inside.attentions) c.may_run.ensures.facts in
    let performed = readied false (told c.self.inside.facts c.self.inside.attentions) (told c.may_run.new.facts c.self.inside.attentions) c.self.inside.attentions c.run_and_answer-ran.new.attentions
    (disks.size_of c.self.inside.store) (disks.size_of c.may_run.new.store) c.args.arrival.now.entry.command c.args.arrival.now.entry.data_out
    (unkept c.run_and_answer-ran.result)
    (disks.blocks_of c.self.inside.store) (disks.blocks_of c.may_run.new.store) (disks.blocks_of c.run_and_answer-ran.new.store)
    (ap (λ f. told f c.self.inside.attentions) c.may_run.ensures.facts) size blocks c.run_and_answer-ran.ensures.performed in
    let t = c.ticket-ticket.result in
    let own : t ≡ c.args.arrival.now.entry.ticket = c.ticket-ticket.ensures.entry in
    let le = subst (λ (n : Ticket). next_number n.queue c.self.inside.log.steps ≤ n.number) own
    (not_stale c.self.invariant.kept t c.is_stale.result c.is_stale.ensures c.if-is_stale.false) in
    let came = subst (λ (n : Ticket). CameTo n c.self.inside.last_tickets c.came.new.self) own
    (came_then t _ _ _ c.in-Ok.ensures.same c.came.ensures) in
    let room : 129 ≤ c.make_way.new.log.room = c.in-Ok-make_way.ensures.room in
    let less = c.push_three.ensures.room in
    let left = c.push_three.new.self.room in
    let steps = all_steps c.args.arrival.now.entry.ticket t c.args.arrival.now.entry _ (unkept c.run_and_answer-ran.result) _ _ _ _
    c.in-Ok-make_way.ensures.steps c.push_three.ensures.steps c.recorded_entry.ensures c.step_of_run.ensures own in
    let keeps : c.self.inside.log.keeps ≡ false = sym c.keeps_replies.ensures ∙ c.if-keeps_replies.false in
    let answers = (λ (e : Ending). g.A.Answering.answers c.args.answering.now c.args.arrival.now e c.run_and_answer-ran.new.answering) in
    λ yes.
    rw (← c.self.view_is, facts)
    (serves_alone (opening_of u) u.log.steps (disks.blocks_of u.store) u.attentions u.tasks u.last_tickets u.log.room
    c.self.invariant.kept (no_tasks u.tasks (omega (arith, c.len.ensures.value, c.if-len-gt0.false))) c.args.arrival.now
    c.came.new.self le came (left + 2) (omega (arith, room, less))
    (facts_of (told u.facts u.attentions) (disks.size_of u.store)) (unkept c.run_and_answer-ran.result) (disks.blocks_of c.run_and_answer-ran.new.store)
    c.run_and_answer-ran.new.attentions (told_is c.self.invariant.kept u.facts (disks.size_of u.store) refl refl refl refl refl refl c.self.invariant.sized)
    performed c.push_three.new.self.steps steps
    answers c.self.inside.log.keeps c.push_three.new.self.keeps _ _
    (hosted_ledger _ u.store (c.run_and_answer-ran.ensures.storage ∙ c.may_run.ensures.storage)) (c.if-not-is_named.ensures.yes refl) keeps
    (c.push_three.ensures.keeps ∙ c.in-Ok-make_way.ensures.keeps ∙ keeps)
    (subst answers (ends_as _ _ _ c.run_and_answer-ran.result) c.run_and_answer-ran.ensures.answered)
    (sym c.ticket-ticket.ensures.chain ∙ own)
    (λ on r replied ends flush.
    subst (λ (x : Option Ledger). IfSome x (λ l. IsFlushed (opening_of u) (Step.Enter c.args.arrival.now.entry ∷ u.log.steps) l c.args.arrival.now.entry))
    (hosted_ledger c.may_run.new.store u.store c.may_run.ensures.storage)
    (flushed (opening_of u) (Step.Enter c.args.arrival.now.entry ∷ u.log.steps) c.args.arrival.now.entry r on replied ends c.may_run.new.store
    (λ b. ap (λ f. f b) blocks ∙ c.self.invariant.kept.stored b) (size ∙ c.self.invariant.sized)
    (λ syncs.
    kept_durable (opening_of u) (Step.Enter c.args.arrival.now.entry ∷ u.log.steps) c.args.arrival.now.entry c.may_run.new.store on
    (λ b. ap (λ f. f b) blocks ∙ c.self.invariant.kept.stored b) (c.may_run.ensures.flushed (c.if-not-may_run.false) syncs))
    (c.may_run.ensures.read (c.if-not-may_run.false)) flush))
    (subst (λ b. writes_through (plain_unit u) b c.args.arrival.now.entry.command ≡ false) c.asks_medium.ensures
    (subst (λ (k : Command). writes_through (plain_unit u) c.asks_medium.result k ≡ false) c.command.ensures (rw (← c.self.view_is) at (sym c.writes_through.ensures ∙ c.if-writes_through.false)))))

pub invariant_of-self-in_default : goal.invariant_of-self-in_default
invariant_of-self-in_default g c =
    let u = c.self.inside in
    let k = c.self.invariant.kept in
    let size : disks.size_of c.may_run.new.store ≡ disks.size_of u.store = c.may_run.ensures.size in
    let blocks : disks.blocks_of c.may_run.new.store ≡ disks.blocks_of u.store = c.may_run.ensures.blocks in
    let facts = c.may_run.ensures.facts in
    record {
      kept =
          rw facts
          (record {
            lawful = k.lawful;
            stored = λ b. ap (λ f. f b) blocks ∙ k.stored b;
            pends = k.pends;
            set = k.set;
            fit = k.fit;
            floors = λ q. c.reserve.ensures.same q ∙ k.floors q;
            reserved = k.reserved;
          });
      based = c.self.invariant.based;
      sized = rw facts (size ∙ c.self.invariant.sized);
      noted = rw facts c.self.invariant.noted;
      flushing = rw facts (fenced_same _ _ _ _ _ c.self.invariant.flushing c.may_run.ensures.storage);
    }

pub invariant_of-self-in_default-make_way : goal.invariant_of-self-in_default-make_way
invariant_of-self-in_default-make_way g c =
    let u = c.self.inside in
    let k = c.self.invariant.kept in
    let size : disks.size_of c.may_run.new.store ≡ disks.size_of u.store = c.may_run.ensures.size in
    let blocks : disks.blocks_of c.may_run.new.store ≡ disks.blocks_of u.store = c.may_run.ensures.blocks in
    let facts = c.may_run.ensures.facts in
    let steps = c.make_way.ensures.steps in
    let more = c.in_default-make_way.ensures.kept in
    let enough = k.reserved in
    record {
      kept =
          rw (facts, steps)
          (record {
            lawful = k.lawful;
            stored = λ b. ap (λ f. f b) blocks ∙ k.stored b;
            pends = k.pends;
            set = k.set;
            fit = k.fit;
            floors = λ q. c.reserve.ensures.same q ∙ k.floors q;
            reserved = omega (arith, enough, more.1);
          });
      based = rw steps (record { based = more.0 ∙ c.self.invariant.based.based; clear = c.make_way.ensures.clear c.self.invariant.based.clear });
      sized = rw (facts, steps) (size ∙ c.self.invariant.sized);
      noted = rw (facts, steps) c.self.invariant.noted;
      flushing = rw (facts, steps) (fenced_same _ _ _ _ _ c.self.invariant.flushing c.may_run.ensures.storage);
    }
