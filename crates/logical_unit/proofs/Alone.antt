-- A request that is served where no task is alive: what its unit is then.
use Rattle.std.proofs.Common.{◌≡◌, ℕ, ◌+◌, ◌-◌, ◌≤◌, Bool, true, false, not, ◌&&◌, ◌||◌, cond, List, [], ◌∷◌, map, length, Option, Some, None, is_some, IfSome, IsTrue, IsFalse, Result, Ok, Err, refl, sym, ◌∙◌, ap, subst, arith}
use Rattle.ring_core.specs.declared.log.Ticket.{Ticket}
use Rattle.block_store.specs.Blocks.{Blocks}
use Rattle.foundation.specs.declared.NoMemory.{NoMemory}
use Rattle.block_store.specs.Storage.{Ledger, IsLostIn}
use Rattle.unit_attention.specs.declared.code.Code.{Code}
use Rattle.block_commands.specs.declared.facts.UnitFacts.{UnitFacts}
use Rattle.block_commands.specs.Inner.Told.{facts_of, protects}
use Rattle.block_commands.specs.Inner.Ready.{is_read, IsReady as CommandReady}
use Rattle.cdb.specs.declared.commands.Command.{Command}
use Rattle.cdb.specs.Need.{need_of}
use Rattle.command_model.specs.Attention.{takes, is_stopped, met}
use Rattle.sense.specs.declared.Sense.{Sense}
use Rattle.command_model.specs.PlainReply.{PlainReply, success}
use Rattle.command_model.specs.Inner.PlainReply.{good_data}
use Rattle.command_model.specs.Replies.{reply_of}
use Rattle.command_model.specs.Statuses.{good}
use Rattle.command_model.specs.Waiting.{flushes}
use Rattle.unit_model.specs.Flushing.{IsFlushed}
use Rattle.command_model.specs.Facts.{Facts}
use Rattle.request_intake.specs.declared.attribute.TaskAttribute.{TaskAttribute}
use Rattle.request_intake.specs.declared.attribute.TaskAttribute.TheVariants.{Simple, Ordered, HeadOfQueue}
use Rattle.unit_model.specs.Tasks.{Entry, blocks, is_blocked}
use Rattle.unit_model.specs.Steps.{Step, next_number}
use Rattle.unit_model.specs.Enabling.{enabled}
use Rattle.unit_model.specs.Seen.{Seen, finished, freed}
use Rattle.unit_model.specs.Base.{most_before}
use Rattle.command_model.specs.Effects.{block_after, given}
use Rattle.unit_model.specs.Contents.{Opening, capacity_of, facts_after, reply_after, oldest}
use Rattle.unit_model.specs.Lawful.{IsReady}
use Rattle.unit_model.specs.Endings.{Ending}
use Rattle.unit_model.specs.Receipts.{unit_address}
use Rattle.unit_model.proofs.Tickets.{itself}
use Rattle.scsi_codec.specs.declared.lun.Address.{Address}
use Rattle.unit_model.specs.Jobs.{PlainJob}
use Rattle.task_set.specs.Tasks.{PlainTask, parked_of}
use Rattle.task_set.specs.Inner.Tasks.{entries_of, moved, without, task_at, entering, run_at_once}
use Rattle.task_set.proofs.Entering.{blocked_last}
use Rattle.logical_unit.specs.Inner.Calls.{writes_through}
use Rattle.logical_unit.specs.Calls.{Enters}
use Rattle.logical_unit.specs.Endings.{ending_of, ending_of_run}
use Rattle.logical_unit.specs.Changes.{PlainChanges}
use Rattle.logical_unit.specs.Inner.Noting.{Notes, AreRecorded}
use Rattle.logical_unit.specs.Inner.Parts.{AreKept, AreClear, AreBased}
use Rattle.logical_unit.specs.Inner.Performing.{PlainPerformed, Performs, Ran, step_for, taken, told, unkept, ran_well}
use Rattle.logical_unit.specs.Inner.Outcomes.{outcome_for}
use Rattle.logical_unit.specs.Serving.{ServesAlone}
use Rattle.unit_model.specs.Unit.{Steps}
use Rattle.logical_unit.specs.declared.outcomes.Entered.TheVariants as entered
use Rattle.logical_unit.proofs.Basing.{based_way, based_on, ran_folds}
use Rattle.logical_unit.proofs.Through.{off_withheld, ran_commits}
use Rattle.logical_unit.proofs.Committing.{is_of, keep_run, commits_run, performed_comes}
use Rattle.logical_unit.proofs.Entering.{enters_task}
use Rattle.logical_unit.proofs.Keeping.{CameTo, is_ready, may_leave, keep_enter, keep_leave}
use Rattle.logical_unit.proofs.Losing.{none_met}
use Rattle.logical_unit.proofs.Noting.{recorded_on, recorded_run}
use Rattle.logical_unit.proofs.Stepping.{unit_with, steps_is}

-- nothing is a list of no length
pub no_tasks : (tasks : List PlainTask) → length tasks ≤ 0 → tasks ≡ []
no_tasks [] none = refl
no_tasks (x ∷ tasks) none = absurd (let k = none in omega (arith, k))

-- how a request ended, by its outcome
pub ends_as : (unit : Address) (place : ℕ) (t : Ticket) (ran : Result PlainReply NoMemory)
    → ending_of_run ran ≡ ending_of (outcome_for unit place t (unkept ran))
ends_as unit place t (Ok r) = refl
ends_as unit place t (Err e) = refl

-- nothing is taken where nothing is pending
none_taken : (command : Command) (pending : List Code) → oldest pending ≡ None → pending ≡ taken command pending
none_taken command [] none = elim (takes command) as (λ x. ◌≡◌ {A = List Code} [] (cond x [] [])) [
  | true ↦ refl
  | false ↦ refl
]
none_taken command (c ∷ later) none = absurd (cc)

abbrev with_moved : ℕ → List ℕ → PlainReply
with_moved moved bytes = record { status = good; sense = None; payload = bytes; moved = moved }

-- a READ whose data are taken from where they stand
pub ran_in_place : (facts facts' : UnitFacts) (capacity : ℕ) (command : Command) (out bytes : List ℕ) (r : PlainReply) (blocks : Blocks)
    (pending : List Code) → facts' ≡ told facts pending
    → reply_of (facts_of facts' capacity) command out blocks ≡ success command bytes
    → ((b : ℕ) → block_after command out good blocks b ≡ blocks b) → (need_of command).out ≡ 0 → facts'.pending ≡ None
    → r ≡ good_data bytes
    → Ran false (facts_of (told facts pending) capacity) command out (record { reply = r; kept = None }) blocks blocks pending pending
ran_in_place facts facts' capacity command out bytes r blocks pending is reply same sends calm noted =
    let moved : length bytes ≡ (need_of command).out + length bytes = omega (arith, sends) in
    let replied = subst (λ (f : UnitFacts). reply_of (facts_of f capacity) command out blocks ≡ success command bytes) is reply in
    record {
      reply = noted ∙ ap (λ n. with_moved n bytes) moved ∙ sym replied;
      kept = refl;
      stored = λ b. sym (ap (λ (w : PlainReply). block_after command out w.status blocks b) replied ∙ same b);
      pends = none_taken command pending (ap (λ (f : UnitFacts). f.pending) (sym is) ∙ calm);
    }

-- what a command reads is in memory where it is ready, and meets no attention
pub held_for : (held room : ℕ → Bool) (size : ℕ) (command : Command) (out : List ℕ) (facts facts' : UnitFacts) → facts' ≡ facts
    → (met command facts.pending ≡ None → IsFalse (protects facts command) → CommandReady held room size command out) → facts'.pending ≡ None
    → IsFalse (protects facts' command)
    → (b : ℕ) → IsTrue (is_read size command b) → IsTrue (held b)
held_for held room size command out facts facts' is ready calm free =
    (ready (none_met command facts.pending (sym (ap (λ (f : UnitFacts). f.pending) is) ∙ calm))
    (subst (λ (f : UnitFacts). IsFalse (protects f command)) is free)).read

by_none : (a : TaskAttribute) → blocks a [] [] ≡ false
by_none Simple = refl
by_none Ordered = refl
by_none HeadOfQueue = refl

-- a task that is alive alone isn't blocked
unblocked : (e : Entry) → is_blocked e (e ∷ []) ≡ false
unblocked e = blocked_last e [] refl ∙ by_none e.attribute

-- the task of a job, blocked or not, and done or not
abbrev task_of_job : ℕ → PlainJob → Bool → Bool → Bool → PlainTask
task_of_job place j blocked done well =
    record {
      seen = record { entry = j.entry; enabled = not blocked; done = done; ended_well = well; mark = None; place = place };
      parked = cond blocked (Some j) None;
    }

enters_so : (place : ℕ) (j : PlainJob) → entering place [] j ≡ task_of_job place j false false false
enters_so place j = ap (λ b. task_of_job place j b false false) (unblocked j.entry)

or_false : (b : Bool) → (b || false) ≡ b
or_false true = refl
or_false false = refl

ends_so : (place : ℕ) (j : PlainJob) (well : Bool)
    → map (moved (finished j.entry.ticket well)) (task_of_job place j false false false ∷ []) ≡ task_of_job place j false true well ∷ []
ends_so place j well =
    ap (λ b. task_of_job place j false (b || false) ((b && well) || false) ∷ []) (itself j.entry.ticket)
    ∙ ap (λ b. task_of_job place j false true b ∷ []) (or_false well)

is_found : (place : ℕ) (j : PlainJob) (done well : Bool)
    → task_at j.entry.ticket (task_of_job place j false done well ∷ []) ≡ Some (task_of_job place j false done well)
is_found place j done well = ap (λ b. cond b (Some (task_of_job place j false done well)) None) (itself j.entry.ticket)

is_gone : (place : ℕ) (j : PlainJob) (well : Bool) → without j.entry.ticket (task_of_job place j false true well ∷ []) ≡ []
is_gone place j well = ap (λ b. cond b [] (task_of_job place j false true well ∷ [])) (itself j.entry.ticket)

module _ (o : Opening) (past : List Step) (block_at : Blocks) (pending : List Code) (last_tickets : List (Option ℕ)) (room : ℕ)
    (k : AreKept o past block_at pending [] last_tickets room) (j : PlainJob) (last_tickets' : List (Option ℕ))
    (le : next_number j.entry.ticket.queue past ≤ j.entry.ticket.number) (came : CameTo j.entry.ticket last_tickets last_tickets') where
  -- its task entered
  pub kept_entered : (room' : ℕ) → 128 ≤ room'
      → AreKept o (Step.Enter j.entry ∷ past) block_at pending (task_of_job (length past) j false false false ∷ []) last_tickets' room'
  kept_entered room' reserve =
      subst (λ x. AreKept o (Step.Enter j.entry ∷ past) block_at pending (x ∷ []) last_tickets' room') (enters_so (length past) j)
      (keep_enter k j last_tickets' room' (omega arith) le came reserve)

  module _ (room1 : ℕ) (reserve : 128 ≤ room1) (facts : Facts) (p : Option PlainPerformed) (block_at' : Blocks) (pending' : List Code)
      (as_told : facts ≡ facts_after o (Step.Enter j.entry ∷ past))
      (ran : Performs false facts j.entry.command j.entry.data_out p block_at block_at' pending pending') where
    ready : IsReady j.entry.ticket j.entry (Step.Enter j.entry ∷ past)
    ready = is_ready (kept_entered room1 reserve) j.entry.ticket (task_of_job (length past) j false false false)
        (is_found (length past) j false false) refl refl refl

    -- its command ran
    kept_ran : (room2 : ℕ) → room1 ≤ room2 + 1
        → AreKept o (step_for j.entry.ticket p ∷ Step.Enter j.entry ∷ past) block_at' pending'
        (task_of_job (length past) j false true (ran_well p) ∷ []) last_tickets' room2
    kept_ran room2 less =
        subst (λ ts. AreKept o (step_for j.entry.ticket p ∷ Step.Enter j.entry ∷ past) block_at' pending' ts last_tickets' room2)
        (ends_so (length past) j (ran_well p))
        (keep_run (kept_entered room1 reserve) j.entry.ticket j.entry false facts (IsLostIn None) p block_at' pending' room2 ready as_told
        (performed_comes false facts (IsLostIn None) j.entry.command j.entry.data_out p block_at block_at' pending pending' ran) less)

    -- it left
    pub kept_left : (room2 room3 : ℕ) → room1 ≤ room2 + 1 → room2 ≤ room3 + 1
        → AreKept o (Step.Leave j.entry.ticket ∷ step_for j.entry.ticket p ∷ Step.Enter j.entry ∷ past) block_at' pending' [] last_tickets' room3
    kept_left room2 room3 less fewer =
        subst (λ ts. AreKept o (Step.Leave j.entry.ticket ∷ step_for j.entry.ticket p ∷ Step.Enter j.entry ∷ past) block_at' pending'
        (map (moved (freed (entries_of ts))) ts) last_tickets' room3) (is_gone (length past) j (ran_well p))
        (keep_leave (kept_ran room2 less) j.entry.ticket (task_of_job (length past) j false true (ran_well p)) room3
        (is_found (length past) j true (ran_well p)) refl fewer)

    enters : (storage : Option Ledger) → j.address ≡ unit_address o
        → Enters (unit_with o past [] false storage) j (entered.Run j) (unit_with o (Step.Enter j.entry ∷ past) [] false storage)
    enters storage named =
        let run : Some j ≡ run_at_once [] j = sym (ap (λ b. cond b None (Some j)) (unblocked j.entry)) in
        subst (λ x. Enters (unit_with o past [] false storage) j (entered.Run j)
        (unit_with o (Step.Enter j.entry ∷ past) (parked_of (x ∷ [])) false storage)) (enters_so (length past) j)
        (enters_task k j (Some j) (length past) (Step.Enter j.entry ∷ past) false false storage named (omega arith) le run refl refl)

    leaves : (storage : Option Ledger) → Steps (unit_with o (step_for j.entry.ticket p ∷ Step.Enter j.entry ∷ past) [] false storage) (Step.Leave j.entry.ticket)
        (unit_with o (Step.Leave j.entry.ticket ∷ step_for j.entry.ticket p ∷ Step.Enter j.entry ∷ past) [] false storage)
    leaves storage =
        steps_is o (Step.Leave j.entry.ticket) (step_for j.entry.ticket p ∷ Step.Enter j.entry ∷ past) _ [] [] false false storage storage
        (may_leave (kept_ran room1 (omega arith)) j.entry.ticket (task_of_job (length past) j false true (ran_well p))
        (is_found (length past) j true (ran_well p)) refl) refl refl refl refl

    -- all of it
    pub serves : (storage : Option Ledger) (answers : Ending → Type 0) → j.address ≡ unit_address o
        → (enabled j.entry (Step.Enter j.entry ∷ past) ≡ true → (r : PlainReply)
        → r ≡ reply_after o j.entry (Step.Enter j.entry ∷ past) → r.status ≡ good → flushes j.entry.asks_medium j.entry.command ≡ true
        → IfSome storage (λ l. IsFlushed o (Step.Enter j.entry ∷ past) l j.entry))
        → writes_through (unit_with o past [] false storage) j.entry.asks_medium j.entry.command ≡ false
        → answers (ending_of (outcome_for (unit_address o) (length (Step.Enter j.entry ∷ past)) j.entry.ticket p))
        → j.chain.ticket ≡ j.entry.ticket
        → ServesAlone answers (unit_with o past [] false storage) j
        (unit_with o (Step.Leave j.entry.ticket ∷ step_for j.entry.ticket p ∷ Step.Enter j.entry ∷ past) [] false storage)
    serves storage answers named durable off answered own =
        record {
          once_entered = unit_with o (Step.Enter j.entry ∷ past) [] false storage;
          once_run = unit_with o (step_for j.entry.ticket p ∷ Step.Enter j.entry ∷ past) [] false storage;
          outcome = outcome_for (unit_address o) (length (Step.Enter j.entry ∷ past)) j.entry.ticket p;
          enters = enters storage named;
          commits = ran_commits (unit_with o (Step.Enter j.entry ∷ past) [] false storage) j _ _ off (commits_run (kept_entered room1 reserve) j j.entry false storage storage facts p block_at' pending' refl
              (is_of (kept_entered room1 reserve) j (task_of_job (length past) j false false false) (is_found (length past) j false false) refl)
              ready as_told (performed_comes false facts (IsLostIn storage) j.entry.command j.entry.data_out p block_at block_at' pending pending' ran) (durable ready.is_enabled)) (off_withheld (unit_with o (Step.Enter j.entry ∷ past) [] false storage) j off);
          answered = answered;
          leaves = subst (λ t. Steps (unit_with o (step_for j.entry.ticket p ∷ Step.Enter j.entry ∷ past) [] false storage) (Step.Leave t)
              (unit_with o (Step.Leave j.entry.ticket ∷ step_for j.entry.ticket p ∷ Step.Enter j.entry ∷ past) [] false storage))
              (sym own) (leaves storage);
          alone = refl;
        }

-- the steps of all of it
pub all_steps : (t t1 : Ticket) (e e1 : Entry) (p : Option PlainPerformed) (run : Step) (s0 s1 s2 : List Step) → s1 ≡ s0
    → s2 ≡ Step.Leave t1 ∷ run ∷ Step.Enter e1 ∷ s1 → e1 ≡ e → run ≡ step_for t1 p → t1 ≡ t
    → s2 ≡ Step.Leave t ∷ step_for t p ∷ Step.Enter e ∷ s0
all_steps t t1 e e1 p run s0 s1 s2 a b c d f =
    b ∙ ap (λ n. Step.Leave n ∷ run ∷ Step.Enter e1 ∷ s1) f
    ∙ ap (λ w. Step.Leave t ∷ w ∷ Step.Enter e1 ∷ s1) (d ∙ ap (λ n. step_for n p) f)
    ∙ ap (λ x. Step.Leave t ∷ step_for t p ∷ Step.Enter x ∷ s1) c
    ∙ ap (λ w. Step.Leave t ∷ step_for t p ∷ Step.Enter e ∷ w) a

-- and what is folded of them
pub based_served : (base n n' : ℕ) (t : Ticket) (p : Option PlainPerformed) (e : Entry) (past steps' : List Step) (tasks : List Seen)
    → base ≡ length past - most_before → n' ≡ n → steps' ≡ Step.Leave t ∷ step_for t p ∷ Step.Enter e ∷ past
    → AreClear n past tasks → AreBased base n' steps' tasks
based_served base n n' t p e past steps' tasks is same steps clear =
    let entered = based_way base n n' (Step.Enter e) past (Step.Enter e ∷ past) tasks tasks refl is same refl (λ le b. b) clear in
    let ran = based_on base base n' n' (step_for t p) (Step.Enter e ∷ past) (step_for t p ∷ Step.Enter e ∷ past) tasks tasks
    entered (ran_folds t p) refl refl refl (λ b. b) in
    based_on base base n' n' (Step.Leave t) (step_for t p ∷ Step.Enter e ∷ past) steps' tasks tasks ran refl refl refl steps (λ b. b)

-- the same of a unit with its tasks, of which there are none
module _ (o : Opening) (past : List Step) (block_at : Blocks) (pending : List Code) (tasks : List PlainTask)
    (last_tickets : List (Option ℕ)) (room : ℕ) (k : AreKept o past block_at pending tasks last_tickets room) (none : tasks ≡ [])
    (j : PlainJob) (last_tickets' : List (Option ℕ)) (le : next_number j.entry.ticket.queue past ≤ j.entry.ticket.number)
    (came : CameTo j.entry.ticket last_tickets last_tickets') (room1 : ℕ) (reserve : 128 ≤ room1) (facts : Facts) (p : Option PlainPerformed)
    (block_at' : Blocks) (pending' : List Code) (as_told : facts ≡ facts_after o (Step.Enter j.entry ∷ past))
    (ran : Performs false facts j.entry.command j.entry.data_out p block_at block_at' pending pending') (steps' : List Step)
    (is : steps' ≡ Step.Leave j.entry.ticket ∷ step_for j.entry.ticket p ∷ Step.Enter j.entry ∷ past) where
  kept_none : AreKept o past block_at pending [] last_tickets room
  kept_none = subst (λ ts. AreKept o past block_at pending ts last_tickets room) none k

  pub kept_served : (room2 room3 : ℕ) → room1 ≤ room2 + 1 → room2 ≤ room3 + 1
      → AreKept o steps' block_at' pending' tasks last_tickets' room3
  kept_served room2 room3 less fewer =
      subst (λ ts. AreKept o steps' block_at' pending' ts last_tickets' room3) (sym none)
      (subst (λ ss. AreKept o ss block_at' pending' [] last_tickets' room3) (sym is)
      (kept_left o past block_at pending last_tickets room kept_none j last_tickets' le came room1 reserve facts p block_at' pending' as_told ran
      room2 room3 less fewer))

  pub recorded_served : (capacity place : ℕ) (c c' : PlainChanges) → AreRecorded o past c → place ≡ length past + 1
      → ((blocks : Blocks) → Notes (λ b. is_some (given j.entry.command j.entry.data_out b (blocks b))) capacity place c c') → capacity ≡ capacity_of o past
      → AreRecorded o steps' c'
  recorded_served capacity place c c' noted behind n size =
      let t = j.entry.ticket in
      let is_place : place ≡ length (Step.Enter j.entry ∷ past) = omega (arith, behind) in
      let notes = subst (λ k. (blocks : Blocks) → Notes (λ b. is_some (given j.entry.command j.entry.data_out b (blocks b))) capacity k c c') is_place n in
      let entered = recorded_on o (Step.Enter j.entry) past _ c noted (λ b below out. (below, refl)) refl in
      let there = (ready o past block_at pending last_tickets room kept_none j last_tickets' le came room1 reserve facts p block_at' pending' as_told ran).is_there in
      let ran' = recorded_run o t j.entry p (Step.Enter j.entry ∷ past) _ capacity c c' entered there notes size refl in
      recorded_on o (Step.Leave t) (step_for t p ∷ Step.Enter j.entry ∷ past) steps' c' ran' (λ b below out. (below, refl)) is

  pub serves_alone : (answers : Ending → Type 0) (keeps keeps' : Bool) (storage storage' : Option Ledger) → storage' ≡ storage → j.address ≡ unit_address o → keeps ≡ false → keeps' ≡ false
      → answers (ending_of (outcome_for (unit_address o) (length (Step.Enter j.entry ∷ past)) j.entry.ticket p))
      → j.chain.ticket ≡ j.entry.ticket
      → (enabled j.entry (Step.Enter j.entry ∷ past) ≡ true → (r : PlainReply)
      → r ≡ reply_after o j.entry (Step.Enter j.entry ∷ past) → r.status ≡ good → flushes j.entry.asks_medium j.entry.command ≡ true
      → IfSome storage (λ l. IsFlushed o (Step.Enter j.entry ∷ past) l j.entry))
      → writes_through (unit_with o past [] false storage) j.entry.asks_medium j.entry.command ≡ false
      → ServesAlone answers (unit_with o past (parked_of tasks) keeps storage) j (unit_with o steps' (parked_of tasks) keeps' storage')
  serves_alone answers keeps keeps' storage storage' kind named a b answered own durable off =
      subst (λ x. ServesAlone answers (unit_with o past (parked_of tasks) keeps storage) j (unit_with o steps' (parked_of tasks) keeps' x)) (sym kind)
      (subst (λ x. ServesAlone answers (unit_with o past (parked_of tasks) x storage) j (unit_with o steps' (parked_of tasks) keeps' storage)) (sym a)
      (subst (λ x. ServesAlone answers (unit_with o past (parked_of tasks) false storage) j (unit_with o steps' (parked_of tasks) x storage)) (sym b)
      (subst (λ ts. ServesAlone answers (unit_with o past (parked_of ts) false storage) j (unit_with o steps' (parked_of ts) false storage)) (sym none)
      (subst (λ ss. ServesAlone answers (unit_with o past [] false storage) j (unit_with o ss [] false storage)) (sym is)
      (serves o past block_at pending last_tickets room kept_none j last_tickets' le came room1 reserve facts p block_at' pending' as_told ran
      storage answers named durable off answered own)))))
