-- What a unit answers to a job that is committed, and what its parts are then.
use Rattle.std.proofs.Common.{◌≡◌, ◌⊎◌, ℕ, ◌+◌, ◌≤◌, ◌||◌, ◌&&◌, Bool, inl, inr, List, ◌∷◌, map, length, Option, Some, None, is_some, IfSome, IsTrue, true, false, refl, sym, ◌∙◌, ap, subst}
use Rattle.ring_core.specs.declared.log.Ticket.{Ticket}
use Rattle.block_store.specs.Blocks.{Blocks}
use Rattle.block_store.specs.Storage.{Ledger, IsLostIn, IsDeniedIn}
use Rattle.unit_attention.specs.declared.code.Code.{Code}
use Rattle.command_model.specs.PlainReply.{PlainReply}
use Rattle.command_model.specs.Effects.{block_after}
use Rattle.command_model.specs.Facts.{Facts}
use Rattle.command_model.specs.Failing.{IsUnread, IsUnwritten}
use Rattle.command_model.specs.Replies.{reply_of}
use Rattle.unit_model.specs.declared.reason.Reason.{Reason}
use Rattle.unit_model.specs.Tasks.{Entry, task_of}
use Rattle.unit_model.specs.Steps.{Step, alive, done}
use Rattle.unit_model.specs.Marks.{mark_of}
use Rattle.unit_model.specs.Seen.{Seen, seen, finished}
use Rattle.unit_model.specs.Contents.{Opening, capacity_of, facts_after, reply_after, MayReply}
use Rattle.unit_model.specs.Lawful.{IsReady}
use Rattle.unit_model.specs.Receipts.{unit_address, receipt_of}
use Rattle.unit_model.specs.Jobs.{PlainJob}
use Rattle.task_set.specs.Tasks.{PlainTask, parked_of}
use Rattle.task_set.specs.Inner.Tasks.{moved, task_at}
use Rattle.unit_model.specs.Asking.{IsOf, asked_of, CannotCommit}
use Rattle.command_model.specs.Waiting.{flushes, waits_at}
use Rattle.command_model.specs.Statuses.{good}
use Rattle.unit_model.specs.Flushing.{IsFlushed}
use Rattle.logical_unit.specs.Calls.{Waits}
use Rattle.logical_unit.specs.Inner.Calls.{Runs}
use Rattle.logical_unit.specs.Inner.Parts.{AreKept}
use Rattle.command_model.specs.Memory.{may_run_short}
use Rattle.cdb.specs.declared.commands.Command.{Command}
use Rattle.logical_unit.specs.Inner.Performing.{PlainPerformed, Performs, Comes, Ran, RanUnread, RanUnwritten, ran_well, step_for, taken}
use Rattle.logical_unit.specs.Inner.Outcomes.{outcome_for}
use Rattle.logical_unit.specs.Inner.Turns.{Turns}
use Rattle.logical_unit.specs.declared.turn.Turn.TheVariants as turn
use Rattle.logical_unit.proofs.Entering.{same_unit}
use Rattle.logical_unit.proofs.Keeping.{is_ready, task_at_alive, task_at_none, ticket_at, replies_after, may_commit, may_busy, keep_commit, keep_busy}
use Rattle.logical_unit.proofs.Handing.{parked_commit, parked_busy}

pub or-left : (a b : Bool) → a ≡ true → (a || b) ≡ true
or-left true b is = refl
or-left false b is = let never : false ≡ true = is in cc

pub or-right : (a b : Bool) → b ≡ true → (a || b) ≡ true
or-right true b is = refl
or-right false b is = is

both : (a b : Bool) → a ≡ true → b ≡ true → (a && b) ≡ true
both true b is also = also
both false b is also = is

-- a task that may do nothing, by what is kept of it
cannot : (s : Seen) (j : PlainJob) (past : List Step) → s ≡ seen past s.entry → Turns s j turn.Unknown → CannotCommit (Some s.entry) j past
cannot s j past is (inl other) = inl other
cannot s j past is (inr (inl done)) = inr (inl (sym (ap (λ (x : Seen). x.done) is) ∙ done))
cannot s j past is (inr (inr waits)) = inr (inr (sym (ap (λ (x : Seen). is_some x.mark) is) ∙ ap (λ m. is_some m) waits.0, sym (ap (λ (x : Seen). x.enabled) is) ∙ waits.1))

with_durable : {A B C D : Type 0} → A ⊎ B → (A → C) → (A × C) ⊎ (B ⊎ D)
with_durable (inl a) c = inl (a, c a)
with_durable (inr b) c = inr (inl b)

-- a command that was performed came so
pub performed_comes : (keeps : Bool) (facts : Facts) (lost : ℕ → Type 0) (command : Command) (bytes : List ℕ) (p : Option PlainPerformed)
    (blocks blocks' : Blocks) (pending pending' : List Code) → Performs keeps facts command bytes p blocks blocks' pending pending'
    → Comes keeps facts lost command bytes p blocks blocks' pending pending'
performed_comes keeps facts lost command bytes None blocks blocks' pending pending' short = short
performed_comes keeps facts lost command bytes (Some p) blocks blocks' pending pending' ran = inl ran

-- a reply that the medium can't be read changes no block
unread_stores : (facts : Facts) (command : Command) (bytes out : List ℕ) (page : ℕ) (r : PlainReply) (blocks : Blocks) (b : ℕ)
    → IsUnread facts command bytes page r → blocks b ≡ block_after command out r.status blocks b
unread_stores facts command bytes out page r blocks b unread =
    sym (ap (λ (w : PlainReply). block_after command out w.status blocks b) unread.is)

-- what came of a command that ran, or needs what is lost: its data are in place
came_stored : (keeps : Bool) (facts : Facts) (lost : ℕ → Type 0) (command : Command) (bytes : List ℕ) (p : PlainPerformed)
    (blocks blocks' : Blocks) (pending pending' : List Code) → Comes keeps facts lost command bytes (Some p) blocks blocks' pending pending'
    → (b : ℕ) → blocks' b ≡ block_after command bytes p.reply.status blocks b
came_stored keeps facts lost command bytes p blocks blocks' pending pending' (inl ran) b =
    ran.stored b ∙ ap (λ (r : PlainReply). block_after command bytes r.status blocks b) (sym ran.reply)
came_stored keeps facts lost command bytes p blocks blocks' pending pending' (inr ran) b =
    ran.stored b ∙ unread_stores facts command bytes bytes ran.page p.reply blocks b ran.unread

came_pends : (keeps : Bool) (facts : Facts) (lost : ℕ → Type 0) (command : Command) (bytes : List ℕ) (p : PlainPerformed)
    (blocks blocks' : Blocks) (pending pending' : List Code) → Comes keeps facts lost command bytes (Some p) blocks blocks' pending pending'
    → pending' ≡ taken command pending
came_pends keeps facts lost command bytes p blocks blocks' pending pending' (inl ran) = ran.pends
came_pends keeps facts lost command bytes p blocks blocks' pending pending' (inr ran) = ran.pends

module _ {o : Opening} {past : List Step} {block_at : Blocks} {pending : List Code} {tasks : List PlainTask} {last_tickets : List (Option ℕ)} {room : ℕ}
    (k : AreKept o past block_at pending tasks last_tickets room) where
  pub cannot_none : (j : PlainJob) → task_at j.entry.ticket tasks ≡ None → CannotCommit (task_of j.entry.ticket (alive past)) j past
  cannot_none j at = subst (λ x. CannotCommit x j past) (sym (task_at_none k j.entry.ticket at)) tt

  pub cannot_turn : (j : PlainJob) (x : PlainTask) → task_at j.entry.ticket tasks ≡ Some x → Turns x.seen j turn.Unknown
      → CannotCommit (task_of j.entry.ticket (alive past)) j past
  cannot_turn j x at turns =
      subst (λ y. CannotCommit y j past) (sym (task_at_alive k j.entry.ticket x at).0) (cannot x.seen j past (task_at_alive k j.entry.ticket x at).1 turns)

  pub is_of : (j : PlainJob) (x : PlainTask) → task_at j.entry.ticket tasks ≡ Some x → asked_of x.seen.entry ≡ asked_of j.entry → IsOf j x.seen.entry past
  is_of j x at asked = record { is_there = (task_at_alive k j.entry.ticket x at).0; as_asked = asked }

  pub is_aborted : (t : Ticket) (x : PlainTask) (reason : Reason) → task_at t tasks ≡ Some x → x.seen.mark ≡ Some reason → mark_of t past ≡ Some reason
  is_aborted t x reason at mark =
      ap (λ n. mark_of n past) (ticket_at k t x at) ∙ sym (ap (λ (s : Seen). s.mark) (task_at_alive k t x at).1) ∙ mark

  -- its command may run, on a disk whose pages come and go: it waits
  pub waits_for : (j : PlainJob) (x : PlainTask) (keeps : Bool) (storage storage' : Option Ledger) → task_at j.entry.ticket tasks ≡ Some x → Turns x.seen j turn.Ready
      → is_some storage ≡ true → waits_at (capacity_of o past) x.seen.entry.asks_medium x.seen.entry.command ≡ true → storage' ≡ storage
      → Waits (record { opening = o; steps = past; parked = parked_of tasks; keeps_replies = keeps; storage = storage }) j
      (record { opening = o; steps = past; parked = parked_of tasks; keeps_replies = keeps; storage = storage' })
  waits_for j x keeps storage storage' at turns on cause kind =
      record {
        entry = x.seen.entry;
        of = is_of j x at turns.0;
        waits = inl (is_ready k j.entry.ticket x at turns.1 turns.2 turns.3, both _ _ on (or-left _ _ cause));
        same = same_unit o past past _ _ keeps keeps storage storage' refl refl refl kind;
      }

  ran_reply : (e : Entry) (facts : Facts) → facts ≡ facts_after o past → reply_of facts e.command e.data_out block_at ≡ reply_after o e past
  ran_reply e facts as_told = ap (λ f. reply_of f e.command e.data_out block_at) as_told ∙ replies_after k e

  -- the reply is that of the history, or that the medium can't be read
  came_replied : (e : Entry) (keeps : Bool) (facts : Facts) (lost : ℕ → Type 0) (p : PlainPerformed) (block_at' : Blocks) (pending' : List Code)
      → facts ≡ facts_after o past → Comes keeps facts lost e.command e.data_out (Some p) block_at block_at' pending pending'
      → (p.reply ≡ reply_after o e past) ⊎ ((page : ℕ) × IsUnread (facts_after o past) e.command e.data_out page p.reply × lost page)
  came_replied e keeps facts lost p block_at' pending' as_told (inl ran) = inl (ran.reply ∙ ran_reply e facts as_told)
  came_replied e keeps facts lost p block_at' pending' as_told (inr ran) =
      inr (ran.page, subst (λ f. IsUnread f e.command e.data_out ran.page p.reply) as_told ran.unread, ran.is_lost)

  may_reply : (e : Entry) (lost : ℕ → Type 0) (r : PlainReply)
      → (r ≡ reply_after o e past) ⊎ ((page : ℕ) × IsUnread (facts_after o past) e.command e.data_out page r × lost page) → MayReply o e past r
  may_reply e lost r (inl is) = inl is
  may_reply e lost r (inr (page, unread, is_lost)) = inr (inl (page, unread))

  -- the parts once a command ran, or was refused memory
  pub keep_run : (t : Ticket) (e : Entry) (keeps : Bool) (facts : Facts) (lost : ℕ → Type 0) (p : Option PlainPerformed) (block_at' : Blocks) (pending' : List Code) (room' : ℕ)
      → IsReady t e past → facts ≡ facts_after o past → Comes keeps facts lost e.command e.data_out p block_at block_at' pending pending' → room ≤ room' + 1
      → AreKept o (step_for t p ∷ past) block_at' pending' (map (moved (finished t (ran_well p))) tasks) last_tickets room'
  keep_run t e keeps facts lost None block_at' pending' room' ready as_told short reserve = keep_busy k t e block_at' pending' room' ready short.stored short.pends reserve
  keep_run t e keeps facts lost (Some p) block_at' pending' room' ready as_told ran reserve =
      keep_commit k t e p.reply block_at' pending' room' ready
      (may_reply e lost p.reply (came_replied e keeps facts lost p block_at' pending' as_told ran))
      (came_stored keeps facts lost e.command e.data_out p block_at block_at' pending pending' ran)
      (came_pends keeps facts lost e.command e.data_out p block_at block_at' pending pending' ran) reserve

  -- the same of a flush of what can't be written
  unwritten_stores : (e : Entry) (facts : Facts) (page : ℕ) (r : PlainReply) (b : ℕ) → IsUnwritten facts e.asks_medium e.command page r
      → block_at b ≡ block_after e.command e.data_out r.status block_at b
  unwritten_stores e facts page r b unwritten = sym (ap (λ (w : PlainReply). block_after e.command e.data_out w.status block_at b) unwritten.is)

  pub keep_unwritten : (t : Ticket) (e : Entry) (keeps : Bool) (facts : Facts) (denied : ℕ → Type 0) (p : PlainPerformed) (block_at' : Blocks) (pending' : List Code) (room' : ℕ)
      → IsReady t e past → facts ≡ facts_after o past → RanUnwritten keeps facts e.asks_medium denied e.command p block_at block_at' pending pending' → room ≤ room' + 1
      → AreKept o (step_for t (Some p) ∷ past) block_at' pending' (map (moved (finished t (ran_well (Some p)))) tasks) last_tickets room'
  keep_unwritten t e keeps facts denied p block_at' pending' room' ready as_told ran reserve =
      keep_commit k t e p.reply block_at' pending' room' ready
      (inr (inr (ran.page, subst (λ f. IsUnwritten f e.asks_medium e.command ran.page p.reply) as_told ran.unwritten)))
      (λ b. ran.stored b ∙ unwritten_stores e facts ran.page p.reply b ran.unwritten) ran.pends reserve

  pub commits_unwritten : (j : PlainJob) (e : Entry) (keeps : Bool) (storage storage' : Option Ledger) (facts : Facts) (p : PlainPerformed) (block_at' : Blocks) (pending' : List Code)
      → storage' ≡ storage → IsOf j e past → IsReady j.entry.ticket e past → facts ≡ facts_after o past
      → RanUnwritten keeps facts e.asks_medium (IsDeniedIn storage) e.command p block_at block_at' pending pending'
      → Runs (record { opening = o; steps = past; parked = parked_of tasks; keeps_replies = keeps; storage = storage }) j
      (outcome_for (unit_address o) (length past) j.entry.ticket (Some p))
      (record { opening = o; steps = step_for j.entry.ticket (Some p) ∷ past; parked = parked_of (map (moved (finished j.entry.ticket (ran_well (Some p)))) tasks); keeps_replies = keeps; storage = storage' })
  commits_unwritten j e keeps storage storage' facts p block_at' pending' kind of ready as_told ran =
      let unwritten = subst (λ f. IsUnwritten f e.asks_medium e.command ran.page p.reply) as_told ran.unwritten in (
        e,
        of,
        ready,
        p.reply,
        inr (inr (ran.page, unwritten, ran.is_denied)),
        refl,
        record {
          may = may_commit k j.entry.ticket e p.reply ready (inr (inr (ran.page, unwritten)));
          is = same_unit o _ _ _ _ keeps keeps storage storage' refl
              (parked_commit o past block_at pending tasks last_tickets room j.entry.ticket p.reply k) refl kind;
        },
      )

  -- and what is answered; a flush only once the storage has what it promises
  pub commits_run : (j : PlainJob) (e : Entry) (keeps : Bool) (storage storage' : Option Ledger) (facts : Facts) (p : Option PlainPerformed) (block_at' : Blocks) (pending' : List Code)
      → storage' ≡ storage → IsOf j e past → IsReady j.entry.ticket e past → facts ≡ facts_after o past
      → Comes keeps facts (IsLostIn storage) e.command e.data_out p block_at block_at' pending pending'
      → ((r : PlainReply) → r ≡ reply_after o e past → r.status ≡ good → flushes e.asks_medium e.command ≡ true
      → IfSome storage (λ l. IsFlushed o past l e))
      → Runs (record { opening = o; steps = past; parked = parked_of tasks; keeps_replies = keeps; storage = storage }) j
      (outcome_for (unit_address o) (length past) j.entry.ticket p)
      (record { opening = o; steps = step_for j.entry.ticket p ∷ past; parked = parked_of (map (moved (finished j.entry.ticket (ran_well p))) tasks); keeps_replies = keeps; storage = storage' })
  commits_run j e keeps storage storage' facts None block_at' pending' kind of ready as_told short durable = (
    e,
    of,
    subst (λ f. IsTrue (may_run_short keeps f e.command)) as_told short.want,
    record {
      may = may_busy k j.entry.ticket e ready;
      is = same_unit o _ _ _ _ keeps keeps storage storage' refl (parked_busy o past block_at pending tasks last_tickets room j.entry.ticket k) refl kind;
    },
  )
  commits_run j e keeps storage storage' facts (Some p) block_at' pending' kind of ready as_told ran durable =
      let replied = came_replied e keeps facts (IsLostIn storage) p block_at' pending' as_told ran in (
        e,
        of,
        ready,
        p.reply,
        with_durable replied (durable p.reply),
        refl,
        record {
          may = may_commit k j.entry.ticket e p.reply ready (may_reply e (IsLostIn storage) p.reply replied);
          is = same_unit o _ _ _ _ keeps keeps storage storage' refl
              (parked_commit o past block_at pending tasks last_tickets room j.entry.ticket p.reply k) refl kind;
        },
      )
