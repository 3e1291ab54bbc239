-- What the parts of a unit are after each of its steps.
use Rattle.std.proofs.Common.{◌≡◌, ◌==◌, ℕ, ◌+◌, ◌<◌, ◌≤◌, min, nat_lt, Bool, true, false, ◌||◌, eqb, cond, List, [], ◌∷◌, ◌++◌, map, length, Option, Some, None, is_some, refl, sym, ◌∙◌, ap, subst, arith}
use Rattle.std.specs.Option.{option_map}
use Rattle.ring_core.specs.declared.log.Ticket.{Ticket}
use Rattle.sense.specs.declared.Sense.{Sense}
use Rattle.block_store.specs.Blocks.{Blocks, zero_block}
use Rattle.block_store.specs.Pages.{blocks_in}
use Rattle.unit_attention.specs.declared.code.Code.{Code}
use Rattle.unit_attention.specs.Pending.{raised}
use Rattle.cdb.specs.declared.commands.Command.{Command}
use Rattle.cdb.specs.declared.profile.Profile.{Profile}
use Rattle.command_model.specs.declared.identity.Identity.{Identity}
use Rattle.command_model.specs.PlainReply.{PlainReply, replied, sent_in}
use Rattle.command_model.specs.Attention.{met}
use Rattle.command_model.specs.Effects.{block_after}
use Rattle.command_model.specs.Facts.{Facts}
use Rattle.block_commands.specs.Inner.Told.{facts_of}
use Rattle.block_commands.specs.declared.facts.UnitFacts.{UnitFacts}
use Rattle.command_model.specs.Replies.{format_told, permitted, reply_of, reported}
use Rattle.block_commands.proofs.Ranges.{answer_of-agree}
use Rattle.unit_model.specs.declared.rule.Rule.{Rule}
use Rattle.unit_model.specs.declared.rule.Rule.TheVariants as rules
use Rattle.unit_model.specs.declared.reason.Reason.TheVariants as reason
use Rattle.unit_model.specs.Tasks.{Entry, task_of, is_blocked}
use Rattle.unit_model.specs.Steps.{Step, alive, done, next_number}
use Rattle.unit_model.specs.Marks.{marked}
use Rattle.unit_model.specs.Enabling.{enabled}
use Rattle.command_model.specs.Statuses.{good}
use Rattle.unit_model.specs.Seen.{Seen, seen, tasks_of, entries, seen_at, others, joined, finished, with_mark, freed, owed}
use Rattle.unit_model.specs.Contents.{Opening, is_capacity, capacity_of, capacity_changed, blocks_of, block_with, pending_at_start, pending_of, taken_by, oldest, facts_after, reply_after, MayReply}
use Rattle.unit_model.specs.Lawful.{IsReady, May, IsLawful}
use Rattle.unit_model.proofs.Fresh as never
use Rattle.unit_model.proofs.Few.{alive_few}
use Rattle.unit_model.proofs.Leaving.{task_ticket}
use Rattle.unit_model.proofs.Kept.{entries_tasks, length_tasks, seen_at_tasks, seen_is}
use Rattle.unit_model.proofs.Keeping.{tasks_enter, tasks_full, tasks_resize, tasks_commit, tasks_busy, tasks_abort, tasks_reset, tasks_leave}
use Rattle.unit_model.proofs.Owing.{owed_some, alive_owed, commit_owed, busy_owed, leave_owed}
use Rattle.unit_model.specs.Jobs.{PlainJob}
use Rattle.task_set.specs.Tasks.{PlainTask}
use Rattle.task_set.specs.Inner.Tasks.{seen_of, entries_of, moved, without, task_at, entering}
use Rattle.unit_log.specs.Inner.LastTickets.{floor_kept}
use Rattle.logical_unit.specs.Inner.Parts.{AreKept}
use Rattle.logical_unit.specs.Inner.Performing.{taken, told}
use Rattle.logical_unit.proofs.KeepingSet.{entries_seen, length_seen, seen_task, seen_without, seen_moved, seen_push, finished_waits, with_mark_waits, freed_waits, fit_moved, fit_without, fit_entering}

pub keep_new : (o : Opening) (block_at : Blocks) (pending : List Code) (last_tickets : List (Option ℕ)) (room : ℕ)
    → pending ≡ pending_at_start o.calm → ((b : ℕ) → block_at b ≡ blocks_in o.content b) → ((q : ℕ) → floor_kept last_tickets q ≡ 0)
    → AreKept o [] block_at pending [] last_tickets room
keep_new o block_at pending last_tickets room pends stored floors =
    record { lawful = tt; stored = stored; pends = pends; set = refl; fit = tt; floors = floors; reserved = omega arith }

-- which floors there are once a ticket came
abbrev pub CameTo : Ticket → List (Option ℕ) → List (Option ℕ) → Type 0
CameTo t last_tickets last_tickets' = (q : ℕ) → floor_kept last_tickets' q ≡ cond (eqb t.queue q) (t.number + 1) (floor_kept last_tickets q)

none_by : (x : Option Entry) (past : List Step) → option_map (seen past) x ≡ None → x ≡ None
none_by None past h = refl
none_by (Some e) past h = absurd (cc)

after_same : (command : Command) (bytes : List ℕ) (code : ℕ) (f g : Blocks) (b : ℕ) → f b ≡ g b → block_after command bytes code f b ≡ block_after command bytes code g b
after_same command bytes code f g b same =
    ap (λ (x : List ℕ). block_after command bytes code (λ n. x) b) same

same_facts : (target target' lun lun' : ℕ) (luns luns' : List ℕ) (size size' : ℕ) (first first' : Option Sense)
    (profile profile' : Profile) (identity identity' : Identity) (backed backed' : Bool)
    → target ≡ target' → lun ≡ lun' → luns ≡ luns' → size ≡ size' → first ≡ first' → profile ≡ profile' → identity ≡ identity' → backed ≡ backed'
    → let f : Facts = record { target = target; lun = lun; luns = luns; capacity = size; pending = first; profile = profile; identity = identity; backed = backed } in
    let g : Facts = record { target = target'; lun = lun'; luns = luns'; capacity = size'; pending = first'; profile = profile'; identity = identity'; backed = backed' } in f ≡ g
same_facts target target' lun lun' luns luns' size size' first first' profile profile' identity identity' backed backed' a b c d e h i j = cc

-- Of a unit whose parts are what its history says:
module _ {o : Opening} {past : List Step} {block_at : Blocks} {pending : List Code} {tasks : List PlainTask} {last_tickets : List (Option ℕ)} {room : ℕ}
    (k : AreKept o past block_at pending tasks last_tickets room) where
  pub length_alive : length tasks ≡ length (alive past)
  length_alive = sym (length_seen tasks) ∙ ap length k.set ∙ length_tasks past

  pub few : length tasks ≤ 64
  few = let le = alive_few o past k.lawful in let same = length_alive in omega (arith, le, same)

  pub entries_alive : entries_of tasks ≡ alive past
  entries_alive = entries_seen tasks ∙ ap entries k.set ∙ entries_tasks past

  pub fresh : (t : Ticket) → next_number t.queue past ≤ t.number → task_of t (entries_of tasks) ≡ None
  fresh t le = ap (λ w. task_of t w) entries_alive ∙ never.none_of t (alive past) (never.fresh t past (never.above_fresh o t past k.lawful le))

  seen_found : (t : Ticket) → seen_at t (tasks_of past) ≡ option_map (λ (x : PlainTask). x.seen) (task_at t tasks)
  seen_found t = ap (λ w. seen_at t w) (sym k.set) ∙ seen_task t tasks

  -- what is found under a ticket is the task alive, as it is kept
  pub task_at_alive : (t : Ticket) (x : PlainTask) → task_at t tasks ≡ Some x → (task_of t (alive past) ≡ Some x.seen.entry) × (x.seen ≡ seen past x.seen.entry)
  task_at_alive t x at = seen_is t past x.seen (seen_found t ∙ ap (λ w. option_map (λ (y : PlainTask). y.seen) w) at)

  pub task_at_none : (t : Ticket) → task_at t tasks ≡ None → task_of t (alive past) ≡ None
  task_at_none t at = none_by (task_of t (alive past)) past (sym (seen_at_tasks t past) ∙ seen_found t ∙ ap (λ w. option_map (λ (y : PlainTask). y.seen) w) at)

  -- and under that ticket
  pub ticket_at : (t : Ticket) (x : PlainTask) → task_at t tasks ≡ Some x → t ≡ x.seen.entry.ticket
  ticket_at t x at = task_ticket t (alive past) x.seen.entry (task_at_alive t x at).0

  seen_as : (t : Ticket) (x : PlainTask) → task_at t tasks ≡ Some x → x.seen ≡ seen past x.seen.entry
  seen_as t x at = (task_at_alive t x at).1

  pub is_done : (t : Ticket) (x : PlainTask) → task_at t tasks ≡ Some x → x.seen.done ≡ done t past
  is_done t x at = ap (λ (s : Seen). s.done) (seen_as t x at) ∙ ap (λ n. done n past) (sym (ticket_at t x at))

  pub is_marked : (t : Ticket) (x : PlainTask) → task_at t tasks ≡ Some x → is_some x.seen.mark ≡ marked t past
  is_marked t x at = ap (λ (s : Seen). is_some s.mark) (seen_as t x at) ∙ ap (λ n. marked n past) (sym (ticket_at t x at))

  pub is_enabled : (t : Ticket) (x : PlainTask) → task_at t tasks ≡ Some x → x.seen.enabled ≡ enabled x.seen.entry past
  is_enabled t x at = ap (λ (s : Seen). s.enabled) (seen_as t x at)

  pub is_ready : (t : Ticket) (x : PlainTask) → task_at t tasks ≡ Some x → x.seen.done ≡ false → x.seen.mark ≡ None → x.seen.enabled ≡ true → IsReady t x.seen.entry past
  is_ready t x at undone unmarked on =
      record {
        is_there = (task_at_alive t x at).0;
        is_enabled = sym (is_enabled t x at) ∙ on;
        is_unmarked = sym (is_marked t x at) ∙ ap (λ m. is_some m) unmarked;
        is_undone = sym (is_done t x at) ∙ undone;
      }

  -- for each task that is found there is room for a step
  pub has_room : (t : Ticket) (x : PlainTask) → task_at t tasks ≡ Some x → 0 < room
  has_room t x at =
      let some = owed_some t x.seen (seen_of tasks) (seen_task t tasks ∙ ap (λ w. option_map (λ (y : PlainTask). y.seen) w) at) in
      let now = k.reserved in omega (arith, some, now)

  -- what would block a task that enters
  pub blocked_is : (e : Entry) → is_blocked e (entries_of tasks ++ e ∷ []) ≡ is_blocked e (alive (Step.Enter e ∷ past))
  blocked_is e = ap (λ w. is_blocked e (w ++ e ∷ [])) entries_alive

  -- the reply over the blocks that are stored is that of the history
  pub replies_after : (e : Entry) → reply_of (facts_after o past) e.command e.data_out block_at ≡ reply_after o e past
  replies_after e =
      ap (λ a. sent_in (format_told (facts_after o past)) (reported (met e.command (facts_after o past).pending)
      (replied e.command (permitted (facts_after o past) e.command a))))
      (answer_of-agree (facts_after o past) e.command e.data_out block_at (blocks_of o past) (λ b below. k.stored b))

  -- what a command is told is what the history says of the unit
  pub told_is : (facts : UnitFacts) (size : ℕ) → facts.address.target ≡ o.target → facts.address.lun ≡ o.lun → facts.luns.items ≡ o.luns → facts.profile ≡ o.profile
      → facts.identity ≡ o.identity → facts.backed ≡ o.backed
      → size ≡ capacity_of o past
      → facts_of (told facts pending) size ≡ facts_after o past
  told_is facts size target lun luns profile identity backed blocks =
      same_facts facts.address.target o.target facts.address.lun o.lun facts.luns.items o.luns size (capacity_of o past) (oldest pending) (oldest (pending_of o past))
      facts.profile o.profile facts.identity o.identity facts.backed o.backed target lun luns blocks (ap oldest k.pends) profile identity backed

  -- parts that say the same, with no less room
  pub keep_same : (block_at' : Blocks) (pending' : List Code) (last_tickets' : List (Option ℕ)) (room' : ℕ)
      → ((b : ℕ) → block_at' b ≡ block_at b) → pending' ≡ pending → ((q : ℕ) → floor_kept last_tickets' q ≡ floor_kept last_tickets q) → room ≤ room'
      → AreKept o past block_at' pending' tasks last_tickets' room'
  keep_same block_at' pending' last_tickets' room' stored pends floors reserve =
      record {
        lawful = k.lawful;
        stored = λ b. stored b ∙ k.stored b;
        pends = pends ∙ k.pends;
        set = k.set;
        fit = k.fit;
        floors = λ q. floors q ∙ k.floors q;
        reserved = let now = k.reserved in omega (arith, now, reserve);
      }

  -- Which steps may come next:
  pub may_full : (t : Ticket) → length tasks ≡ 64 → next_number t.queue past ≤ t.number → May o (Step.Full t) past
  may_full t full le = (sym length_alive ∙ full, le)

  pub may_enter : (e : Entry) → length tasks < 64 → next_number e.ticket.queue past ≤ e.ticket.number
      → May o (Step.Enter e) past
  may_enter e few le = (subst (λ n. n < 64) length_alive few, le)

  pub may_commit : (t : Ticket) (e : Entry) (r : PlainReply) → IsReady t e past → MayReply o e past r → May o (Step.Commit t r) past
  may_commit t e r ready is = (e, ready, is)

  pub may_busy : (t : Ticket) (e : Entry) → IsReady t e past → May o (Step.Busy t) past
  may_busy t e ready = (e, ready)

  pub may_abort : (rule : Rule) → May o (Step.Abort rule) past
  may_abort rule = tt

  pub may_reset : (c : Code) → May o (Step.Reset c) past
  may_reset c = tt

  pub may_leave : (t : Ticket) (x : PlainTask) → task_at t tasks ≡ Some x → (x.seen.done || is_some x.seen.mark) ≡ true → May o (Step.Leave t) past
  may_leave t x at ended =
      (x.seen.entry, (task_at_alive t x at).0, sym (ap (λ b. b || is_some x.seen.mark) (is_done t x at) ∙ ap (λ b. done t past || b) (is_marked t x at)) ∙ ended)

  -- What the parts are after each:
  pub keep_full : (t : Ticket) (last_tickets' : List (Option ℕ)) (room' : ℕ) → length tasks ≡ 64
      → next_number t.queue past ≤ t.number → CameTo t last_tickets last_tickets' → 128 ≤ room'
      → AreKept o (Step.Full t ∷ past) block_at pending tasks last_tickets' room'
  keep_full t last_tickets' room' full le came reserve =
      let lawful : IsLawful o (Step.Full t ∷ past) = (k.lawful, may_full t full le) in
      let set = k.set ∙ sym (tasks_full t past) in
      record {
        lawful = lawful;
        stored = k.stored;
        pends = k.pends;
        set = set;
        fit = k.fit;
        floors = λ q. came q ∙ ap (λ n. cond (eqb t.queue q) (t.number + 1) n) (k.floors q);
        reserved = let same = ap owed set in let most = alive_owed o (Step.Full t ∷ past) lawful in omega (arith, same, most, reserve);
      }

  set_enter : (j : PlainJob) → IsLawful o (Step.Enter j.entry ∷ past) → seen_of (tasks ++ entering (length past) tasks j ∷ []) ≡ tasks_of (Step.Enter j.entry ∷ past)
  set_enter j lawful =
      seen_push tasks (entering (length past) tasks j)
      ∙ ap (λ w. w ++ joined (length past) (entries_of tasks ++ j.entry ∷ []) j.entry ∷ []) k.set
      ∙ ap (λ w. tasks_of past ++ joined (length past) (w ++ j.entry ∷ []) j.entry ∷ []) entries_alive
      ∙ sym (tasks_enter o j.entry past lawful)

  pub keep_enter : (j : PlainJob) (last_tickets' : List (Option ℕ)) (room' : ℕ) → length tasks < 64
      → next_number j.entry.ticket.queue past ≤ j.entry.ticket.number → CameTo j.entry.ticket last_tickets last_tickets'
      → 128 ≤ room'
      → AreKept o (Step.Enter j.entry ∷ past) block_at pending (tasks ++ entering (length past) tasks j ∷ []) last_tickets' room'
  keep_enter j last_tickets' room' few le came reserve =
      let t = j.entry.ticket in
      let lawful : IsLawful o (Step.Enter j.entry ∷ past) = (k.lawful, may_enter j.entry few le) in
      record {
        lawful = lawful;
        stored = k.stored;
        pends = k.pends;
        set = set_enter j lawful;
        fit = fit_entering (length past) tasks j k.fit;
        floors = λ q. came q ∙ ap (λ n. cond (eqb t.queue q) (t.number + 1) n) (k.floors q);
        reserved = let same = ap owed (set_enter j lawful) in let most = alive_owed o (Step.Enter j.entry ∷ past) lawful in omega (arith, same, most, reserve);
      }

  pub keep_commit : (t : Ticket) (e : Entry) (r : PlainReply) (block_at' : Blocks) (pending' : List Code) (room' : ℕ) → IsReady t e past → MayReply o e past r
      → ((b : ℕ) → block_at' b ≡ block_after e.command e.data_out r.status block_at b) → pending' ≡ taken e.command pending → room ≤ room' + 1
      → AreKept o (Step.Commit t r ∷ past) block_at' pending' (map (moved (finished t (r.status == good))) tasks) last_tickets room'
  keep_commit t e r block_at' pending' room' ready is stored pends reserve =
      let lawful : IsLawful o (Step.Commit t r ∷ past) = (k.lawful, may_commit t e r ready is) in
      let set = seen_moved (finished t (r.status == good)) tasks ∙ ap (map (finished t (r.status == good))) k.set ∙ sym (tasks_commit t r past) in
      record {
        lawful = lawful;
        stored = λ b.
            stored b ∙ after_same e.command e.data_out r.status block_at (blocks_of o past) b (k.stored b)
            ∙ ap (λ x. block_with x r.status (blocks_of o past) b) (sym ready.is_there);
        pends = pends ∙ ap (λ w. taken e.command w) k.pends ∙ ap (λ x. taken_by x (pending_of o past)) (sym ready.is_there);
        set = set;
        fit = fit_moved (finished t (r.status == good)) (finished_waits t (r.status == good)) (λ s. refl) tasks k.fit;
        floors = k.floors;
        reserved =
            let same = ap owed set in let was = ap owed k.set in let now = k.reserved in
            let fewer = commit_owed o t r past lawful in omega (arith, same, was, now, fewer, reserve);
      }

  pub keep_busy : (t : Ticket) (e : Entry) (block_at' : Blocks) (pending' : List Code) (room' : ℕ) → IsReady t e past
      → ((b : ℕ) → block_at' b ≡ block_at b) → pending' ≡ pending → room ≤ room' + 1
      → AreKept o (Step.Busy t ∷ past) block_at' pending' (map (moved (finished t false)) tasks) last_tickets room'
  keep_busy t e block_at' pending' room' ready stored pends reserve =
      let lawful : IsLawful o (Step.Busy t ∷ past) = (k.lawful, may_busy t e ready) in
      let set = seen_moved (finished t false) tasks ∙ ap (map (finished t false)) k.set ∙ sym (tasks_busy t past) in
      record {
        lawful = lawful;
        stored = λ b. stored b ∙ k.stored b;
        pends = pends ∙ k.pends;
        set = set;
        fit = fit_moved (finished t false) (finished_waits t false) (λ s. refl) tasks k.fit;
        floors = k.floors;
        reserved =
            let same = ap owed set in let was = ap owed k.set in let now = k.reserved in
            let fewer = busy_owed o t past lawful in omega (arith, same, was, now, fewer, reserve);
      }

  pub keep_abort : (rule : Rule) (room' : ℕ) → 128 ≤ room'
      → AreKept o (Step.Abort rule ∷ past) block_at pending (map (moved (with_mark rule reason.Aborted)) tasks) last_tickets room'
  keep_abort rule room' reserve =
      let lawful : IsLawful o (Step.Abort rule ∷ past) = (k.lawful, may_abort rule) in
      let set = seen_moved (with_mark rule reason.Aborted) tasks ∙ ap (map (with_mark rule reason.Aborted)) k.set ∙ sym (tasks_abort o rule past k.lawful) in
      record {
        lawful = lawful;
        stored = k.stored;
        pends = k.pends;
        set = set;
        fit = fit_moved (with_mark rule reason.Aborted) (with_mark_waits rule reason.Aborted) (λ s. refl) tasks k.fit;
        floors = k.floors;
        reserved = let same = ap owed set in let most = alive_owed o (Step.Abort rule ∷ past) lawful in omega (arith, same, most, reserve);
      }

  pub keep_reset : (c : Code) (pending' : List Code) (room' : ℕ) → pending' ≡ raised pending c → 128 ≤ room'
      → AreKept o (Step.Reset c ∷ past) block_at pending' (map (moved (with_mark rules.All reason.Reset)) tasks) last_tickets room'
  keep_reset c pending' room' pends reserve =
      let lawful : IsLawful o (Step.Reset c ∷ past) = (k.lawful, may_reset c) in
      let set = seen_moved (with_mark rules.All reason.Reset) tasks ∙ ap (map (with_mark rules.All reason.Reset)) k.set ∙ sym (tasks_reset o c past k.lawful) in
      record {
        lawful = lawful;
        stored = k.stored;
        pends = pends ∙ ap (λ w. raised w c) k.pends;
        set = set;
        fit = fit_moved (with_mark rules.All reason.Reset) (with_mark_waits rules.All reason.Reset) (λ s. refl) tasks k.fit;
        floors = k.floors;
        reserved = let same = ap owed set in let most = alive_owed o (Step.Reset c ∷ past) lawful in omega (arith, same, most, reserve);
      }

  pub may_resize : (blocks : ℕ) → is_capacity blocks ≡ true → May o (Step.Resize blocks) past
  may_resize blocks is = is

  pub keep_resize : (blocks : ℕ) (block_at' : Blocks) (pending' : List Code) (room' : ℕ) → is_capacity blocks ≡ true
      → ((b : ℕ) → block_at' b ≡ cond (nat_lt b (min (capacity_of o past) blocks)) (block_at b) zero_block) → pending' ≡ raised pending capacity_changed → 128 ≤ room'
      → AreKept o (Step.Resize blocks ∷ past) block_at' pending' tasks last_tickets room'
  keep_resize blocks block_at' pending' room' is stored pends reserve =
      let lawful : IsLawful o (Step.Resize blocks ∷ past) = (k.lawful, may_resize blocks is) in
      let set = k.set ∙ sym (tasks_resize blocks past) in
      record {
        lawful = lawful;
        stored = λ b. stored b ∙ ap (λ w. cond (nat_lt b (min (capacity_of o past) blocks)) w zero_block) (k.stored b);
        pends = pends ∙ ap (λ w. raised w capacity_changed) k.pends;
        set = set;
        fit = k.fit;
        floors = k.floors;
        reserved = let same = ap owed set in let most = alive_owed o (Step.Resize blocks ∷ past) lawful in omega (arith, same, most, reserve);
      }

  set_leave : (t : Ticket) → seen_of (map (moved (freed (entries_of (without t tasks)))) (without t tasks)) ≡ tasks_of (Step.Leave t ∷ past)
  set_leave t =
      let rest = seen_without t tasks ∙ ap (others t) k.set in
      seen_moved (freed (entries_of (without t tasks))) (without t tasks)
      ∙ ap (λ w. map (freed w) (seen_of (without t tasks))) (entries_seen (without t tasks))
      ∙ ap (λ w. map (freed (entries w)) w) rest
      ∙ sym (tasks_leave t past)

  pub keep_leave : (t : Ticket) (x : PlainTask) (room' : ℕ) → task_at t tasks ≡ Some x → (x.seen.done || is_some x.seen.mark) ≡ true → room ≤ room' + 1
      → AreKept o (Step.Leave t ∷ past) block_at pending (map (moved (freed (entries_of (without t tasks)))) (without t tasks)) last_tickets room'
  keep_leave t x room' at ended reserve =
      let lawful : IsLawful o (Step.Leave t ∷ past) = (k.lawful, may_leave t x at ended) in
      record {
        lawful = lawful;
        stored = k.stored;
        pends = k.pends;
        set = set_leave t;
        fit = fit_moved (freed (entries_of (without t tasks))) (freed_waits (entries_of (without t tasks))) (λ s. refl) (without t tasks) (fit_without t tasks k.fit);
        floors = k.floors;
        reserved =
            let same = ap owed (set_leave t) in let was = ap owed k.set in let now = k.reserved in
            let fewer = leave_owed o t past lawful in omega (arith, same, was, now, fewer, reserve);
      }
