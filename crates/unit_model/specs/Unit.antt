-- A logical unit as a plain value: what it opened with, its history, and the jobs that it holds.
use Rattle.std.specs.Prelude.{ℕ, ◌≡◌, ◌⊎◌, ◌++◌, ◌==◌, ◌&&◌, ◌||◌, not, Bool, true, min, List, [], ◌∷◌, map, filter, Contains, Option, Some, None, is_some, IfSome, ⊤}
use Rattle.std.specs.Option.{option_map}
use Rattle.block_store.specs.Storage.{Ledger, Dealing, IsPageOf, IsLostIn, IsDeniedIn, and_then}
use Rattle.command_model.specs.PlainReply.{PlainReply}
use Rattle.command_model.specs.Effects.{changes_medium}
use Rattle.command_model.specs.Replies.{cache_told}
use Rattle.command_model.specs.Waiting.{flushes, waits_at}
use Rattle.command_model.specs.Statuses.{good}
use Rattle.ring_core.specs.declared.log.Ticket.{Ticket}
use Rattle.unit_model.specs.Tasks.{Entry, task_of}
use Rattle.unit_model.specs.Steps.{Step, alive}
use Rattle.unit_model.specs.Enabling.{is_parked}
use Rattle.unit_model.specs.Released.{released}
use Rattle.unit_model.specs.Contents.{Opening, blocks_of, capacity_of, facts_after, reply_after, IsUnreadAfter, IsUnwrittenAfter}
use Rattle.unit_model.specs.Flushing.{IsFlushed, IsThrough}
use Rattle.unit_model.specs.Lawful.{May, IsLawful, IsReady}
use Rattle.unit_model.specs.Jobs.{PlainJob, Jobs, of_tasks, but_tasks}

pub record PlainUnit : Type 0 where
  pub opening : Opening
  -- newest first
  pub steps : List Step
  -- the jobs of the tasks that were never handed out, by order of entry
  pub parked : List PlainJob
  -- whether the replies of its Commits are kept, to be compared with those of receipts
  pub keeps_replies : Bool
  -- what its host's storage had and was dealt, if its disk is one whose pages come and go
  pub storage : Option Ledger

-- own: whether the unit's disk is one whose pages come and go
abbrev pub is_backed : PlainUnit → Bool
is_backed u = is_some u.storage

-- own: whether the unit tells of no volatile write cache (SBC-3 §6.5), so that what it answers is on the medium
abbrev pub tells_no_cache : PlainUnit → Bool
tells_no_cache u = not (cache_told (facts_after u.opening u.steps))

-- own: whether what a task changes has to be on the medium behind its answer: the unit tells of no cache, or the command asks for
-- the medium itself (FUA, SBC-3 §5.33)
abbrev pub needs_medium : PlainUnit → Entry → Bool
needs_medium u e = tells_no_cache u || e.asks_medium

-- own: whether a task may have to wait at the unit: for pages of its disk, for what was changed before it, or for what it changes
-- itself, where that has to be on the medium
abbrev pub may_wait : PlainUnit → Entry → Bool
may_wait u e =
    is_backed u
    && (waits_at (capacity_of u.opening u.steps) e.asks_medium e.command || (needs_medium u e && changes_medium e.command))

-- own: whether the answer of a task that ended with this status waits until the host's storage has what it changed
abbrev pub waits_behind : PlainUnit → Entry → ℕ → Bool
waits_behind u e status = is_backed u && (needs_medium u e && (changes_medium e.command && status == good))

-- own: the host's last word of reading page p of the unit's disk is that it can't
abbrev pub HasLost : PlainUnit → ℕ → Type 0
HasLost u p = IsLostIn u.storage p

-- own: the host's last word of writing page p of the unit's disk is that it can't
abbrev pub HasDenied : PlainUnit → ℕ → Type 0
HasDenied u p = IsDeniedIn u.storage p

-- a flush ends with GOOD only where a crash at that moment leaves what the unit had once the flush might run, or later; a READ of
-- the medium itself where it leaves what the READ reads
abbrev pub Flushes : PlainUnit → Entry → PlainReply → Type 0
Flushes u e r = r.status ≡ good → flushes e.asks_medium e.command ≡ true → IfSome u.storage (λ l. IsFlushed u.opening u.steps l e)

-- own: the command of a task, which runs next at the unit, may be replied to so: as the history says, or since it needs a
-- page that the host can't read, or flushes one that the host can't write
abbrev pub Replies : PlainUnit → Entry → PlainReply → Type 0
Replies u e r =
    ((r ≡ reply_after u.opening e u.steps) × Flushes u e r)
    ⊎ (((p : ℕ) × IsUnreadAfter u.opening e u.steps p r × HasLost u p)
    ⊎ ((p : ℕ) × IsUnwrittenAfter u.opening e u.steps p r × HasDenied u p))

-- own: a command whose answer waits is answered at once only where whatever a crash leaves has all that it changed
abbrev pub EndsAtOnce : PlainUnit → Ticket → Entry → PlainReply → Type 0
EndsAtOnce u t e r =
    waits_behind u e r.status ≡ true → IfSome u.storage (λ l. IsThrough u.opening (Step.Commit t r ∷ u.steps) l t)

-- own: the command of a ticket's task may run next at the unit, be replied to so, and be answered at once
abbrev pub MayCommit : PlainUnit → Ticket → PlainReply → Type 0
MayCommit u t r = (e : Entry) × IsReady t e u.steps × Replies u e r × EndsAtOnce u t e r

-- own: it may run next at the unit, and be replied to so, which is told once the host's storage has what it changed
abbrev pub MayWithhold : PlainUnit → Ticket → PlainReply → Type 0
MayWithhold u t r = (e : Entry) × IsReady t e u.steps × Replies u e r × (waits_behind u e r.status ≡ true)

-- own: the command of a ticket's task ran, and was replied to so, which isn't told yet
pub record IsWithheld (u : PlainUnit) (t : Ticket) (e : Entry) (r : PlainReply) : Type 0 where
  pub is_there : task_of t (alive u.steps) ≡ Some e
  pub ran : Contains u.steps (Step.Commit t r)
  pub waits : waits_behind u e r.status ≡ true

-- own: such a reply may be told: whatever a crash leaves has all that the command changed
abbrev pub MayConclude : PlainUnit → Ticket → PlainReply → Type 0
MayConclude u t r =
    (e : Entry) × IsWithheld u t e r × IfSome u.storage (λ l. IsThrough u.opening u.steps l t)

-- own: the command of a task has to wait before it runs, or its reply is withheld
abbrev pub HasToWait : PlainUnit → Ticket → Entry → Type 0
HasToWait u t e = (IsReady t e u.steps × (may_wait u e ≡ true)) ⊎ ((r : PlainReply) × IsWithheld u t e r)

-- own: a unit of which no step was taken, with all of its disk in memory
abbrev pub opening_unit : Opening → Bool → PlainUnit
opening_unit o keeps = record { opening = o; steps = []; parked = []; keeps_replies = keeps; storage = None }

-- own: the same of a disk of so many blocks once the step was taken: where the unit is resized, the host cuts its storage off
-- at the lesser capacity
abbrev pub storage_after : Step → ℕ → Option Ledger → Option Ledger
storage_after (Step.Resize blocks) capacity storage = option_map (and_then (Dealing.Cut (min capacity blocks))) storage
storage_after s capacity storage = storage

-- own: the unit after one more step, without the jobs that this hands out
abbrev pub after : Step → PlainUnit → PlainUnit
after s u =
    record u {
      steps = s ∷ u.steps;
      parked = but_tasks (released s u.steps) u.parked;
      storage = storage_after s (capacity_of u.opening u.steps) u.storage;
    }

-- own: the unit after the Enter of a job that it keeps
abbrev pub parking : PlainJob → PlainUnit → PlainUnit
parking j u = record u { steps = Step.Enter j.entry ∷ u.steps; parked = u.parked ++ j ∷ [] }

-- own: the jobs behind those that were there, once the step handed out what it releases
abbrev pub handing : Step → PlainUnit → Jobs → Jobs
handing s u out = record out { jobs = out.jobs ++ of_tasks (released s u.steps) u.parked }

-- own: the tasks of jobs
abbrev pub tasks_of_jobs : List PlainJob → List Entry
tasks_of_jobs jobs = map (λ (j : PlainJob). j.entry) jobs

-- own: what the host has of the unit's disk changes, and nothing else of it
abbrev pub dealing : Dealing → PlainUnit → PlainUnit
dealing d u = record u { storage = option_map (and_then d) u.storage }

-- own: the host is given what the unit's blocks are, and says itself what it kept, what it can't read or write, and what it
-- read; a Resize cuts the storage off
abbrev pub IsAsItIs : PlainUnit → Dealing → Type 0
IsAsItIs u (Dealing.Give page bytes) = IsPageOf (blocks_of u.opening u.steps) page bytes
IsAsItIs u (Dealing.Keep page) = ⊤
IsAsItIs u (Dealing.Lose page) = ⊤
IsAsItIs u (Dealing.Deny page) = ⊤
IsAsItIs u (Dealing.Load page) = ⊤
IsAsItIs u (Dealing.Cut blocks) = ⊥

-- own: the host may deal so with the storage of the unit's disk: there is one, and it is given what the blocks are
pub record MayDeal (u : PlainUnit) (d : Dealing) : Type 0 where
  pub backed : is_backed u ≡ true
  pub as_it_is : IsAsItIs u d

-- own: the unit goes on by one step, which may come next
pub record Steps (old : PlainUnit) (s : Step) (new : PlainUnit) : Type 0 where
  pub may : May old.opening s old.steps
  pub is : new ≡ after s old

-- own: what every unit is: its history is lawful, and it holds the jobs of the parked tasks and no others
pub record IsUnit (u : PlainUnit) : Type 0 where
  pub lawful : IsLawful u.opening u.steps
  pub holds : tasks_of_jobs u.parked ≡ filter (is_parked u.steps) (alive u.steps)
