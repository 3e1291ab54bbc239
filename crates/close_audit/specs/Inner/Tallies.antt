-- What is kept of each request while a report is examined.
use Rattle.std.specs.Prelude.{ℕ, ◌≡◌, ◌+◌, Bool, true, false, not, ◌==◌, ◌&&◌, ◌||◌, List, [], ◌∷◌, Option, Some, None, slice_get, Vec, if◌then◌else◌}
use Rattle.std.specs.List.{fold, list_any}
use Rattle.std.specs.declared.alloc.Global.{Global}
use Rattle.ring_core.specs.declared.log.Ticket.{Ticket}
use Rattle.unit_model.specs.Tasks.{Entry, same_ticket}
use Rattle.unit_model.specs.Steps.{Step, alive}
use Rattle.unit_model.specs.Base.{kept_steps, folded_steps}
use Rattle.unit_model.specs.Receipts.{Receipt}
use Rattle.unit_model.specs.Unit.{PlainUnit}
use Rattle.unit_log.specs.Kept.{kind_of}
use Rattle.unit_log.specs.Runs.{committed}
use Rattle.unit_log.specs.declared.kind.StepKind.{StepKind}
use Rattle.unit_log.specs.declared.kind.StepKind.TheVariants as kind
use Rattle.virtqueue.specs.Queue.{BareQueue}
use Rattle.phases.specs.Notes.{PlainNote}
use Rattle.phases.specs.declared.note.Cause.{Cause}
use Rattle.phases.specs.declared.note.Cause.TheVariants as cause
use Rattle.close_audit.specs.Words.{is_before}
use Rattle.close_audit.specs.Settled.{is_request}
use Rattle.close_audit.specs.declared.tally.Answer.{Answer}
use Rattle.close_audit.specs.declared.tally.Answer.TheVariants as answer
use Rattle.close_audit.specs.declared.tally.Fact.{Fact}
use Rattle.close_audit.specs.declared.tally.Fact.TheVariants as fact
use Rattle.close_audit.specs.declared.tally.Tally.{Tally}
use Rattle.close_audit.specs.declared.tally.TaskStep.{TaskStep}
use Rattle.close_audit.specs.declared.tally.TaskStep.TheVariants as step
use Rattle.close_audit.specs.declared.tally.TicketFact.{TicketFact}

abbrev pub joined : Answer → Answer → Answer
joined answer.Missing more = more
joined answer.Receipt more = answer.Several
joined (answer.Note why) more = answer.Several
joined answer.Several more = answer.Several

abbrev pub fresh : Tally
fresh =
    record {
      answer = answer.Missing;
      home = None;
      astray = false;
      entered = false;
      full = false;
      ran = false;
      busy = false;
      alive = false;
    }

-- the first unit that has a step of the task, and whether another was before this one
abbrev pub home_at : ℕ → Option ℕ → Option ℕ
home_at k None = Some k
home_at k (Some j) = Some j

abbrev pub elsewhere : ℕ → Option ℕ → Bool
elsewhere k None = false
elsewhere k (Some j) = not (j == k)

abbrev pub visited : ℕ → Tally → Tally
visited k s = record s { home = home_at k s.home; astray = elsewhere k s.home || s.astray }

abbrev pub stepped : TaskStep → Tally → Tally
stepped step.Enter s = record s { entered = true }
stepped step.Commit s = record s { ran = true }
stepped step.Busy s = record s { busy = true }
stepped step.Leave s = s

abbrev pub after : Fact → Tally → Tally
after (fact.Answered a) s = record s { answer = joined s.answer a }
after fact.Full s = record s { full = true }
after (fact.Step k what) s = stepped what (visited k s)
after fact.Alive s = record s { alive = true }

-- what is told of one ticket, as another sees it
abbrev pub marking : Ticket → Fact → Ticket → Tally → Tally
marking u m t s = if same_ticket u t then after m s else s

-- what a step of a unit tells of a ticket
abbrev pub told : ℕ → TaskStep → Ticket → Option TicketFact
told k what t = Some (record { ticket = t; fact = fact.Step k what })

abbrev pub fact_of : ℕ → StepKind → Option TicketFact
fact_of k (kind.Enter t) = told k step.Enter t
fact_of k (kind.Full t) = Some (record { ticket = t; fact = fact.Full })
fact_of k (kind.Commit t) = told k step.Commit t
fact_of k (kind.Busy t) = told k step.Busy t
fact_of k (kind.Abort rule) = None
fact_of k kind.Reset = None
fact_of k kind.Resize = None
fact_of k (kind.Leave t) = told k step.Leave t

abbrev pub tells : Option TicketFact → Ticket → Tally → Tally
tells None t s = s
tells (Some told) t s = marking told.ticket told.fact t s

abbrev pub fact_of_one : ℕ → Option StepKind → Option TicketFact
fact_of_one k None = None
fact_of_one k (Some kind) = fact_of k kind

-- what a Commit of a unit tells, if there is one
abbrev pub fact_of_commit : ℕ → Option Ticket → Option TicketFact
fact_of_commit k None = None
fact_of_commit k (Some t) = told k step.Commit t

-- what a task tells that is alive, if there is one
abbrev pub fact_of_alive : Option Ticket → Option TicketFact
fact_of_alive None = None
fact_of_alive (Some t) = Some (record { ticket = t; fact = fact.Alive })

-- steps of a unit, and the tasks that are alive there
abbrev pub read : Ticket → ℕ → List Step → Tally → Tally
read t k [] s = s
read t k (step ∷ past) s = tells (fact_of k (kind_of step)) t (read t k past s)

-- the Commits alone among steps of a unit
abbrev pub read_commits : Ticket → ℕ → List Step → Tally → Tally
read_commits t k [] s = s
read_commits t k (step ∷ past) s = tells (fact_of_commit k (committed (kind_of step))) t (read_commits t k past s)

-- those that are folded, where the unit knows them
abbrev pub read_folded : Ticket → ℕ → PlainUnit → Tally → Tally
read_folded t k u s = if u.keeps_replies then read_commits t k (folded_steps u.steps) s else s

abbrev pub read_alive : Ticket → List Entry → Tally → Tally
read_alive t tasks s = record s { alive = list_any (λ (e : Entry). same_ticket e.ticket t) tasks || s.alive }

abbrev pub with_receipt : Ticket → Tally → Receipt → Tally
with_receipt t s c = marking c.ticket (fact.Answered answer.Receipt) t s

abbrev pub with_note : Ticket → Tally → PlainNote → Tally
with_note t s n = marking n.ticket (fact.Answered (answer.Note n.cause)) t s

abbrev pub with_unit : Ticket → ℕ → PlainUnit → Tally → Tally
with_unit t k u s = read_alive t (alive u.steps) (read t k (kept_steps u.steps) (read_folded t k u s))

-- units, of which the first stands at an index
abbrev pub with_units : Ticket → ℕ → List PlainUnit → Tally → Tally
with_units t k [] s = s
with_units t k (u ∷ units) s = with_units t (k + 1) units (with_unit t k u s)

abbrev pub tally_of : List PlainUnit → List Receipt → List PlainNote → Ticket → Tally
tally_of units receipts notes t =
    with_units t 0 units (fold (with_note t) (fold (with_receipt t) fresh receipts) notes)

-- the tests of a request at the end, by whether it has an Enter, a Full, a Commit, a Busy, and whether steps are folded
abbrev pub is_ground : Cause → Bool → Bool → Bool → Bool
is_ground cause.Aborted entered full folded = entered || folded
is_ground cause.Full entered full folded = full || folded
is_ground cause.Busy entered full folded = true
is_ground cause.Direct entered full folded = true
is_ground cause.Stale entered full folded = false
is_ground cause.Unknown entered full folded = false

abbrev pub is_end : Cause → Bool → Bool → Bool
is_end cause.Busy ran busy = busy
is_end cause.Aborted ran busy = not (ran || busy)
is_end cause.Full ran busy = false
is_end cause.Direct ran busy = false
is_end cause.Stale ran busy = false
is_end cause.Unknown ran busy = false

abbrev pub is_fine : Answer → Bool → Bool → Bool → Bool → Bool → Bool
is_fine answer.Missing entered full ran busy folded = false
is_fine answer.Receipt entered full ran busy folded = not entered || ran
is_fine (answer.Note why) entered full ran busy folded =
    is_ground why entered full folded && (not ran && (not entered || is_end why ran busy))
is_fine answer.Several entered full ran busy folded = false

abbrev pub ends_well : Bool → Tally → Bool
ends_well folded s = not s.alive && (not s.astray && is_fine s.answer s.entered s.full s.ran s.busy folded)

-- the tally of a ticket, in tables by queue and number
abbrev pub tally_in : Option (Vec Tally Global) → ℕ → Option Tally
tally_in None n = None
tally_in (Some table) n = slice_get table.items n

abbrev pub tally_at : List (Vec Tally Global) → Ticket → Option Tally
tally_at tables t = tally_in (slice_get tables t.queue) t.number

-- a tally of each request, and of nothing else
abbrev pub AreTallies : List BareQueue → (Ticket → Tally) → List (Vec Tally Global) → Type 0
AreTallies queues tally tables = (t : Ticket)
    → tally_at tables t ≡ (if is_request queues t then Some (tally t) else None)

abbrev pub ends_amiss : Bool → Option Tally → Bool
ends_amiss folded None = false
ends_amiss folded (Some s) = not (ends_well folded s)

-- the lesser of two tickets, where there are such
abbrev pub lesser_of : Option Ticket → Option Ticket → Option Ticket
lesser_of None other = other
lesser_of (Some t) None = Some t
lesser_of (Some t) (Some u) = if is_before u t then Some u else Some t
