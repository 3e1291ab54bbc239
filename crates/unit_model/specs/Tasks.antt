-- The tasks of a unit's task set, the oldest first, and which of them block another.
use Rattle.std.specs.Prelude.{ℕ, Bool, true, false, ◌==◌, ◌&&◌, ◌||◌, List, [], ◌∷◌, Option, Some, None, if◌then◌else◌, ◌≡◌, ⊤}
use Rattle.std.specs.List.{list_any}
use Rattle.cdb.specs.declared.commands.Command.{Command}
use Rattle.request_intake.specs.UnitRequest.{PlainRequest}
use Rattle.request_intake.specs.declared.attribute.TaskAttribute.{TaskAttribute}
use Rattle.request_intake.specs.declared.attribute.TaskAttribute.TheVariants.{Simple, Ordered, HeadOfQueue}
use Rattle.ring_core.specs.declared.log.Ticket.{Ticket}
use Rattle.unit_model.specs.declared.rule.Rule.{Rule}
use Rattle.unit_model.specs.declared.rule.Rule.TheVariants.{Id, All}

-- a task as it entered the task set (SAM-5 §8.1): the ticket of its chain, the driver's identifier, its task attribute, its command,
-- whether this asks for the medium itself, and the data that it takes
pub record Entry : Type 0 where
  pub ticket : Ticket
  pub id : ℕ
  pub attribute : TaskAttribute
  pub command : Command
  pub asks_medium : Bool
  pub data_out : List ℕ

-- own: the task of a request that was fetched under a ticket
abbrev pub entry_of : Ticket → PlainRequest → Entry
entry_of t r =
    record { ticket = t; id = r.id; attribute = r.attribute; command = r.command; asks_medium = r.asks_medium; data_out = r.data_out }

-- own: whether two tickets are one; a task is named by its ticket
abbrev pub same_ticket : Ticket → Ticket → Bool
same_ticket a b = (a.queue == b.queue) && (a.number == b.number)

-- own: the task of a ticket
abbrev pub task_of : Ticket → List Entry → Option Entry
task_of t [] = None
task_of t (e ∷ tasks) = if same_ticket e.ticket t then Some e else task_of t tasks

-- own: the tasks that stand before that of a ticket, which entered before it
abbrev pub older : Ticket → List Entry → List Entry
older t [] = []
older t (e ∷ tasks) = if same_ticket e.ticket t then [] else e ∷ older t tasks

-- own: the tasks but that of a ticket
abbrev pub without : Ticket → List Entry → List Entry
without t [] = []
without t (e ∷ tasks) = if same_ticket e.ticket t then tasks else e ∷ without t tasks

-- own: no ticket stands there twice
abbrev pub AreDistinct : List Entry → Type 0
AreDistinct [] = ⊤
AreDistinct (e ∷ tasks) = (task_of e.ticket tasks ≡ None) × AreDistinct tasks

abbrev pub is_head_of_queue : TaskAttribute → Bool
is_head_of_queue HeadOfQueue = true
is_head_of_queue Simple = false
is_head_of_queue Ordered = false

abbrev pub is_ordered : TaskAttribute → Bool
is_ordered Ordered = true
is_ordered Simple = false
is_ordered HeadOfQueue = false

abbrev pub any_head_of_queue : List Entry → Bool
any_head_of_queue tasks = list_any (λ (e : Entry). is_head_of_queue e.attribute) tasks

abbrev pub any_ordered : List Entry → Bool
any_ordered tasks = list_any (λ (e : Entry). is_ordered e.attribute) tasks

abbrev pub any_task : List Entry → Bool
any_task [] = false
any_task (e ∷ tasks) = true

-- whether tasks block one of this attribute, of which these are older (SAM-5 §8.6): SIMPLE waits for each HEAD
-- OF QUEUE task and for older ORDERED ones, ORDERED for each HEAD OF QUEUE task and for all older ones, HEAD OF
-- QUEUE for none
abbrev pub blocks : TaskAttribute → List Entry → List Entry → Bool
blocks Simple before tasks = any_head_of_queue tasks || any_ordered before
blocks Ordered before tasks = any_head_of_queue tasks || any_task before
blocks HeadOfQueue before tasks = false

-- the task is blocked by one of the tasks
abbrev pub is_blocked : Entry → List Entry → Bool
is_blocked e tasks = blocks e.attribute (older e.ticket tasks) tasks

-- the rule meets the task (SAM-5 §7.2, §7.3, §7.5)
abbrev pub meets : Rule → Entry → Bool
meets (Id n) e = e.id == n
meets All e = true
