-- Which step may come next, and which histories are lawful.
use Rattle.std.specs.Prelude.{◌≡◌, ◌<◌, ◌≤◌, true, false, ◌||◌, List, [], ◌∷◌, length, Some, ⊤}
use Rattle.ring_core.specs.declared.log.Ticket.{Ticket}
use Rattle.unit_model.specs.Tasks.{Entry, task_of}
use Rattle.unit_model.specs.Steps.{Step, alive, next_number, done}
use Rattle.unit_model.specs.Marks.{marked}
use Rattle.unit_model.specs.Enabling.{enabled}
use Rattle.unit_model.specs.Contents.{Opening, is_capacity, MayReply}

-- the task of a ticket may run (SAM-5 §8.5): it is alive, enabled, unmarked and not done
pub record IsReady (t : Ticket) (e : Entry) (past : List Step) : Type 0 where
  pub is_there : task_of t (alive past) ≡ Some e
  pub is_enabled : enabled e past ≡ true
  pub is_unmarked : marked t past ≡ false
  pub is_undone : done t past ≡ false

-- the step may come next. A task enters where fewer than 64 are alive, which is own, and is refused with TASK
-- SET FULL (SAM-5 §5.3.1) where 64 are; the tickets of a queue rise. A command that may run does, with the reply to it
-- after this past, or is answered that the medium can't be read, which changes no block, or BUSY (SAM-5 §5.3.1). A unit is
-- given a capacity that a unit may have. A task leaves once it is done or marked.
abbrev pub May : Opening → Step → List Step → Type 0
May o (Step.Enter e) past = (length (alive past) < 64) × (next_number e.ticket.queue past ≤ e.ticket.number)
May o (Step.Full t) past = (length (alive past) ≡ 64) × (next_number t.queue past ≤ t.number)
May o (Step.Commit t r) past = (e : Entry) × IsReady t e past × MayReply o e past r
May o (Step.Busy t) past = (e : Entry) × IsReady t e past
May o (Step.Abort rule) past = ⊤
May o (Step.Reset c) past = ⊤
May o (Step.Resize blocks) past = is_capacity blocks ≡ true
May o (Step.Leave t) past = (e : Entry) × (task_of t (alive past) ≡ Some e) × ((done t past || marked t past) ≡ true)

-- own: each step of the history may come after those before it
abbrev pub IsLawful : Opening → List Step → Type 0
IsLawful o [] = ⊤
IsLawful o (step ∷ past) = IsLawful o past × May o step past
