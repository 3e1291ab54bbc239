-- What the transitions of a trace tell. The newest stands first.
use Rattle.std.specs.Prelude.{ℕ, ◌≡◌, ◌⊎◌, ⊤, true, List, [], ◌∷◌}
use Rattle.ring_core.specs.declared.log.Ticket.{Ticket}
use Rattle.unit_model.specs.Jobs.{PlainJob}
use Rattle.task_mgmt.specs.declared.function.Mark.{Mark as MarkAt}
use Rattle.device_model.specs.Parts.{PlainFetch}
use Rattle.device_model.specs.Transitions.{Transition}

-- some transition of them is so
abbrev pub Happened : (Transition → Type 0) → List Transition → Type 0
Happened P [] = ⊥
Happened P (d ∷ past) = P d ⊎ Happened P past

-- the transitions up to one of them
abbrev pub IsBeginning : List Transition → List Transition → Type 0
IsBeginning past [] = past ≡ []
IsBeginning past (d ∷ ds) = (past ≡ d ∷ ds) ⊎ IsBeginning past ds

abbrev pub IsFetch : PlainFetch → Transition → Type 0
IsFetch f (Transition.Arrive g x) = g ≡ f
IsFetch f (Transition.Refuse g a) = g ≡ f
IsFetch f (Transition.Open g k) = g ≡ f
IsFetch f (Transition.Hold g) = g ≡ f
IsFetch f (Transition.UseBuffer g xs) = g ≡ f
IsFetch f d = ⊥

-- of the Enter of a job: its task entered, its unit was full, or it was refused memory

abbrev pub IsShed : PlainJob → Transition → Type 0
IsShed x (Transition.EnterBusy y) = y ≡ x
IsShed x d = ⊥

-- of its Commit: its command ran, it was refused memory, or its task was marked

-- the chain of a ticket is answered, from its queue's slot or from a hand
abbrev pub IsAnswer : Ticket → Transition → Type 0
IsAnswer t (Transition.Direct c o xs) = c.ticket ≡ t
IsAnswer t (Transition.Answer k x o xs) = x.chain.ticket ≡ t
IsAnswer t d = ⊥

-- Of the function of a ticket

-- it marks a unit, at a place of its history
abbrev pub IsMark : Ticket → MarkAt → Transition → Type 0
IsMark t p (Transition.Mark u q m jobs) = (u ≡ t) × (q ≡ p)
IsMark t p d = ⊥

-- it looks at a unit, and finds a task
abbrev pub IsFound : Ticket → Transition → Type 0
IsFound t (Transition.Ask u unit_index rule b) = (u ≡ t) × (b ≡ true)
IsFound t d = ⊥

-- a mark of it is refused memory
abbrev pub IsFail : Ticket → Transition → Type 0
IsFail t (Transition.MarkRefused u) = u ≡ t
IsFail t d = ⊥

-- it marks or looks at this unit
abbrev pub IsVisit : Ticket → ℕ → Transition → Type 0
IsVisit t unit_index (Transition.Mark u p m jobs) = (u ≡ t) × (p.unit ≡ unit_index)
IsVisit t unit_index (Transition.Ask u k rule b) = (u ≡ t) × (k ≡ unit_index)
IsVisit t unit_index d = ⊥

-- a unit is asked for a task that it doesn't have, or is given a ticket before one that it saw
abbrev pub IsLoss : Transition → Type 0
IsLoss (Transition.CommitUnknown k x) = ⊤
IsLoss (Transition.EnterStale x) = ⊤
IsLoss d = ⊥

-- none of these happens
abbrev pub NoneIsLost : List Transition → Type 0
NoneIsLost ds = Happened IsLoss ds → ⊥
