-- When a transition may happen, the world's step, and what is reached.
use Rattle.std.specs.Prelude.{◌≡◌, true, false, List, [], ◌∷◌, length, ⊤}
use Rattle.guest_mem.specs.Memory.{LiesIn}
use Rattle.unit_model.specs.Steps.{Step}
use Rattle.unit_model.specs.Unit.{PlainUnit}
use Rattle.device_model.specs.World.{PlainWorld, Opens}
use Rattle.device_model.specs.Events.{Event}
use Rattle.device_model.specs.Transitions.{Transition, Action, event_of, action_of}
use Rattle.device_model.specs.Found.{UnitIs, MayStep}
use Rattle.device_model.specs.Event.Fetch.{Arrives, Refuses, OpensFunction, HoldsBuffer, UsesBuffer, Breaks, WantsFetch}
use Rattle.device_model.specs.Event.Enter.{Enters, EntersFull, EntersBusy, EntersStale}
use Rattle.device_model.specs.Event.Direct.{Directs}
use Rattle.device_model.specs.Event.HandOff.{Puts, KeepsJob, TakesJob}
use Rattle.device_model.specs.Event.Commit.{Commits, CommitsBusy, CommitsAborted, CommitsUnknown, Withholds, Concludes}
use Rattle.device_model.specs.Event.Answer.{Answers}
use Rattle.device_model.specs.Event.Leave.{Leaves}
use Rattle.device_model.specs.Event.Mark.{Marks, Asks, MarksRefused}
use Rattle.device_model.specs.Event.Check.{Checks}
use Rattle.device_model.specs.Event.AnswerTmf.{Responds}
use Rattle.device_model.specs.Event.Hard.{Resets}
use Rattle.device_model.specs.Event.Resize.{Resizes}
use Rattle.device_model.specs.Event.Deal.{Deals}
use Rattle.device_model.specs.Event.Raise.{Gives, Misses}
use Rattle.device_model.specs.Event.Wake.{Defers, Awakens, Resumes}
use Rattle.device_model.specs.After.{after}

-- the transition changes something, and may happen
abbrev pub Happens : Transition → PlainWorld → Type 0
Happens (Transition.Poke x) w = LiesIn (length w.memory) x.addr (length x.bytes)
Happens (Transition.Arrive f x) w = Arrives w f x
Happens (Transition.Refuse f a) w = Refuses w f a
Happens (Transition.Open f g) w = OpensFunction w f g
Happens (Transition.Hold f) w = HoldsBuffer w f
Happens (Transition.UseBuffer f xs) w = UsesBuffer w f xs
Happens (Transition.Break q n) w = Breaks w q n
Happens (Transition.Run x) w = Enters w x false
Happens (Transition.Park x) w = Enters w x true
Happens (Transition.EnterFull x) w = EntersFull w x
Happens (Transition.EnterBusy x) w = EntersBusy w x
Happens (Transition.EnterStale x) w = ⊥
Happens (Transition.Direct c o xs) w = Directs w c o xs
Happens (Transition.Put k x) w = Puts w k x
Happens (Transition.Keep k x) w = KeepsJob w k x
Happens (Transition.Take k from x) w = TakesJob w k from x
Happens (Transition.Commit k x r) w = Commits w k x r
Happens (Transition.CommitBusy k x) w = CommitsBusy w k x
Happens (Transition.CommitAborted k x why) w = CommitsAborted w k x why
Happens (Transition.CommitUnknown k x) w = ⊥
Happens (Transition.Defer k x) w = Defers w k x
Happens (Transition.Withhold k x r) w = Withholds w k x r
Happens (Transition.Conclude k x r) w = Concludes w k x r
Happens Transition.Wake w = Awakens w
Happens (Transition.Resume k x) w = Resumes w k x
Happens (Transition.Answer k x o xs) w = Answers w k x o xs
Happens (Transition.Leave k unit_index t jobs) w = Leaves w k unit_index t jobs
Happens (Transition.Mark t p m jobs) w = Marks w t p m jobs
Happens (Transition.Ask t unit_index rule b) w = Asks w t unit_index rule b
Happens (Transition.MarkRefused t) w = MarksRefused w t
Happens (Transition.Check t p) w = Checks w t p
Happens (Transition.Respond c r xs) w = Responds w c r xs
Happens (Transition.Hard p jobs) w = Resets w p jobs
Happens (Transition.Resize unit_index blocks) w = Resizes w unit_index blocks
Happens (Transition.Deal unit_index x) w = Deals w unit_index x
Happens (Transition.Give e c xs) w = Gives w e c xs
Happens (Transition.Miss e) w = Misses w e
Happens (Transition.Idle e) w = ⊥

-- or nothing does, where no transition of the event happens; or what a phase would do if the device's own parts didn't fit
-- together, which a law refuses
abbrev pub MayHappen : Transition → PlainWorld → Type 0
MayHappen (Transition.Idle e) w = (d : Transition) → event_of d ≡ e → Happens d w → ⊥
MayHappen (Transition.CommitUnknown k x) w = CommitsUnknown w k x
MayHappen (Transition.EnterStale x) w = EntersStale w x
MayHappen d w = Happens d w

-- one event and its action
pub record WorldStep (w : PlainWorld) (e : Event) (a : Action) (w' : PlainWorld) : Type 0 where
  pub transition : Transition
  pub event : event_of transition ≡ e
  pub action : action_of transition ≡ a
  pub may : MayHappen transition w
  pub is : w' ≡ after transition w

-- memory may be refused to these events alone; nothing is changed then
abbrev pub MayWant : Event → PlainWorld → Type 0
MayWant (Event.Fetch i) w = WantsFetch w i
MayWant (Event.Hard unit_index) w = (u : PlainUnit) × UnitIs w unit_index u
MayWant (Event.Resize unit_index blocks) w = (u : PlainUnit) × UnitIs w unit_index u × MayStep u (Step.Resize blocks)
MayWant e w = ⊥

-- an event and its action
pub record Occurrence : Type 0 where
  pub event : Event
  pub action : Action

-- the trace, newest first, leads step by step from one world to another
abbrev pub Runs : PlainWorld → List Occurrence → PlainWorld → Type 0
Runs old [] w = w ≡ old
Runs old (e ∷ past) w = (m : PlainWorld) × Runs old past m × WorldStep m e.event e.action w

pub record Reached (old : PlainWorld) (trace : List Occurrence) (w : PlainWorld) : Type 0 where
  pub opens : Opens old
  pub runs : Runs old trace w

-- the transitions of a run
abbrev pub transitions_of : (old : PlainWorld) (trace : List Occurrence) (w : PlainWorld) → Runs old trace w → List Transition
transitions_of old [] w r = []
transitions_of old (e ∷ past) w r = r.2.transition ∷ transitions_of old past r.0 r.1

-- Transitions fix the world: the laws are said over these.

abbrev pub occurrence_of : Transition → Occurrence
occurrence_of d = record { event = event_of d; action = action_of d }

abbrev pub world_of : PlainWorld → List Transition → PlainWorld
world_of old [] = old
world_of old (d ∷ past) = after d (world_of old past)

-- each transition might happen in the world before it
abbrev pub Leads : PlainWorld → List Transition → Type 0
Leads old [] = ⊤
Leads old (d ∷ past) = Leads old past × MayHappen d (world_of old past)
