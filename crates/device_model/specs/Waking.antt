-- Which events may apply after a transition that didn't before.
use Rattle.std.specs.Prelude.{◌≡◌, ◌⊎◌, List, [], ◌∷◌, ⊤}
use Rattle.device_model.specs.World.{PlainWorld, owner}
use Rattle.device_model.specs.Events.{Event}
use Rattle.device_model.specs.Transitions.{Transition, queue_fetched, queue_of_job}

abbrev pub IsAmong : List Event → Event → Type 0
IsAmong [] e = ⊥
IsAmong (x ∷ xs) e = (e ≡ x) ⊎ IsAmong xs e

-- of any queue
abbrev pub IsFetch : Event → Type 0
IsFetch (Event.Fetch i) = ⊤
IsFetch e = ⊥

-- of any seat
abbrev pub IsTake : Event → Type 0
IsTake (Event.Take k) = ⊤
IsTake e = ⊥

-- of any seat
abbrev pub IsResume : Event → Type 0
IsResume (Event.Resume k) = ⊤
IsResume e = ⊥

-- the device takes it, not its guest, its operator or its host
abbrev pub IsOwn : Event → Type 0
IsOwn (Event.Poke x) = ⊥
IsOwn (Event.Prepare k) = ⊥
IsOwn (Event.Hard unit_index) = ⊥
IsOwn (Event.Resize unit_index blocks) = ⊥
IsOwn Event.Wake = ⊥
IsOwn (Event.Deal unit_index x) = ⊥
IsOwn e = ⊤

-- whoever writes memory wakes each Fetch, since the guest's rings lie there; a job that was put wakes each Take; jobs that
-- are to be tried again wake each Resume
abbrev pub Wakes : PlainWorld → Transition → Event → Type 0
Wakes w (Transition.Poke x) e = IsFetch e
Wakes w (Transition.Arrive f x) e = IsAmong (Event.Enter (queue_fetched f) ∷ []) e
Wakes w (Transition.Refuse f a) e = IsAmong (Event.Direct (queue_fetched f) ∷ []) e
Wakes w (Transition.Open f g) e = IsAmong (Event.Mark ∷ Event.AnswerTmf ∷ []) e
Wakes w (Transition.UseBuffer f xs) e = IsFetch e
Wakes w (Transition.Run x) e =
    IsAmong (Event.Fetch (queue_of_job x) ∷ Event.Put (owner w.workers (queue_of_job x)) ∷ []) e
Wakes w (Transition.Park x) e = IsAmong (Event.Fetch (queue_of_job x) ∷ []) e
Wakes w (Transition.EnterFull x) e = IsAmong (Event.Direct (queue_of_job x) ∷ []) e
Wakes w (Transition.EnterBusy x) e = IsAmong (Event.Direct (queue_of_job x) ∷ []) e
Wakes w (Transition.Direct c o xs) e = IsFetch e
Wakes w (Transition.Put k x) e = IsTake e
Wakes w (Transition.Keep k x) e = IsAmong (Event.Commit k ∷ []) e
Wakes w (Transition.Take k from x) e = IsAmong (Event.Commit k ∷ []) e
Wakes w (Transition.Commit k x r) e = IsAmong (Event.Answer k ∷ []) e
Wakes w (Transition.CommitBusy k x) e = IsAmong (Event.Answer k ∷ []) e
Wakes w (Transition.CommitAborted k x why) e = IsAmong (Event.Answer k ∷ []) e
Wakes w (Transition.Defer k x) e = IsAmong (Event.Put k ∷ Event.Take k ∷ Event.Resume k ∷ []) e
Wakes w (Transition.Withhold k x r) e = IsAmong (Event.Put k ∷ Event.Take k ∷ Event.Resume k ∷ []) e
Wakes w (Transition.Conclude k x r) e = IsAmong (Event.Answer k ∷ []) e
Wakes w Transition.Wake e = IsResume e
Wakes w (Transition.Resume k x) e = IsAmong (Event.Commit k ∷ []) e
Wakes w (Transition.Answer k x o xs) e = IsFetch e ⊎ IsAmong (Event.Leave k ∷ []) e
Wakes w (Transition.Leave k unit_index t jobs) e = IsAmong (Event.Put k ∷ Event.Take k ∷ Event.Resume k ∷ Event.Check ∷ []) e
Wakes w (Transition.Mark t p m jobs) e = IsResume e ⊎ IsAmong (Event.Put 0 ∷ Event.Check ∷ []) e
Wakes w (Transition.Ask t unit_index rule b) e = IsAmong (Event.Check ∷ []) e
Wakes w (Transition.MarkRefused t) e = IsAmong (Event.Check ∷ Event.AnswerTmf ∷ []) e
Wakes w (Transition.Check t p) e = IsAmong (Event.AnswerTmf ∷ []) e
Wakes w (Transition.Respond c r xs) e = IsFetch e
Wakes w (Transition.Hard p jobs) e = IsResume e ⊎ IsAmong (Event.Put w.workers ∷ Event.Raise ∷ []) e
Wakes w (Transition.Resize unit_index blocks) e = IsAmong (Event.Raise ∷ []) e
Wakes w (Transition.Give report c xs) e = IsFetch e
Wakes w d e = ⊥
