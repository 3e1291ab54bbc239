-- Rests on `specs/Happened.antt`; no promise rests on it.
use Rattle.std.specs.Prelude.{◌≡◌}
use Rattle.command_model.specs.PlainReply.{PlainReply}
use Rattle.unit_model.specs.declared.reason.Reason.{Reason}
use Rattle.unit_model.specs.Jobs.{PlainJob}
use Rattle.device_model.specs.Transitions.{Transition}

-- of the Enter of a job: its task entered, its unit was full, or it was refused memory

abbrev pub IsEnter : PlainJob → Transition → Type 0
IsEnter x (Transition.Run y) = y ≡ x
IsEnter x (Transition.Park y) = y ≡ x
IsEnter x d = ⊥

abbrev pub IsFull : PlainJob → Transition → Type 0
IsFull x (Transition.EnterFull y) = y ≡ x
IsFull x d = ⊥

-- of its Commit: its command ran, it was refused memory, or its task was marked

abbrev pub IsCommit : PlainJob → PlainReply → Transition → Type 0
IsCommit x r (Transition.Commit k y q) = (y ≡ x) × (q ≡ r)
IsCommit x r (Transition.Withhold k y q) = (y ≡ x) × (q ≡ r)
IsCommit x r d = ⊥

abbrev pub IsBusy : PlainJob → Transition → Type 0
IsBusy x (Transition.CommitBusy k y) = y ≡ x
IsBusy x d = ⊥

abbrev pub IsAbort : PlainJob → Reason → Transition → Type 0
IsAbort x why (Transition.CommitAborted k y q) = (y ≡ x) × (q ≡ why)
IsAbort x why d = ⊥
