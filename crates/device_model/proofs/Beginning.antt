-- A function that begins has found nothing, and was refused nothing.
use Rattle.std.proofs.Common.{◌≡◌, ℕ, Bool, true, false, nat_lt, if◌then◌else◌, List, [], Result, Ok, Err, refl, subst}
use Rattle.std.specs.Prelude.{⊤}
use Rattle.scsi_codec.specs.ControlQueue.{answer_len}
use Rattle.scsi_codec.specs.declared.lun.Address.{Address}
use Rattle.scsi_codec.specs.declared.control_queue.Control.{Control}
use Rattle.scsi_codec.specs.declared.control_queue.Control.TheVariants.{TaskManagement, AsynchronousNotification, MalformedFunction, MalformedNotification}
use Rattle.scsi_codec.specs.declared.control_queue.FunctionResponse.{FunctionResponse}
use Rattle.task_mgmt.specs.Control.{decided_of_function, decided_of, decided_with_room}
use Rattle.task_mgmt.specs.Demands.{demanded, begun}
use Rattle.task_mgmt.specs.Functions.{PlainFunction}
use Rattle.task_mgmt.specs.declared.kind.Kind.{Kind}
use Rattle.task_mgmt.specs.declared.control.ControlDecision.{ControlDecision}
use Rattle.task_mgmt.specs.declared.control.ControlDecision.TheVariants as managed

abbrev OpensFresh : ControlDecision → Type 0
OpensFresh (managed.Direct answer) = ⊤
OpensFresh (managed.Opens f) = (f.found ≡ false) × (f.refused ≡ false)

begun_fresh : (o : Result (Kind × List ℕ) FunctionResponse) → OpensFresh (decided_of_function (begun o))
begun_fresh (Ok (kind, unit_indices)) = (refl, refl)
begun_fresh (Err response) = tt

fresh_with_room : (units : List Address) (c : Control) → OpensFresh (decided_with_room units c)
fresh_with_room units (TaskManagement subtype address id) = begun_fresh (demanded units subtype address id)
fresh_with_room units AsynchronousNotification = tt
fresh_with_room units MalformedFunction = tt
fresh_with_room units MalformedNotification = tt

with_room : (b : Bool) (d : ControlDecision) → OpensFresh d → OpensFresh (if b then managed.Direct [] else d)
with_room true d h = tt
with_room false d h = h

pub opens_fresh : (units : List Address) (c : Control) (writable : ℕ) (f : PlainFunction)
    → decided_of units c writable ≡ managed.Opens f → (f.found ≡ false) × (f.refused ≡ false)
opens_fresh units c writable f e =
    subst OpensFresh e
    (with_room (nat_lt writable (answer_len c)) (decided_with_room units c) (fresh_with_room units c))
