-- What is decided of a chain of the control queue (VIRTIO 1.2 §5.6.6.2).
use Rattle.std.specs.Prelude.{ℕ, nat_lt, if◌then◌else◌, List, [], Result, Ok, Err}
use Rattle.scsi_codec.specs.ControlQueue.{answer_len, function_bytes, notification_bytes}
use Rattle.scsi_codec.specs.declared.lun.Address.{Address}
use Rattle.scsi_codec.specs.declared.control_queue.Control.{Control}
use Rattle.scsi_codec.specs.declared.control_queue.Control.TheVariants.{TaskManagement, AsynchronousNotification, MalformedFunction, MalformedNotification}
use Rattle.scsi_codec.specs.declared.control_queue.FunctionResponse.{FunctionResponse}
use Rattle.scsi_codec.specs.declared.control_queue.FunctionResponse.TheVariants as function
use Rattle.scsi_codec.specs.declared.responses.ResponseCode.TheVariants as code
use Rattle.task_mgmt.specs.declared.control.ControlDecision.{ControlDecision}
use Rattle.task_mgmt.specs.declared.control.ControlDecision.TheVariants.{Direct, Opens}
use Rattle.task_mgmt.specs.Functions.{PlainFunction}
use Rattle.task_mgmt.specs.Demands.{demanded, begun}

-- a function opens, or its refusal is the answer
abbrev pub decided_of_function : Result PlainFunction FunctionResponse → ControlDecision
decided_of_function (Ok f) = Opens f
decided_of_function (Err response) = Direct (function_bytes response)

-- with room for the answer. No events are offered: a notification reports none. What is malformed is answered that it
-- failed, which is own.
abbrev pub decided_with_room : List Address → Control → ControlDecision
decided_with_room units (TaskManagement subtype address id) =
    decided_of_function (begun (demanded units subtype address id))
decided_with_room units AsynchronousNotification = Direct (notification_bytes 0 code.Ok)
decided_with_room units MalformedFunction = Direct (function_bytes function.Failure)
decided_with_room units MalformedNotification = Direct (notification_bytes 0 code.Failure)

-- own: without room for the answer the chain is used with length 0, and no function opens
abbrev pub decided_of : List Address → Control → ℕ → ControlDecision
decided_of units c writable = if nat_lt writable (answer_len c) then Direct [] else decided_with_room units c
