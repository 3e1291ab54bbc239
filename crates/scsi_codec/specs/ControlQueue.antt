-- The functions of the control queue (VIRTIO 1.2 §5.6.6.2).
use Rattle.std.specs.Prelude.{ℕ, ◌≡◌, ◌<◌, ◌≤◌, ◌⊎◌, List, [], ◌∷◌, ◌++◌, length, drop, slice_range}
use Rattle.byteorder.specs.Endian.{little_number, little_bytes}
use Rattle.scsi_codec.specs.Lun.{ReadsAddress}
use Rattle.scsi_codec.specs.Responses.{response_number}
use Rattle.scsi_codec.specs.declared.responses.ResponseCode.{ResponseCode}
use Rattle.scsi_codec.specs.declared.control_queue.Control.{Control}
use Rattle.scsi_codec.specs.declared.control_queue.Control.TheVariants.{TaskManagement, AsynchronousNotification, MalformedFunction, MalformedNotification}
use Rattle.scsi_codec.specs.declared.control_queue.FunctionResponse.{FunctionResponse}
use Rattle.scsi_codec.specs.declared.control_queue.FunctionResponse.TheVariants as function

-- The first four bytes are this le32 type: 0 is task management, 1 an asynchronous notification
-- query, 2 a subscription.
abbrev pub HasType : List ℕ → ℕ → Type 0
HasType bytes type = (4 ≤ length bytes) × (little_number 4 bytes ≡ type)

abbrev pub IsNotification : List ℕ → Type 0
IsNotification bytes = HasType bytes 1 ⊎ HasType bytes 2

-- Task management is le32 type, le32 subtype, lun[8], le64 id. A notification is le32 type, lun[8],
-- le32 event_requested, of which only the length counts. A malformed function is too short for a
-- type, too short for task management, or of an unknown type.
abbrev pub IsControl : List ℕ → Control → Type 0
IsControl bytes (TaskManagement subtype address id) =
    HasType bytes 0 × (24 ≤ length bytes)
    × (subtype ≡ little_number 4 (drop 4 bytes))
    × ReadsAddress (slice_range bytes 8 16) address
    × (id ≡ little_number 8 (drop 16 bytes))
IsControl bytes AsynchronousNotification = IsNotification bytes × (16 ≤ length bytes)
IsControl bytes MalformedNotification = IsNotification bytes × (length bytes < 16)
IsControl bytes MalformedFunction =
    (length bytes < 4)
    ⊎ ((HasType bytes 0 × (length bytes < 24))
    ⊎ ((type : ℕ) × (2 < type) × HasType bytes type))

-- how many bytes the answer has: u8 response, or le32 event_actual and u8 response
abbrev pub answer_len : Control → ℕ
answer_len (TaskManagement subtype address id) = 1
answer_len MalformedFunction = 1
answer_len AsynchronousNotification = 5
answer_len MalformedNotification = 5

-- the numbers of the responses to task management
abbrev pub function_number : FunctionResponse → ℕ
function_number function.Complete = 0
function_number function.BadTarget = 3
function_number function.Failure = 9
function_number function.Succeeded = 10
function_number function.Rejected = 11
function_number function.IncorrectLun = 12

-- the answer to task management: u8 response
abbrev pub function_bytes : FunctionResponse → List ℕ
function_bytes response = function_number response ∷ []

-- the answer to a notification: le32 event_actual, u8 response
abbrev pub notification_bytes : ℕ → ResponseCode → List ℕ
notification_bytes actual response = little_bytes 4 actual ++ (response_number response ∷ [])
