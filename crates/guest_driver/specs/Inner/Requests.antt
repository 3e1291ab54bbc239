-- A request on its way to the device, and where its buffers go.
use Rattle.std.specs.Prelude.{ℕ, ◌≡◌, ◌≤◌, ◌<◌, ◌+◌, ◌%◌, List, [], length, Some}
use Rattle.scsi_codec.specs.ControlQueue.{IsControl}
use Rattle.scsi_codec.specs.Lun.{IsAddress}
use Rattle.scsi_codec.specs.Requests.{IsRequest}
use Rattle.scsi_codec.specs.declared.control_queue.Control.TheVariants as control
use Rattle.scsi_codec.specs.declared.lun.Address.{Address}
use Rattle.script_syntax.specs.declared.send.Send.{Send}
use Rattle.script_syntax.specs.declared.send.TaskManagement.{TaskManagement}

-- The bytes of a request before its data out (VIRTIO 1.2, 5.6.6.1): whatever unit its lun names, a
-- device reads them as the request to that unit.
pub record IsHead (bytes : List ℕ) (send : Send) : Type 0 where
  pub whole : length bytes ≡ 51
  pub read :
      (unit : Address) → IsAddress send.lun unit
      → IsRequest bytes (record { address = unit; id = send.id; attribute = send.attribute; cdb = send.cdb }) []

-- The bytes of a task management function (VIRTIO 1.2, 5.6.6.2): whatever unit its lun names, a device
-- reads them as that function, for that unit.
pub record IsFunction (bytes : List ℕ) (function : TaskManagement) : Type 0 where
  pub whole : length bytes ≡ 24
  pub read :
      (unit : Address) → IsAddress function.lun unit
      → IsControl bytes (control.TaskManagement function.subtype (Some unit) function.id)

-- the lowest multiple of 16 at or above an address
pub record IsNextPlace (end next : ℕ) : Type 0 where
  pub aligned : next % 16 ≡ 0
  pub behind : end ≤ next
  pub nearest : next < end + 16
