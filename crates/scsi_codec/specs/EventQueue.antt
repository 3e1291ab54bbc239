-- An event of the event queue (VIRTIO 1.2 §5.6.6.3).
use Rattle.std.specs.Prelude.{ℕ, ◌<◌, ◌^◌, List, ◌++◌, replicate, Option, Some, None, IfSome}
use Rattle.byteorder.specs.Endian.{little_bytes}
use Rattle.scsi_codec.specs.Lun.{written_address}
use Rattle.scsi_codec.specs.declared.lun.Address.{Address}
use Rattle.scsi_codec.specs.declared.event_queue.Event.{Event}

-- the numbers VIRTIO_SCSI_T_NO_EVENT, VIRTIO_SCSI_T_TRANSPORT_RESET and VIRTIO_SCSI_T_PARAM_CHANGE,
-- and VIRTIO_SCSI_T_EVENTS_MISSED, the bit that may be set beside them
abbrev pub no_event : ℕ
no_event = 0

abbrev pub transport_reset : ℕ
transport_reset = 1

abbrev pub param_change : ℕ
param_change = 3

abbrev pub events_missed : ℕ
events_missed = 2 ^ 31

-- lun[8]: the unit as it is written, or zeros where there is none
abbrev pub lun_area : Option Address → List ℕ
lun_area None = replicate 8 0
lun_area (Some a) = written_address a

-- le32 event, lun[8], le32 reason
abbrev pub event_bytes : Event → List ℕ
event_bytes e = little_bytes 4 e.event ++ lun_area e.address ++ little_bytes 4 e.reason

-- VIRTIO_SCSI_T_EVENTS_MISSED with NO_EVENT, about no unit: what tells the driver that an event was missed
abbrev pub missed_event : Event
missed_event = record { event = events_missed; address = None; reason = 0 }

-- the values that an event has
pub record IsEvent (e : Event) : Type 0 where
  pub event : e.event < 2 ^ 32
  pub lun : IfSome e.address (λ a. a.lun < 16384)
  pub reason : e.reason < 2 ^ 32
