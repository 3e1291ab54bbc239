-- What is decided of a request when it is fetched: the first case that holds.
use Rattle.std.specs.Prelude.{ℕ, ◌-◌, ◌==◌, ◌&&◌, ◌||◌, nat_lt, Bool, List, [], drop, Option, Some, None, Result, Ok, Err, if◌then◌else◌}
use Rattle.sense.specs.Conditions.{invalid_message_error}
use Rattle.cdb.specs.Decoding.{command}
use Rattle.cdb.specs.Medium.{asks_medium}
use Rattle.cdb.specs.Need.{need_of}
use Rattle.cdb.specs.declared.commands.Command.{Command}
use Rattle.scsi_codec.specs.Requests.{reading}
use Rattle.scsi_codec.specs.declared.requests.Request.{Request}
use Rattle.scsi_codec.specs.declared.requests.CodecFault.{CodecFault}
use Rattle.scsi_codec.specs.declared.requests.CodecFault.TheVariants.{ShortRequest, ShortResponse, BadAddress}
use Rattle.scsi_codec.specs.declared.responses.ResponseCode.{ResponseCode}
use Rattle.scsi_codec.specs.declared.responses.ResponseCode.TheVariants as code
use Rattle.command_model.specs.Absent.{absent_reply}
use Rattle.command_model.specs.PlainReply.{PlainReply, refusal}
use Rattle.command_model.specs.Data.{data_of}
use Rattle.request_intake.specs.Answers.{failed, answer_of_reply}
use Rattle.request_intake.specs.Inventory.{PlainInventory, has_target, index_of, profile_of}
use Rattle.request_intake.specs.declared.answer.ChainLengths.{ChainLengths}
use Rattle.request_intake.specs.declared.attribute.TaskAttribute.{TaskAttribute}
use Rattle.request_intake.specs.declared.attribute.TaskAttribute.TheVariants.{Simple, Ordered, HeadOfQueue}
use Rattle.request_intake.specs.declared.decision.Decision.{Decision}
use Rattle.request_intake.specs.declared.decision.Decision.TheVariants.{Direct, Enter}

-- task attributes by their numbers (VIRTIO 1.2 §5.6.6.1); ACA, 3, isn't known
abbrev pub attribute_of : ℕ → Option TaskAttribute
attribute_of n =
    if n == 0 then Some Simple else (if n == 1 then Some Ordered else (if n == 2 then Some HeadOfQueue else None))

-- data from the driver and for it: VIRTIO_SCSI_F_INOUT isn't offered (VIRTIO 1.2 §5.6.3)
abbrev pub goes_both_ways : ChainLengths → Bool
goes_both_ways n = nat_lt 51 n.readable && nat_lt 108 n.writable

-- more bytes are needed, one way or the other, than there are
abbrev pub overruns : ChainLengths → Command → Bool
overruns n c = nat_lt (n.readable - 51) (need_of c).out || nat_lt (n.writable - 108) (need_of c).into

-- The answers that need no unit, and the request that goes to one

abbrev pub fails : ResponseCode → Decision
fails c = Direct (failed c)

abbrev pub replies : ChainLengths → PlainReply → Decision
replies n r = Direct (answer_of_reply n r)

-- a LUN that is absent, or the unit at an index
abbrev pub decide_unit : Option ℕ → ChainLengths → List ℕ → Request → TaskAttribute → Command → Decision
decide_unit None n bytes r attribute c = replies n (absent_reply c)
decide_unit (Some unit_index) n bytes r attribute c =
    Enter unit_index (record { id = r.id; attribute = attribute; command = c; asks_medium = asks_medium r.cdb; data_out = data_of c (drop 51 bytes) })

-- a task attribute that isn't SIMPLE, ORDERED or HEAD OF QUEUE
abbrev pub decide_attribute : Option TaskAttribute → Option ℕ → ChainLengths → List ℕ → Request → Command → Decision
decide_attribute None unit_index n bytes r c = replies n (refusal invalid_message_error)
decide_attribute (Some attribute) unit_index n bytes r c = decide_unit unit_index n bytes r attribute c

-- of a request whose target is there, and whose unit is at this index, if anywhere: OVERRUN first
abbrev pub decide_command : Option ℕ → ChainLengths → List ℕ → Request → Command → Decision
decide_command unit_index n bytes r c =
    if overruns n c then fails code.Overrun else decide_attribute (attribute_of r.attribute) unit_index n bytes r c

-- a target that isn't there; else the command is that of the unit's profile
abbrev pub decide_address : PlainInventory → ChainLengths → List ℕ → Request → Decision
decide_address units n bytes r =
    if has_target units.addresses r.address.target
    then decide_command (index_of units.addresses r.address) n bytes r
    (command (profile_of units r.address) r.cdb)
    else fails code.BadTarget

-- too few writable bytes for a response; too few readable ones for a request, or data both ways; an address that isn't
-- readable
abbrev pub decide_reading : Result Request CodecFault → PlainInventory → ChainLengths → List ℕ → Decision
decide_reading (Err ShortResponse) units n bytes = Direct []
decide_reading (Err ShortRequest) units n bytes = fails code.Failure
decide_reading (Err BadAddress) units n bytes = if goes_both_ways n then fails code.Failure else fails code.BadTarget
decide_reading (Ok r) units n bytes =
    if goes_both_ways n then fails code.Failure else decide_address units n bytes r

-- what is decided of the first bytes of a chain with these lengths, where these units are there
abbrev pub decided : PlainInventory → List ℕ → ChainLengths → Decision
decided units bytes n = decide_reading (reading bytes n.writable) units n bytes
