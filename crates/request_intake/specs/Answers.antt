-- The bytes that answer a request: a response, and the data behind it (VIRTIO 1.2 §5.6.6.1).
use Rattle.std.specs.Prelude.{ℕ, ◌+◌, ◌-◌, List, [], ◌++◌, Option, None}
use Rattle.std.specs.Option.{option_map}
use Rattle.arrayvec.specs.ArrayVec.{ArrayVec}
use Rattle.sense.specs.Format.{sent}
use Rattle.sense.specs.declared.Sense.{Sense}
use Rattle.scsi_codec.specs.Responses.{response_bytes}
use Rattle.scsi_codec.specs.declared.responses.ResponseCode.{ResponseCode}
use Rattle.scsi_codec.specs.declared.responses.ResponseCode.TheVariants as code
use Rattle.command_model.specs.PlainReply.{PlainReply}
use Rattle.command_model.specs.Statuses.{busy, task_set_full}
use Rattle.request_intake.specs.declared.answer.ChainLengths.{ChainLengths}

-- a response other than OK: no status, no residual, no sense, no data
abbrev pub failed : ResponseCode → List ℕ
failed c = response_bytes (record { code = c; status = 0; residual = 0; sense = None })

-- the data-out and data-in bytes of a chain, less those that were moved
abbrev pub residual_of : ChainLengths → ℕ → ℕ
residual_of n moved = (n.readable - 51) + (n.writable - 108) - moved

-- the sense field of a response, by the format in which sense data is sent
abbrev pub sense_data : Sense → ArrayVec ℕ
sense_data s = record { items = sent s }

-- response OK, with the status of a command
abbrev pub ok_bytes : ChainLengths → ℕ → Option Sense → ℕ → List ℕ
ok_bytes n status sense moved =
    response_bytes
    (record { code = code.Ok; status = status; residual = residual_of n moved; sense = option_map sense_data sense })

-- response OK with a reply, and its data behind it
abbrev pub answer_of_reply : ChainLengths → PlainReply → List ℕ
answer_of_reply n r = ok_bytes n r.status r.sense r.moved ++ r.payload

-- a status with no sense data, which moves nothing
abbrev pub status_reply : ℕ → PlainReply
status_reply status = record { status = status; sense = None; payload = []; moved = 0 }

-- BUSY, TASK SET FULL (SAM-5 §5.3.1)
abbrev pub busy_reply : PlainReply
busy_reply = status_reply busy

abbrev pub full_reply : PlainReply
full_reply = status_reply task_set_full
