-- The response to a request, before the data in (VIRTIO 1.2 §5.6.6.1).
use Rattle.std.specs.Prelude.{ℕ, ◌-◌, ◌<◌, ◌≤◌, ◌^◌, List, [], ◌∷◌, ◌++◌, replicate, Option, Some, None, IfSome}
use Rattle.arrayvec.specs.ArrayVec.{ArrayVec, array_vec_len}
use Rattle.byteorder.specs.Endian.{little_bytes}
use Rattle.scsi_codec.specs.declared.responses.Response.{Response}
use Rattle.scsi_codec.specs.declared.responses.ResponseCode.{ResponseCode}
use Rattle.scsi_codec.specs.declared.responses.ResponseCode.TheVariants as code

-- the numbers VIRTIO_SCSI_S_OK to VIRTIO_SCSI_S_FAILURE
abbrev pub response_number : ResponseCode → ℕ
response_number code.Ok = 0
response_number code.Overrun = 1
response_number code.Aborted = 2
response_number code.BadTarget = 3
response_number code.Reset = 4
response_number code.Busy = 5
response_number code.TransportFailure = 6
response_number code.TargetFailure = 7
response_number code.NexusFailure = 8
response_number code.Failure = 9

-- how many bytes of sense there are
abbrev pub sense_len : Option (ArrayVec ℕ) → ℕ
sense_len None = 0
sense_len (Some sense) = array_vec_len sense

-- sense[96]: the sense, and zeros past it
abbrev pub sense_area : Option (ArrayVec ℕ) → List ℕ
sense_area None = replicate 96 0
sense_area (Some sense) = sense.items ++ replicate (96 - array_vec_len sense) 0

-- le32 sense_len, le32 residual, le16 status_qualifier, u8 status, u8 response, sense[96]
abbrev pub response_bytes : Response → List ℕ
response_bytes r =
    little_bytes 4 (sense_len r.sense)
    ++ little_bytes 4 r.residual
    ++ little_bytes 2 0
    ++ (r.status ∷ [])
    ++ (response_number r.code ∷ [])
    ++ sense_area r.sense

-- the fields of a response: the residual has 32 bits, and sense has some byte, at most 96
pub record IsResponse (r : Response) : Type 0 where
  pub residual : r.residual < 2 ^ 32
  pub some : IfSome r.sense (λ sense. 0 < array_vec_len sense)
  pub fits : IfSome r.sense (λ sense. array_vec_len sense ≤ 96)
