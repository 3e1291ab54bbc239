-- A request of a request queue (VIRTIO 1.2 §5.6.6.1).
use Rattle.std.specs.Prelude.{ℕ, ◌≡◌, ◌<◌, ◌≤◌, nat_lt, if◌then◌else◌, List, length, drop, slice_index, slice_range, Option, Result, Ok, Err, Some, None}
use Rattle.byteorder.specs.Endian.{little_number}
use Rattle.scsi_codec.specs.Lun.{IsAddress, ReadsAddress, address_in}
use Rattle.scsi_codec.specs.declared.lun.Address.{Address}
use Rattle.scsi_codec.specs.declared.requests.Request.{Request}
use Rattle.scsi_codec.specs.declared.requests.CodecFault.{CodecFault}
use Rattle.scsi_codec.specs.declared.requests.CodecFault.TheVariants.{ShortRequest, ShortResponse, BadAddress}

-- What stands where: lun[8] from byte 0, le64 id from 8, task_attr at 16, prio at 17, crn at 18,
-- cdb[32] from 19, and the data out from 51 on. prio and crn may be anything.
pub record IsRequest (bytes : List ℕ) (r : Request) (data_out : List ℕ) : Type 0 where
  pub whole : 51 ≤ length bytes
  pub lun_at_0 : IsAddress (slice_range bytes 0 8) r.address
  pub id_at_8 : r.id ≡ little_number 8 (drop 8 bytes)
  pub task_attr_at_16 : r.attribute ≡ slice_index bytes 16
  pub cdb_at_19 : r.cdb ≡ slice_range bytes 19 51
  pub data_from_51 : data_out ≡ drop 51 bytes

-- a request, in a chain with room for its response
pub record HoldsRequest (bytes : List ℕ) (writable_len : ℕ) (r : Request) : Type 0 where
  pub request : IsRequest bytes r (drop 51 bytes)
  pub room : 108 ≤ writable_len

-- why a chain holds none, the first cause in this order
abbrev pub IsRefused : List ℕ → ℕ → CodecFault → Type 0
IsRefused bytes writable_len ShortResponse = writable_len < 108
IsRefused bytes writable_len ShortRequest = (108 ≤ writable_len) × (length bytes < 51)
IsRefused bytes writable_len BadAddress =
    (108 ≤ writable_len) × (51 ≤ length bytes) × ReadsAddress (slice_range bytes 0 8) None

-- what a chain reads as
abbrev pub ReadsRequest : List ℕ → ℕ → Result Request CodecFault → Type 0
ReadsRequest bytes writable_len (Ok r) = HoldsRequest bytes writable_len r
ReadsRequest bytes writable_len (Err fault) = IsRefused bytes writable_len fault

-- the request in 51 bytes or more, whose first eight name this unit, if any
abbrev pub reading_at : Option Address → List ℕ → Result Request CodecFault
reading_at None bytes = Err BadAddress
reading_at (Some a) bytes =
    Ok (record {
      address = a;
      id = little_number 8 (drop 8 bytes);
      attribute = slice_index bytes 16;
      cdb = slice_range bytes 19 51;
    })

-- the one thing that a chain reads as
abbrev pub reading : List ℕ → ℕ → Result Request CodecFault
reading bytes writable_len =
    if nat_lt writable_len 108 then Err ShortResponse
    else (if nat_lt (length bytes) 51 then Err ShortRequest else reading_at (address_in (slice_range bytes 0 8)) bytes)
