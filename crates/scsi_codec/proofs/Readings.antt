-- Bytes are read in one way, and refused only where there is none.
use Rattle.std.proofs.Common.{◌≡◌, ◌≢◌, ℕ, ◌≤◌, inl, inr, List, length, drop, slice_range, slice_index, Option, Some, None, Result, Ok, Err, refl, ap, arith}
use Rattle.std.proofs.lemmas.Grind.{common_steps}
use Rattle.std.proofs.lemmas.Bool.{cases_eq, cases_lt}
use Rattle.byteorder.specs.Endian.{little_number}
use Rattle.scsi_codec.specs.Lun.{ReadsAddress, AreBytes}
use Rattle.scsi_codec.specs.Requests.{IsRequest, HoldsRequest, IsRefused, ReadsRequest}
use Rattle.scsi_codec.specs.ControlQueue.{IsNotification, IsControl}
use Rattle.scsi_codec.specs.declared.lun.Address.{Address}
use Rattle.scsi_codec.specs.declared.requests.Request.{Request}
use Rattle.scsi_codec.specs.declared.requests.CodecFault.{CodecFault}
use Rattle.scsi_codec.specs.declared.requests.CodecFault.TheVariants.{ShortRequest, ShortResponse, BadAddress}
use Rattle.scsi_codec.specs.declared.control_queue.Control.{Control}
use Rattle.scsi_codec.specs.declared.control_queue.Control.TheVariants.{TaskManagement, AsynchronousNotification, MalformedFunction, MalformedNotification}
use Rattle.scsi_codec.proofs.Units.{one_unit, reads_once, some_unit, bytes_of_slice}

pub unread : (bytes : List ℕ) (len : ℕ) (fault : CodecFault) (r : Request) (x : List ℕ)
    → IsRefused bytes len fault → fault ≢ ShortResponse → ¬ IsRequest bytes r x
unread bytes len ShortResponse r x refused other is = other refl
unread bytes len ShortRequest r x refused other is = let h = is.whole in omega arith
unread bytes len BadAddress r x refused other is = refused.2 r.address is.lun_at_0

pub holds_none : (bytes : List ℕ) (len : ℕ) (fault : CodecFault) (r : Request) → IsRefused bytes len fault → ¬ HoldsRequest bytes len r
holds_none bytes len ShortResponse r refused is = let h = is.room in omega arith
holds_none bytes len ShortRequest r refused is = unread bytes len ShortRequest r (drop 51 bytes) refused (λ same. cc) is.request
holds_none bytes len BadAddress r refused is = unread bytes len BadAddress r (drop 51 bytes) refused (λ same. cc) is.request

one_request_of : (bytes : List ℕ) (a b : Request) (x : List ℕ) → IsRequest bytes a x → IsRequest bytes b x → a ≡ b
one_request_of bytes a b x p q = let same = one_unit (slice_range bytes 0 8) a.address b.address p.lun_at_0 q.lun_at_0 in grind (arith, common_steps, same)

pub one_fault : (bytes : List ℕ) (len : ℕ) (a b : CodecFault) → IsRefused bytes len a → IsRefused bytes len b → a ≡ b
one_fault bytes len ShortResponse ShortResponse p q = refl
one_fault bytes len ShortRequest ShortRequest p q = refl
one_fault bytes len BadAddress BadAddress p q = refl
one_fault bytes len ShortResponse ShortRequest p q = absurd (omega arith)
one_fault bytes len ShortResponse BadAddress p q = absurd (omega arith)
one_fault bytes len ShortRequest ShortResponse p q = absurd (omega arith)
one_fault bytes len ShortRequest BadAddress p q = absurd (omega arith)
one_fault bytes len BadAddress ShortResponse p q = absurd (omega arith)
one_fault bytes len BadAddress ShortRequest p q = absurd (omega arith)

pub one_reading_of : (bytes : List ℕ) (len : ℕ) (a b : Result Request CodecFault) → ReadsRequest bytes len a → ReadsRequest bytes len b → a ≡ b
one_reading_of bytes len (Ok a) (Ok b) p q = ap Ok (one_request_of bytes a b (drop 51 bytes) p.request q.request)
one_reading_of bytes len (Ok a) (Err f) p q = absurd (holds_none bytes len f a q p)
one_reading_of bytes len (Err f) (Ok b) p q = absurd (holds_none bytes len f b p q)
one_reading_of bytes len (Err f) (Err g) p q = ap Err (one_fault bytes len f g p q)

pub one_function : (bytes : List ℕ) (a b : Control) → IsControl bytes a → IsControl bytes b → a ≡ b
one_function bytes (TaskManagement s a i) (TaskManagement t b j) p q =
    let same = reads_once (slice_range bytes 8 16) a b p.3 q.3 in cc
one_function bytes AsynchronousNotification AsynchronousNotification p q = refl
one_function bytes MalformedFunction MalformedFunction p q = refl
one_function bytes MalformedNotification MalformedNotification p q = refl
one_function bytes (TaskManagement s a i) AsynchronousNotification p q = absurd (grind arith)
one_function bytes (TaskManagement s a i) MalformedFunction p q = absurd (grind arith)
one_function bytes (TaskManagement s a i) MalformedNotification p q = absurd (grind arith)
one_function bytes AsynchronousNotification (TaskManagement s a i) p q = absurd (grind arith)
one_function bytes AsynchronousNotification MalformedFunction p q = absurd (grind arith)
one_function bytes AsynchronousNotification MalformedNotification p q = absurd (grind arith)
one_function bytes MalformedFunction (TaskManagement s a i) p q = absurd (grind arith)
one_function bytes MalformedFunction AsynchronousNotification p q = absurd (grind arith)
one_function bytes MalformedFunction MalformedNotification p q = absurd (grind arith)
one_function bytes MalformedNotification (TaskManagement s a i) p q = absurd (grind arith)
one_function bytes MalformedNotification AsynchronousNotification p q = absurd (grind arith)
one_function bytes MalformedNotification MalformedFunction p q = absurd (grind arith)

reading_of_whole : (bytes : List ℕ) (len : ℕ) → 108 ≤ len → 51 ≤ length bytes
    → ((x : Option Address) × ReadsAddress (slice_range bytes 0 8) x) → (x : Result Request CodecFault) × ReadsRequest bytes len x
reading_of_whole bytes len room whole (None, no_unit) = (Err BadAddress, (room, whole, no_unit))
reading_of_whole bytes len room whole (Some a, unit) =
    let r : Request = record {
      address = a;
      id = little_number 8 (drop 8 bytes);
      attribute = slice_index bytes 16;
      cdb = slice_range bytes 19 51;
    } in
    let is : IsRequest bytes r (drop 51 bytes) = record {
      whole = whole;
      lun_at_0 = unit;
      id_at_8 = refl;
      task_attr_at_16 = refl;
      cdb_at_19 = refl;
      data_from_51 = refl;
    } in
    (Ok r, record { request = is; room = room })

pub some_reading_of : (bytes : List ℕ) (len : ℕ) → AreBytes bytes → (x : Result Request CodecFault) × ReadsRequest bytes len x
some_reading_of bytes len are = elim (cases_lt len 108) [
  | inl little ↦ (Err ShortResponse, little)
  | inr room ↦ elim (cases_lt (length bytes) 51) [
    | inl short ↦ (Err ShortRequest, (room, short))
    | inr whole ↦ reading_of_whole bytes len room whole (some_unit (slice_range bytes 0 8) (bytes_of_slice bytes 0 8 are))
  ]
]

function_of_type : (bytes : List ℕ) → AreBytes bytes → 4 ≤ length bytes → (x : Control) × IsControl bytes x
function_of_type bytes are typed = elim (cases_eq (little_number 4 bytes) 0) [
  | inl is0 ↦ elim (cases_lt (length bytes) 24) [
    | inl short ↦ (MalformedFunction, inr (inl ((typed, is0), short)))
    | inr whole ↦
        let unit : (x : Option Address) × ReadsAddress (slice_range bytes 8 16) x = some_unit (slice_range bytes 8 16) (bytes_of_slice bytes 8 16 are) in (
          TaskManagement (little_number 4 (drop 4 bytes)) unit.0 (little_number 8 (drop 16 bytes)),
          ((typed, is0), whole, refl, unit.1, refl),
        )
  ]
  | inr not0 ↦ elim (cases_lt 2 (little_number 4 bytes)) [
    | inl above ↦ (MalformedFunction, inr (inr (little_number 4 bytes, above, (typed, refl))))
    | inr within ↦
        let notification : IsNotification bytes = grind arith in
        elim (cases_lt (length bytes) 16) [
          | inl short ↦ (MalformedNotification, (notification, short))
          | inr whole ↦ (AsynchronousNotification, (notification, whole))
        ]
  ]
]

pub some_function : (bytes : List ℕ) → AreBytes bytes → (x : Control) × IsControl bytes x
some_function bytes are = elim (cases_lt (length bytes) 4) [
  | inl short ↦ (MalformedFunction, inl short)
  | inr typed ↦ function_of_type bytes are typed
]
