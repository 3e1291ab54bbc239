-- The fields of the commands that a unit of the wide profile evaluates, SPC-4 §6.35.3: the bits that are 1 in their CDB
-- usage data.
use Rattle.std.specs.Prelude.{ℕ, ◌≡◌, ◌+◌, ◌-◌, ◌^◌, ◌==◌, ◌&&◌, nat_le, List, [], ◌∷◌, ◌≢◌, ◌%◌, map, Bool, true, if◌then◌else◌}
use Rattle.cdb.specs.Fields.{bits, byte, number}
use Rattle.cdb.specs.Decoding.{command}
use Rattle.cdb.specs.declared.profile.Profile.TheVariants.{Wide}
use Rattle.cdb.specs.Opcodes.{control_of}

-- a field of a CDB: bits high to low of a byte, a whole byte, or bytes i to j as one number
pub data Field : Type 0 where
  Bits : ℕ → ℕ → ℕ → Field
  Whole : ℕ → Field
  Number : ℕ → ℕ → Field

-- what a CDB has there
abbrev pub value_of : Field → List ℕ → ℕ
value_of (Field.Bits i high low) cdb = bits i high low cdb
value_of (Field.Whole i) cdb = byte i cdb
value_of (Field.Number i j) cdb = number i j cdb

-- the bits of byte k that a field has, as a number
abbrev pub mask_of : Field → ℕ → ℕ
mask_of (Field.Bits i high low) k = if k == i then 2 ^ (high + 1) - 2 ^ low else 0
mask_of (Field.Whole i) k = if k == i then 0xff else 0
mask_of (Field.Number i j) k = if nat_le i k && nat_le k j then 0xff else 0

-- a command without service actions: its opcode, the fields that decide what it means, and those that are taken and change
-- nothing, as DPO, FUA, IMMED and UNMAP do. The opcode and NACA (bit 2 of the control byte) aren't named. If a bit of a field
-- is evaluated, all bits of the field are.
abbrev pub plain_commands : List (ℕ × List Field × List Field)
plain_commands =
    -- TEST UNIT READY
    (0x00, [], [])
    -- REQUEST SENSE: DESC, allocation length
    ∷ (0x03, Field.Bits 1 0 0 ∷ Field.Whole 4 ∷ [], [])
    -- FORMAT UNIT: FMTPINFO, LONGLIST, FMTDATA, DEFECT LIST FORMAT; CMPLST
    ∷ (0x04, Field.Bits 1 7 6 ∷ Field.Bits 1 5 5 ∷ Field.Bits 1 4 4 ∷ Field.Bits 1 2 0 ∷ [], Field.Bits 1 3 3 ∷ [])
    -- READ (6): address, length
    ∷ (0x08, Field.Bits 1 4 0 ∷ Field.Number 2 3 ∷ Field.Whole 4 ∷ [], [])
    -- WRITE (6)
    ∷ (0x0a, Field.Bits 1 4 0 ∷ Field.Number 2 3 ∷ Field.Whole 4 ∷ [], [])
    -- INQUIRY: EVPD, page code, allocation length
    ∷ (0x12, Field.Bits 1 0 0 ∷ Field.Whole 2 ∷ Field.Number 3 4 ∷ [], [])
    -- MODE SELECT (6): PF, SP, list length
    ∷ (0x15, Field.Bits 1 4 4 ∷ Field.Bits 1 0 0 ∷ Field.Whole 4 ∷ [], [])
    -- MODE SENSE (6): DBD, PC, page code, subpage code, allocation length
    ∷ (0x1a, Field.Bits 1 3 3 ∷ Field.Bits 2 7 6 ∷ Field.Bits 2 5 0 ∷ Field.Whole 3 ∷ Field.Whole 4 ∷ [], [])
    -- START STOP UNIT: POWER CONDITION, LOEJ, START; IMMED
    ∷ (0x1b, Field.Bits 4 7 4 ∷ Field.Bits 4 1 1 ∷ Field.Bits 4 0 0 ∷ [], Field.Bits 1 0 0 ∷ [])
    -- SEND DIAGNOSTIC: SELF-TEST CODE, list length; SELFTEST
    ∷ (0x1d, Field.Bits 1 7 5 ∷ Field.Number 3 4 ∷ [], Field.Bits 1 2 2 ∷ [])
    -- PREVENT ALLOW MEDIUM REMOVAL: PREVENT
    ∷ (0x1e, Field.Bits 4 1 0 ∷ [], [])
    -- READ CAPACITY (10)
    ∷ (0x25, [], [])
    -- READ (10): RDPROTECT, address, blocks; DPO and FUA
    ∷ (0x28, Field.Bits 1 7 5 ∷ Field.Number 2 5 ∷ Field.Number 7 8 ∷ [], Field.Bits 1 4 3 ∷ [])
    -- WRITE (10)
    ∷ (0x2a, Field.Bits 1 7 5 ∷ Field.Number 2 5 ∷ Field.Number 7 8 ∷ [], Field.Bits 1 4 3 ∷ [])
    -- WRITE AND VERIFY (10): also BYTCHK; DPO without FUA
    ∷ (0x2e, Field.Bits 1 2 1 ∷ Field.Bits 1 7 5 ∷ Field.Number 2 5 ∷ Field.Number 7 8 ∷ [], Field.Bits 1 4 4 ∷ [])
    -- VERIFY (10)
    ∷ (0x2f, Field.Bits 1 2 1 ∷ Field.Bits 1 7 5 ∷ Field.Number 2 5 ∷ Field.Number 7 8 ∷ [], Field.Bits 1 4 4 ∷ [])
    -- PRE-FETCH (10): address, blocks; IMMED
    ∷ (0x34, Field.Number 2 5 ∷ Field.Number 7 8 ∷ [], Field.Bits 1 1 1 ∷ [])
    -- SYNCHRONIZE CACHE (10)
    ∷ (0x35, Field.Number 2 5 ∷ Field.Number 7 8 ∷ [], Field.Bits 1 1 1 ∷ [])
    -- READ DEFECT DATA (10): REQ_PLIST, REQ_GLIST, DEFECT LIST FORMAT, allocation length
    ∷ (0x37, Field.Bits 2 4 4 ∷ Field.Bits 2 3 3 ∷ Field.Bits 2 2 0 ∷ Field.Number 7 8 ∷ [], [])
    -- WRITE SAME (10): WRPROTECT, ANCHOR, the obsolete bits, address, blocks; UNMAP
    ∷ (0x41, Field.Bits 1 7 5 ∷ Field.Bits 1 4 4 ∷ Field.Bits 1 2 1 ∷ Field.Number 2 5 ∷ Field.Number 7 8 ∷ [], Field.Bits 1 3 3 ∷ [])
    -- UNMAP: ANCHOR, list length
    ∷ (0x42, Field.Bits 1 0 0 ∷ Field.Number 7 8 ∷ [], [])
    -- MODE SELECT (10)
    ∷ (0x55, Field.Bits 1 4 4 ∷ Field.Bits 1 0 0 ∷ Field.Number 7 8 ∷ [], [])
    -- MODE SENSE (10): also LLBAA
    ∷ (0x5a, Field.Bits 1 4 4 ∷ Field.Bits 1 3 3 ∷ Field.Bits 2 7 6 ∷ Field.Bits 2 5 0 ∷ Field.Whole 3 ∷ Field.Number 7 8 ∷ [], [])
    -- READ (16)
    ∷ (0x88, Field.Bits 1 7 5 ∷ Field.Number 2 9 ∷ Field.Number 10 13 ∷ [], Field.Bits 1 4 3 ∷ [])
    -- COMPARE AND WRITE
    ∷ (0x89, Field.Bits 1 7 5 ∷ Field.Number 2 9 ∷ Field.Whole 13 ∷ [], Field.Bits 1 4 3 ∷ [])
    -- WRITE (16)
    ∷ (0x8a, Field.Bits 1 7 5 ∷ Field.Number 2 9 ∷ Field.Number 10 13 ∷ [], Field.Bits 1 4 3 ∷ [])
    -- ORWRITE (16): ORPROTECT, address, blocks; DPO and FUA
    ∷ (0x8b, Field.Bits 1 7 5 ∷ Field.Number 2 9 ∷ Field.Number 10 13 ∷ [], Field.Bits 1 4 3 ∷ [])
    -- WRITE AND VERIFY (16)
    ∷ (0x8e, Field.Bits 1 2 1 ∷ Field.Bits 1 7 5 ∷ Field.Number 2 9 ∷ Field.Number 10 13 ∷ [], Field.Bits 1 4 4 ∷ [])
    -- VERIFY (16)
    ∷ (0x8f, Field.Bits 1 2 1 ∷ Field.Bits 1 7 5 ∷ Field.Number 2 9 ∷ Field.Number 10 13 ∷ [], Field.Bits 1 4 4 ∷ [])
    -- PRE-FETCH (16)
    ∷ (0x90, Field.Number 2 9 ∷ Field.Number 10 13 ∷ [], Field.Bits 1 1 1 ∷ [])
    -- SYNCHRONIZE CACHE (16)
    ∷ (0x91, Field.Number 2 9 ∷ Field.Number 10 13 ∷ [], Field.Bits 1 1 1 ∷ [])
    -- WRITE SAME (16): also NDOB
    ∷ (
      0x93,
      Field.Bits 1 7 5 ∷ Field.Bits 1 4 4 ∷ Field.Bits 1 2 1 ∷ Field.Bits 1 0 0 ∷ Field.Number 2 9 ∷ Field.Number 10 13 ∷ [],
      Field.Bits 1 3 3 ∷ [],
    )
    -- REPORT LUNS: SELECT REPORT, allocation length
    ∷ (0xa0, Field.Whole 2 ∷ Field.Number 6 9 ∷ [], [])
    -- READ (12)
    ∷ (0xa8, Field.Bits 1 7 5 ∷ Field.Number 2 5 ∷ Field.Number 6 9 ∷ [], Field.Bits 1 4 3 ∷ [])
    -- WRITE (12)
    ∷ (0xaa, Field.Bits 1 7 5 ∷ Field.Number 2 5 ∷ Field.Number 6 9 ∷ [], Field.Bits 1 4 3 ∷ [])
    -- WRITE AND VERIFY (12)
    ∷ (0xae, Field.Bits 1 2 1 ∷ Field.Bits 1 7 5 ∷ Field.Number 2 5 ∷ Field.Number 6 9 ∷ [], Field.Bits 1 4 4 ∷ [])
    -- VERIFY (12)
    ∷ (0xaf, Field.Bits 1 2 1 ∷ Field.Bits 1 7 5 ∷ Field.Number 2 5 ∷ Field.Number 6 9 ∷ [], Field.Bits 1 4 4 ∷ [])
    -- READ DEFECT DATA (12)
    ∷ (0xb7, Field.Bits 1 4 4 ∷ Field.Bits 1 3 3 ∷ Field.Bits 1 2 0 ∷ Field.Number 6 9 ∷ [], [])
    ∷ []

-- a command with a service action, which stands in bits 4 to 0 of byte 1: its opcode, the service action, and the fields
-- besides
abbrev pub action_commands : List (ℕ × ℕ × List Field × List Field)
action_commands =
    -- READ CAPACITY (16): allocation length
    (0x9e, 0x10, Field.Number 10 13 ∷ [], [])
    -- GET LBA STATUS: address, allocation length
    ∷ (0x9e, 0x12, Field.Number 2 9 ∷ Field.Number 10 13 ∷ [], [])
    -- REPORT SUPPORTED OPERATION CODES: RCTD, REPORTING OPTIONS, requested opcode and service action, allocation length
    ∷ (0xa3, 0x0c, Field.Bits 2 7 7 ∷ Field.Bits 2 2 0 ∷ Field.Whole 3 ∷ Field.Number 4 5 ∷ Field.Number 6 9 ∷ [], [])
    -- REPORT SUPPORTED TASK MANAGEMENT FUNCTIONS: REPD, allocation length
    ∷ (0xa3, 0x0d, Field.Bits 2 7 7 ∷ Field.Number 6 9 ∷ [], [])
    ∷ []

-- the fields have the same in two CDBs
abbrev pub Agree : List Field → List ℕ → List ℕ → Type 0
Agree [] a b = Unit {0}
Agree (field ∷ later) a b = (value_of field a ≡ value_of field b) × Agree later a b

-- the fields of a command decide: two CDBs of its opcode that agree in them, and in NACA, are one command
abbrev pub PlainDecides : ℕ × List Field × List Field → Type 0
PlainDecides c =
    (a b : List ℕ) → byte 0 a ≡ c.0 → byte 0 b ≡ c.0 → Agree (Field.Bits (control_of c.0) 2 2 ∷ c.1) a b
    → command Wide a ≡ command Wide b

abbrev pub ActionDecides : ℕ × ℕ × List Field × List Field → Type 0
ActionDecides c =
    (a b : List ℕ) → byte 0 a ≡ c.0 → byte 0 b ≡ c.0 → bits 1 4 0 a ≡ c.1 → bits 1 4 0 b ≡ c.1
    → Agree (Field.Bits (control_of c.0) 2 2 ∷ c.2) a b → command Wide a ≡ command Wide b

-- what holds of each item of a list
abbrev pub OfEach : {A : Type 0} → (A → Type 0) → List A → Type 0
OfEach P [] = Unit {0}
OfEach P (x ∷ later) = P x × OfEach P later

-- what a field has of byte k, as the number that byte k is without the other bits
abbrev pub part_of : Field → ℕ → List ℕ → ℕ
part_of (Field.Bits i high low) k cdb = if k == i then byte k cdb % 2 ^ (high + 1) - byte k cdb % 2 ^ low else 0
part_of (Field.Whole i) k cdb = if k == i then byte k cdb else 0
part_of (Field.Number i j) k cdb = if nat_le i k && nat_le k j then byte k cdb else 0

-- the 16 bytes of a CDB without a field
abbrev pub without : Field → List ℕ → List ℕ
without field cdb =
    map (λ k. byte k cdb - part_of field k cdb)
    (0 ∷ 1 ∷ 2 ∷ 3 ∷ 4 ∷ 5 ∷ 6 ∷ 7 ∷ 8 ∷ 9 ∷ 10 ∷ 11 ∷ 12 ∷ 13 ∷ 14 ∷ 15 ∷ [])

-- a field decides by itself: two CDBs that ask for the same command, and differ in this field alone, mean different things
pub record Matters (asks : List ℕ → Bool) (field : Field) : Type 0 where
  pub a : List ℕ
  pub b : List ℕ
  pub a_asks : asks a ≡ true
  pub b_asks : asks b ≡ true
  pub alike : without field a ≡ without field b
  pub differ : command Wide a ≢ command Wide b

abbrev pub PlainMatters : ℕ × List Field × List Field → Type 0
PlainMatters c = OfEach (Matters (λ cdb. byte 0 cdb == c.0)) c.1

abbrev pub ActionMatters : ℕ × ℕ × List Field × List Field → Type 0
ActionMatters c = OfEach (Matters (λ cdb. (byte 0 cdb == c.0) && (bits 1 4 0 cdb == c.1))) c.2
