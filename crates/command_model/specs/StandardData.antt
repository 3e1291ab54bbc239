-- The standard data of INQUIRY, SPC-4 §6.6.2.
use Rattle.std.specs.Prelude.{ℕ, List, [], ◌∷◌, ◌++◌, codes, replicate}

-- byte 0, the peripheral qualifier and device type, where there is no device
abbrev pub no_device : ℕ
no_device = 0x7f

-- the T10 vendor identification, 8 bytes
abbrev pub vendor : List ℕ
vendor = codes "VSCSI   "

-- the product identification, 16 bytes, and its revision level, 4
abbrev pub product : List ℕ
product = codes "TASK SET DISK   "

abbrev pub revision : List ℕ
revision = codes "0001"

-- standard INQUIRY data with this byte 0, 36 bytes: version 06h (SPC-4), response data format 2, 31
-- more bytes, CMDQUE; the vendor, the product, its revision
unfoldable pub standard_data : ℕ → List ℕ
standard_data peripheral =
    (peripheral ∷ 0x00 ∷ 0x06 ∷ 0x02 ∷ 0x1f ∷ 0x00 ∷ 0x00 ∷ 0x02 ∷ [])
    ++ vendor ++ product ++ revision

-- the standard data of a block device of the wide profile, of this vendor, product and revision, 96 bytes: 91 more bytes;
-- bytes 58 to 63 have the version descriptors of SAM-5, SPC-4 and SBC-3, no version of them claimed
unfoldable pub wide_standard_data : List ℕ → List ℕ → List ℕ → List ℕ
wide_standard_data vendor product revision =
    (0x00 ∷ 0x00 ∷ 0x06 ∷ 0x02 ∷ 0x5b ∷ 0x00 ∷ 0x00 ∷ 0x02 ∷ [])
    ++ vendor ++ product ++ revision
    ++ replicate 22 0x00
    ++ (0x00 ∷ 0xa0 ∷ 0x04 ∷ 0x60 ∷ 0x04 ∷ 0xc0 ∷ [])
    ++ replicate 32 0x00
