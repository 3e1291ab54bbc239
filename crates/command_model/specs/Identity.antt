-- What a configuration may say of a disk, and what of it is told.
use Rattle.std.specs.Prelude.{ℕ, ◌/◌, ◌==◌, ◌&&◌, ◌||◌, nat_le, Bool, true, false, List, take, replicate, Option, Some, None, slice_index}
use Rattle.std.specs.List.{list_all}
use Rattle.sense.specs.declared.SenseFormat.TheVariants.{Fixed}
use Rattle.cdb.specs.declared.profile.Profile.{Profile}
use Rattle.cdb.specs.declared.profile.Profile.TheVariants.{Narrow, Wide}
use Rattle.command_model.specs.StandardData.{vendor, product, revision}
use Rattle.command_model.specs.declared.identity.Identity.{Identity}

-- the disk of which a configuration says nothing: its serial number is made of its address, its medium doesn't rotate, it
-- sends sense data in the fixed format, it has no volatile write cache, and it may be written
abbrev pub plain_identity : Identity
plain_identity =
    record {
      vendor = vendor;
      product = product;
      revision = revision;
      serial = replicate 20 0;
      serial_len = 0;
      naa = None;
      physical_exponent = 0;
      rotation_rate = 1;
      sense_format = Fixed;
      write_cache = false;
      read_only = false;
    }

-- own: what a unit of this profile tells
abbrev pub told_by : Profile → Identity → Identity
told_by Narrow identity = plain_identity
told_by Wide identity = identity

-- ASCII data fields have graphic codes alone (SPC-4 §4.4.1)
abbrev pub is_printable : ℕ → Bool
is_printable byte = nat_le 0x20 byte && nat_le byte 0x7e

abbrev pub are_printable : List ℕ → Bool
are_printable text = list_all is_printable text

-- no NAA designator, or one of 8 bytes: NAA 3h, locally assigned, or 5h, IEEE registered (SPC-4 §7.8.6.6.3, §7.8.6.6.4)
abbrev pub is_naa : Option (List ℕ) → Bool
is_naa None = true
is_naa (Some naa) = (slice_index naa 0 / 16 == 3) || (slice_index naa 0 / 16 == 5)

-- MEDIUM ROTATION RATE: not reported, not rotating, or revolutions a minute (SBC-3 §6.6.2)
abbrev pub is_rate : ℕ → Bool
is_rate rate = nat_le rate 1 || (nat_le 0x0401 rate && nat_le rate 0xfffe)

-- a unit may have it
abbrev pub is_identity : Identity → Bool
is_identity i =
    are_printable i.vendor && are_printable i.product && are_printable i.revision
    && nat_le i.serial_len 20 && are_printable (take i.serial_len i.serial)
    && is_naa i.naa && nat_le i.physical_exponent 15 && is_rate i.rotation_rate
