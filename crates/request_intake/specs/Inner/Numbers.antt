-- Rests on `specs/Inventory.antt`; no promise rests on it.
use Rattle.std.specs.Prelude.{ℕ, ◌≡◌, List, map}
use Rattle.scsi_codec.specs.declared.lun.Address.{Address}
use Rattle.scsi_codec.specs.Lun.{number_of}
use Rattle.request_intake.specs.declared.inventory.Known.{Known}

-- own: the numbers of addresses as they are kept
abbrev pub numbers_of : List Known → List ℕ
numbers_of known = map (λ (k : Known). k.number) known

-- own: each number is that of the address at its index
abbrev pub AreNumbersOf : List Known → List Address → Type 0
AreNumbersOf known addresses = numbers_of known ≡ map number_of addresses
