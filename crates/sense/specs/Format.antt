-- The two formats of sense data, SPC-4 §4.5.1.
use Rattle.std.specs.Prelude.{ℕ, List}
use Rattle.sense.specs.Descriptor.{descriptor}
use Rattle.sense.specs.Fixed.{fixed}
use Rattle.sense.specs.declared.Sense.{Sense}
use Rattle.sense.specs.declared.SenseFormat.{SenseFormat}
use Rattle.sense.specs.declared.SenseFormat.TheVariants.{Fixed, Descriptor}

-- the bytes of sense data in a format
abbrev pub bytes_in : SenseFormat → Sense → List ℕ
bytes_in Fixed s = fixed s
bytes_in Descriptor s = descriptor s

-- its bytes as it is sent beside a status
abbrev pub sent : Sense → List ℕ
sent s = bytes_in s.format s

-- the same, to be sent in a format
abbrev pub in_format : SenseFormat → Sense → Sense
in_format f s = record s { format = f }
