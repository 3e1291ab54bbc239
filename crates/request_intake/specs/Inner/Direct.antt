-- What is told without a unit, and its bytes.
use Rattle.std.specs.Prelude.{ℕ, ◌≤◌, ◌+◌, ◌^◌, ⊤}
use Rattle.cdb.specs.Need.{need_of}
use Rattle.request_intake.specs.declared.answer.ChainLengths.{ChainLengths}
use Rattle.request_intake.specs.declared.direct.Told.{Told}
use Rattle.request_intake.specs.declared.direct.Told.TheVariants as told

-- a chain of these lengths has room for a response and so many bytes
pub record HasRoomFor (n : ChainLengths) (bytes : ℕ) : Type 0 where
  pub sum : n.readable + n.writable ≤ 2 ^ 32
  pub room : 108 + bytes ≤ n.writable

-- it can be told over a chain of these lengths
abbrev pub CanTell : ChainLengths → Told → Type 0
CanTell n told.Nothing = ⊤
CanTell n (told.Failed code) = ⊤
CanTell n (told.Status status) = HasRoomFor n 0
CanTell n (told.Refused sense) = HasRoomFor n 0
CanTell n (told.Absent command) = HasRoomFor n (need_of command).into
CanTell n (told.Function response) = ⊤
CanTell n (told.Notification response) = ⊤
