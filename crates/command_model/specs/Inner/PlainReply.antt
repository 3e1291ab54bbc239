-- Rests on `specs/PlainReply.antt`; no promise rests on it.
use Rattle.std.specs.Prelude.{ℕ, List, length, None}
use Rattle.command_model.specs.Statuses.{good}
use Rattle.command_model.specs.PlainReply.{PlainReply}

-- GOOD with this data to the driver, of a command that needs none from it
abbrev pub good_data : List ℕ → PlainReply
good_data bytes = record { status = good; sense = None; payload = bytes; moved = length bytes }
