-- Rests on `specs/Absent.antt`; no promise rests on it.
use Rattle.std.specs.Prelude.{ℕ, List, length, None}
use Rattle.command_model.specs.PlainReply.{PlainReply}
use Rattle.command_model.specs.Statuses.{good}
use Rattle.command_model.specs.declared.absent.AbsentReply.{AbsentReply}

-- GOOD with this data, all of which is moved
abbrev pub returned : List ℕ → PlainReply
returned bytes = record { status = good; sense = None; payload = bytes; moved = length bytes }

abbrev pub plain_of_absent : AbsentReply → PlainReply
plain_of_absent r = record { status = r.status; sense = r.sense; payload = r.payload.items; moved = r.moved }
