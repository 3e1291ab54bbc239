-- Rests on `specs/Decision.antt`; no promise rests on it.
use Rattle.std.specs.Prelude.{ℕ, ◌+◌, ◌<◌, ◌≤◌, List, length}
use Rattle.cdb.specs.Need.{need_of}
use Rattle.request_intake.specs.declared.answer.ChainLengths.{ChainLengths}
use Rattle.request_intake.specs.declared.decision.Decision.{Decision}
use Rattle.request_intake.specs.declared.decision.Decision.TheVariants.{Direct, Enter}

-- the answer fits into the chain; the unit is there, the data that the command takes are, and there is room for those
-- that it gives
abbrev pub Suits : ℕ → ChainLengths → Decision → Type 0
Suits units n (Direct answer) = length answer ≤ n.writable
Suits units n (Enter unit_index r) =
    (unit_index < units) × (51 + (need_of r.command).out ≤ n.readable) × (108 + (need_of r.command).into ≤ n.writable)

-- of an answer that needs no unit
abbrev pub IfDirect : (List ℕ → Type 0) → Decision → Type 0
IfDirect p (Direct answer) = p answer
IfDirect p (Enter unit_index r) = Unit {0}
