use Rattle.std.proofs.Common.{◌≡◌, drop}
use Rattle.responses.specs.Inner.FirstPart.{first_open}
use Rattle.responses.proofs.writing.first_writable.Given as goal

abbrev pub invariant-loop-part : goal.invariant-loop-part
invariant-loop-part l = first_open (drop l.part-index l.parts) ≡ first_open l.parts
