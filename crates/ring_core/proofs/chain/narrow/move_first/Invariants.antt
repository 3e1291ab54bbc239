use Rattle.std.proofs.Common.{◌≡◌, ◌≤◌, ◌++◌, take, drop}
use Rattle.ring_core.specs.Inner.Narrow.{first_writable}
use Rattle.ring_core.proofs.chain.narrow.move_first.Given as goal

abbrev pub invariant-loop-i : goal.invariant-loop-i
invariant-loop-i l =
    record {
      few : l.kept ≤ l.i;
      same : drop l.i l.parts ≡ drop l.i l.fn.parts;
      done : take l.kept l.parts ++ first_writable l.rest (drop l.i l.fn.parts) ≡ first_writable l.fn.most l.fn.parts;
    }
