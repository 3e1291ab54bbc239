use Rattle.std.proofs.Common.{◌≡◌, ◌++◌, length, take, drop}
use Rattle.command_model.specs.Effects.{or_bytes}
use Rattle.block_commands.proofs.or_write.put_or.Given as goal

-- the bytes so far are ORed, and those behind them are as they were
abbrev pub invariant-loop-at : goal.invariant-loop-at
invariant-loop-at l = record {
  bytes : l.held ≡ or_bytes (take l.at l.fn.held) (take l.at l.bytes) ++ drop l.at l.fn.held;
  len : length l.held ≡ length l.fn.held;
}
