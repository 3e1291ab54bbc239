-- Rests on `specs/Jobs.antt`; no promise rests on it.
use Rattle.std.specs.Prelude.{◌+◌, ◌≤◌, ◌<◌, ◌^◌}
use Rattle.cdb.specs.declared.commands.Command.{Command}
use Rattle.cdb.specs.Need.{need_of}
use Rattle.ring_core.specs.State.{PlainChain}
use Rattle.ring_core.specs.Parts.{writable_total}

-- the chain has room for the response, 108 bytes (VIRTIO 1.2 §5.6.6.1), and for the data that the command gives
pub record HasRoom (c : PlainChain) (command : Command) : Type 0 where
  pub room : 108 + (need_of command).into ≤ writable_total c.parts
  pub less : writable_total c.parts < 2 ^ 32
