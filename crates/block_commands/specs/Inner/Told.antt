-- What a command is told of its unit, as the definitions of commands have it.
use Rattle.std.specs.Prelude.{ℕ, Bool, ◌&&◌}
use Rattle.sense.specs.declared.SenseFormat.{SenseFormat}
use Rattle.cdb.specs.declared.commands.Command.{Command}
use Rattle.command_model.specs.Effects.{changes_medium}
use Rattle.command_model.specs.Identity.{told_by}
use Rattle.command_model.specs.Facts.{Facts}
use Rattle.block_commands.specs.declared.facts.UnitFacts.{UnitFacts}

-- the format of its sense data
abbrev pub sense_told : UnitFacts → SenseFormat
sense_told u = (told_by u.profile u.identity).sense_format

-- whether it refuses a command since it is read-only
abbrev pub protects : UnitFacts → Command → Bool
protects u command = changes_medium command && (told_by u.profile u.identity).read_only

-- the facts of a unit of so many blocks
abbrev pub facts_of : UnitFacts → ℕ → Facts
facts_of u blocks =
    record {
      target = u.address.target;
      lun = u.address.lun;
      luns = u.luns.items;
      capacity = blocks;
      pending = u.pending;
      profile = u.profile;
      identity = u.identity;
      backed = u.backed;
    }
