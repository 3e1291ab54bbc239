use Rattle.std.proofs.Common.{sym, ◌∙◌}
use Rattle.cdb.specs.Fields.{byte}
use Rattle.cdb.specs.declared.profile.Profile.TheVariants.{Wide}
use Rattle.block_commands.proofs.Usages.{told_profiled}
use Rattle.block_commands.proofs.laws.codes_are_told.Goals as goal

pub returns-clause-others : goal.returns-clause-others
returns-clause-others c = λ cdb untold. c.opcodes.ensures.other Wide cdb (sym (told_profiled (byte 0 cdb)) ∙ untold)

pub returns-clause-told : goal.returns-clause-told
returns-clause-told c = λ cdb told. c.opcodes.ensures.profiled Wide cdb (sym (told_profiled (byte 0 cdb)) ∙ told)
