use Rattle.std.proofs.Common.{refl}
use Rattle.command_model.specs.Comparing.{to_compare}
use Rattle.block_commands.proofs.Comparisons.{first_unequal-none, first_unequal-at}
use Rattle.block_commands.proofs.laws.compared_first.Goals as goal

pub returns-clause-equal : goal.returns-clause-equal
returns-clause-equal c = λ facts lba count bytes blocks none writable inside same.
    rw (none, writable, inside, same, first_unequal-none (to_compare count bytes)) refl

pub returns-clause-unequal : goal.returns-clause-unequal
returns-clause-unequal c = λ facts lba count bytes blocks k none writable inside on_left on_right same differ.
    rw (none, writable, inside, first_unequal-at (to_compare count bytes) _ k on_left on_right same differ) refl
