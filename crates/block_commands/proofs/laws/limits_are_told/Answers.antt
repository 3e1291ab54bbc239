use Rattle.std.proofs.Common.{refl, arith}
use Rattle.std.proofs.lemmas.Bool.Decides.{nat_tests}
use Rattle.command_model.specs.Inquiry.{limits_page}
use Rattle.block_commands.proofs.Unmapping.{unmapped-counted}
use Rattle.block_commands.proofs.laws.limits_are_told.Goals as goal

pub returns-clause-transfer : goal.returns-clause-transfer
unfolding limits_page
returns-clause-transfer c = refl

pub returns-clause-compare : goal.returns-clause-compare
unfolding limits_page
returns-clause-compare c = refl

pub returns-clause-write_same : goal.returns-clause-write_same
unfolding limits_page
returns-clause-write_same c = refl

pub returns-clause-unmap_descriptors : goal.returns-clause-unmap_descriptors
unfolding limits_page
returns-clause-unmap_descriptors c = λ facts n bytes blocks ended.
    grind (arith, nat_tests, unmapped-counted facts n bytes blocks ended)

pub returns-clause-unmap_blocks : goal.returns-clause-unmap_blocks
unfolding limits_page
returns-clause-unmap_blocks c = λ facts n bytes blocks ended.
    grind (arith, nat_tests, unmapped-counted facts n bytes blocks ended)
