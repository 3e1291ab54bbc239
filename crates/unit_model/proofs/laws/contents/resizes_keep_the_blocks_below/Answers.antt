use Rattle.std.proofs.Common.{ap, ◌∙◌}
use Rattle.block_store.specs.Pages.{blocks_in}
use Rattle.block_store.proofs.Paging.{blocks_in-none}
use Rattle.unit_model.proofs.laws.contents.resizes_keep_the_blocks_below.Goals as goal

pub returns-clause-opening : goal.returns-clause-opening
returns-clause-opening c = λ o b none. ap (λ w. blocks_in w b) none ∙ blocks_in-none b
