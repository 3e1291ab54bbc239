use Rattle.std.proofs.Common.{◌/◌, ◌%◌, ap, ◌∙◌}
use Rattle.block_store.specs.Pages.{blocks_in}
use Rattle.block_store.proofs.Paging.{blocks_in-none}
use Rattle.block_store.proofs.paged.PagedStoreStore.zero_all.Goals as goal

pub returns-clause-zeros : goal.returns-clause-zeros
returns-clause-zeros c = λ b. ap (λ l. blocks_in l (b % 8)) (c.new.ensures (b / 8)) ∙ blocks_in-none (b % 8)
