use Rattle.std.specs.Prelude.{false}
use Rattle.block_store.proofs.Losing.{lose-last, load-last, keep-last}
use Rattle.block_store.proofs.laws.the_latest_word_of_a_page_counts.Goals as goal

pub returns-clause-lost : goal.returns-clause-lost
returns-clause-lost c = λ p l. lose-last p false l.dealings

pub returns-clause-loaded : goal.returns-clause-loaded
returns-clause-loaded c = λ p l. load-last p false l.dealings

pub returns-clause-kept : goal.returns-clause-kept
returns-clause-kept c = λ p l. keep-last p false l.dealings
