use Rattle.std.specs.Prelude.{false}
use Rattle.block_store.proofs.Losing.{deny-last, keep-denied, cut-denied}
use Rattle.block_store.proofs.laws.a_page_is_denied_until_it_is_written.Goals as goal

pub returns-clause-denied : goal.returns-clause-denied
returns-clause-denied c = λ p l. deny-last p false l.dealings

pub returns-clause-kept : goal.returns-clause-kept
returns-clause-kept c = λ p l. keep-denied p false l.dealings

pub returns-clause-cut : goal.returns-clause-cut
returns-clause-cut c = λ p n l h. cut-denied p n false l.dealings h
