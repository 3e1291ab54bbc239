use Rattle.std.proofs.Common.{false, ap, map, ◌∙◌}
use Rattle.block_store.specs.Storage.{lost_by, denied_by}
use Rattle.block_store.proofs.Losing.{lost-last, denied-last}
use Rattle.backed_store.specs.Backing.{plain, after_all}
use Rattle.backed_store.proofs.Dealt.{after-last, plain-last}
use Rattle.backed_store.proofs.given.record.Goals as goal

pub returns-clause-storage : goal.returns-clause-storage
returns-clause-storage c = λ h. ap (λ ds. after_all ds h) c.push.ensures ∙ after-last c.args.dealings.now.items c.args.dealing.now h

pub returns-clause-ledger : goal.returns-clause-ledger
returns-clause-ledger c = ap (λ ds. map plain ds) c.push.ensures ∙ plain-last c.args.dealings.now.items c.args.dealing.now

pub returns-clause-lost : goal.returns-clause-lost
returns-clause-lost c = λ p.
    ap (λ l. lost_by p false l) (returns-clause-ledger c)
    ∙ lost-last p false (map plain c.args.dealings.now.items) (plain c.args.dealing.now)

pub returns-clause-denied : goal.returns-clause-denied
returns-clause-denied c = λ p.
    ap (λ l. denied_by p false l) (returns-clause-ledger c)
    ∙ denied-last p false (map plain c.args.dealings.now.items) (plain c.args.dealing.now)
