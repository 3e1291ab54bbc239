use Rattle.std.proofs.Common.{refl}
use Rattle.backed_store.proofs.Changed.{changed-host}
use Rattle.backed_store.proofs.backed.BackedStore.fill_part.Goals as goal

pub returns-clause-host : goal.returns-clause-host
returns-clause-host c =
    let e = c.fill.ensures in
    changed-host c.args.self.now _ _ e.states e.numbers e.again refl refl e.owing
