use Rattle.std.proofs.Common.{IsTrue, sym, subst}
use Rattle.backed_store.specs.Disks.{owes}
use Rattle.backed_store.specs.declared.disk.Disk.{Disk}
use Rattle.backed_store.proofs.disk.Disk.is_flush_over.Goals as goal

pub returns-in-Backed-clause-no : goal.returns-in-Backed-clause-no
returns-in-Backed-clause-no c = λ not.
    let found = c.is_flush_over.ensures.no not in
    (found.0, subst (λ (d : Disk). IsTrue (owes d found.0)) (sym c.in-Backed.is) found.1)
