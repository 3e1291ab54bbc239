use Rattle.std.proofs.Common.{◌≡◌, ◌<◌, length, arith, ap, ◌∙◌, List, Option, Some, set, OnOk, Result, Ok, Err}
use Rattle.std.specs.declared.alloc.AllocError.{AllocError}
use Rattle.ring_core.specs.Table.{tabulated, found_under}
use Rattle.ring_core.specs.declared.outstanding.OutstandingChain.{OutstandingChain}
use Rattle.ring_core.proofs.Tabulated.{length-tabulated}
use Rattle.ring_core.proofs.outstanding.OutstandingTable.put.Goals as goal

then_too : (r : Result (Unit {0}) AllocError) (P Q : Type 0) → (P → Q) → OnOk r P → OnOk r Q
then_too (Ok x) P Q f p = f p
then_too (Err e) P Q f p = tt

pub returns-in-ById-clause-ok : goal.returns-in-ById-clause-ok
returns-in-ById-clause-ok c =
    let is : tabulated (found_under c.in-ById.chains) c.self.inside.ids ≡ c.args.self.now = rw c.in-ById.is at c.self.view_is in
    let lt : c.args.id < c.self.inside.ids = omega (arith, length-tabulated (found_under c.in-ById.chains) c.self.inside.ids, ap length is, c.requires) in
    then_too c.put_chain.result _ _ (λ put. put c.self.inside.ids lt ∙ ap (λ (xs : List (Option OutstandingChain)). set xs c.args.id (Some c.args.chain)) is) c.put_chain.ensures.ok
