use Rattle.std.proofs.Common.{Some, OnOk, OnErr, Result, Ok, Err}
use Rattle.std.specs.declared.alloc.AllocError.{AllocError}
use Rattle.ring_core.specs.Table.{found_under}
use Rattle.ring_core.proofs.Tabulated.{tabulated-set, tabulated-same}
use Rattle.ring_core.proofs.outstanding.put_chain.Goals as goal

both : (r : Result (Unit {0}) AllocError) (P Q R : Type 0) → (P → Q → R) → OnOk r P → OnOk r Q → OnOk r R
both (Ok x) P Q R f p q = f p q
both (Err e) P Q R f p q = tt

failed : (r : Result (Unit {0}) AllocError) (P Q : Type 0) → (P → Q) → OnErr r P → OnErr r Q
failed (Ok x) P Q f p = tt
failed (Err e) P Q f p = f p

pub returns-clause-ok : goal.returns-clause-ok
returns-clause-ok c =
    both c.put.result _ _ _
    (λ here others ids lt. tabulated-set (found_under c.args.chains.now) (found_under c.put.new.self) c.args.id (Some c.args.chain) here others ids lt)
    c.put.ensures.here c.put.ensures.others

pub returns-clause-err : goal.returns-clause-err
returns-clause-err c =
    failed c.put.result _ _ (λ same ids. tabulated-same (found_under c.args.chains.now) (found_under c.put.new.self) same ids) c.put.ensures.err
