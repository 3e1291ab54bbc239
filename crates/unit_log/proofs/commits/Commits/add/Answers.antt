use Rattle.std.proofs.Common.{Result, Ok, Err, OnOk, OnErr, Vec, arith}
use Rattle.std.specs.declared.alloc.Global.{Global}
use Rattle.std.proofs.lemmas.List.{length-map}
use Rattle.unit_log.specs.declared.runs.Run.{Run}
use Rattle.unit_log.proofs.Tables.{rising_all, numbered_all, count_set, adds, unchanged}
use Rattle.unit_log.proofs.commits.Commits.add.Goals as goal

on_ok : {A B : Type 0} {P Q : Type 0} (r : Result A B) → OnOk r P → (P → Q) → OnOk r Q
on_ok (Ok x) p f = f p
on_ok (Err e) p f = p

on_err : {A B : Type 0} {P Q : Type 0} (r : Result A B) → OnErr r P → (P → Q) → OnErr r Q
on_err (Ok x) p f = p
on_err (Err e) p f = f p

pub invariant_of-self-2 : goal.invariant_of-self-2
invariant_of-self-2 c =
    let there = c.in_ok-grow.ensures.there in
    let many = count_set c.args.ticket.queue c.grow.new.queues.items c.add.new.runs in
    let old = length-map c.self.inside.queues.items (λ (w : Vec Run Global). w.items) in
    let had = c.self.invariant.few in
    let few = c.grow.ensures.few (omega (arith, old, had)) (omega arith) in
    record {
      few = omega (arith, many, few);
      rising = rising_all c.args.ticket.queue c.grow.new.queues.items c.self.inside.queues.items c.add.new.runs (omega (arith, there)) c.grow.ensures.same c.self.invariant.rising c.add.ensures.rising;
      numbered = numbered_all c.args.ticket.queue c.grow.new.queues.items c.self.inside.queues.items c.add.new.runs (omega (arith, there)) c.grow.ensures.same c.self.invariant.numbered c.add.ensures.numbered;
    }

pub returns-clause-ok : goal.returns-clause-ok
returns-clause-ok c =
    let there = c.in_ok-grow.ensures.there in
    rw (← c.self.view_is)
    (on_ok c.add.result c.add.ensures.ok (λ one.
    adds c.args.place c.args.ticket.queue c.args.ticket.number c.grow.new.queues.items c.self.inside.queues.items c.add.new.runs c.index_mut.result.now (omega (arith, there))
    c.grow.ensures.same c.index_mut.ensures.value one))

pub returns-clause-err : goal.returns-clause-err
returns-clause-err c =
    let there = c.in_ok-grow.ensures.there in
    rw (← c.self.view_is)
    (on_err c.add.result c.add.ensures.err (λ is. λ q.
    unchanged c.args.ticket.queue q c.grow.new.queues.items c.self.inside.queues.items c.add.new.runs c.index_mut.result.now (omega (arith, there))
    c.grow.ensures.same c.index_mut.ensures.value is))
