use Rattle.std.proofs.Common.{rules, ◌≡◌, ◌+◌, vec_len, List, ap, sym, ◌∙◌, subst, arith}
use Rattle.std.specs.Prelude.{slice_get}
use Rattle.unit_model.specs.Unit.{PlainUnit}
use Rattle.unit_model.specs.Receipts.{unit_address}
use Rattle.lock_scopes.specs.Ledgers.{commits_of, most_commits}
use Rattle.lock_scopes.specs.Acts.{weight_of}
use Rattle.workers.proofs.Openings.{first_fresh}
use Rattle.workers.proofs.opening.lock_units.Goals as goal

pub new-requires-in-loop-unit-clause-counted : goal.new-requires-in-loop-unit-clause-counted
new-requires-in-loop-unit-clause-counted g c =
    let none = (first_fresh _ _ c.in-Some.unit c.in-Some.ensures.steps.0 c.loop-unit.invariant.fresh).0.0 in
    let full : c.new.result.share.amount ≡ most_commits = search rules in
    omega (arith, full, ap commits_of none)

pub new-requires-in-loop-unit-clause-acted : goal.new-requires-in-loop-unit-clause-acted
new-requires-in-loop-unit-clause-acted g c =
    let none = (first_fresh _ _ c.in-Some.unit c.in-Some.ensures.steps.0 c.loop-unit.invariant.fresh).0.0 in
    let zero : c.new-acts.result.share.amount ≡ 0 = search rules in
    subst (λ steps. c.new-acts.result.share.amount ≡ weight_of g.C.Weighing.weight (unit_address c.in-Some.unit.opening) steps) (sym none) zero

pub new-requires-in-loop-unit-clause-resident : goal.new-requires-in-loop-unit-clause-resident
new-requires-in-loop-unit-clause-resident g c =
    (first_fresh _ _ c.in-Some.unit c.in-Some.ensures.steps.0 c.loop-unit.invariant.fresh).0.1

pub loop-unit-init : goal.loop-unit-init
loop-unit-init g c =
    let gives = c.into_iter-unit-iterator.ensures.into_iter_gives in
    let items : c.into_iter-unit-iterator.result.rest.items ≡ c.args.units.items = gives.0 in
    record {
      fresh = λ k u at. c.requires.fresh k u (ap (λ (us : List PlainUnit). slice_get us k) (sym items) ∙ at);
      count = search rules;
      room = search rules;
      acts = search rules;
      no_act = search rules;
      receipts = search rules;
      no_receipt = search rules;
      book = search rules;
    }

pub loop-unit-preserved : goal.loop-unit-preserved
loop-unit-preserved g c =
    let old = c.loop-unit.invariant in
    let one : vec_len c.push_reserved.new.self ≡ vec_len c.loop-unit.locked + 1 = c.push_reserved.ensures.len in
    record {
      fresh = (first_fresh _ _ c.in-Some.unit c.in-Some.ensures.steps.0 old.fresh).1;
      count = omega (arith, one, old.count, c.in-Some.ensures.steps.1);
      room = omega (arith, c.push_reserved.ensures.capacity, old.room);
      acts = search rules;
      no_act = search rules;
      receipts = search rules;
      no_receipt = search rules;
      book = search rules;
    }
