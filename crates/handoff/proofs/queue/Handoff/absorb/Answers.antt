use Rattle.std.proofs.Common.{◌≡◌, length, refl, sym, ap, ◌∙◌, arith}
use Rattle.std.proofs.lemmas.Option.{slice_get_read, slice_get_within}
use Rattle.handoff.specs.Ends.{PlainEnd}
use Rattle.handoff.proofs.Lists.{same, stands_at}
use Rattle.handoff.proofs.Holding.{same_queue}
use Rattle.handoff.proofs.Loops.{follows_first, follows_all, queues_are, many_are, take_more}
use Rattle.handoff.proofs.queue.Handoff.absorb.Goals as goal

pub loop-end-init : goal.loop-end-init
loop-end-init c =
    let gives = c.into_iter-end-iterator.ensures.into_iter_gives in
    record {
      taking = record {
        queues = c.requires.chiefs.0;
        rest = follows_all c.args.ends.items _ gives.0;
        done = λ q d p lt d_at p_at. absurd (omega (arith, lt));
        todo = λ q d le d_at. d_at;
      };
      count = omega (arith, gives.1, c.args.ends.ok.0);
    }

pub absorb-requires-clause-at : goal.absorb-requires-clause-at
absorb-requires-clause-at c =
    let lanes = c.self.inside.lanes.items in
    let at = c.loop-end.at in
    let old = c.loop-end.invariant.taking in
    let queues = queues_are _ c.self.inside.capacity lanes c.loop-end.chiefs.items old.queues c.self.view_is in
    let many = many_are _ c.self.inside.capacity lanes c.loop-end.chiefs.items old.queues c.self.view_is in
    let mine = queues_are _ c.self.inside.capacity lanes c.args.ends.items c.requires.ends c.self.view_is in
    let few = many_are _ c.self.inside.capacity lanes c.args.ends.items c.requires.ends c.self.view_is in
    let end = follows_first c.args.ends.items _ _ at c.in-Some.end old.rest c.in-Some.ensures.steps.0 in
    let lt = slice_get_within c.args.ends.items at c.in-Some.end end in
    let chief = slice_get_read c.loop-end.chiefs.items (length c.loop-end.chiefs.items) at c.index_mut.result.now refl (omega (arith, lt, many, few)) c.index_mut.ensures.value in
    let lane = slice_get_read lanes (length lanes) at c.index.result.now refl (omega (arith, lt, few)) c.index.ensures in
    (same_queue lanes c.loop-end.chiefs.items at _ _ queues lane chief, same_queue lanes c.args.ends.items at _ _ mine lane end)

pub absorb-requires-clause-chief : goal.absorb-requires-clause-chief
absorb-requires-clause-chief c =
    let lanes = c.self.inside.lanes.items in
    let at = c.loop-end.at in
    let old = c.loop-end.invariant.taking in
    let many = many_are _ c.self.inside.capacity lanes c.loop-end.chiefs.items old.queues c.self.view_is in
    let before = many_are _ c.self.inside.capacity lanes c.args.chiefs.now.items c.requires.chiefs.0 c.self.view_is in
    let few = many_are _ c.self.inside.capacity lanes c.args.ends.items c.requires.ends c.self.view_is in
    let end = follows_first c.args.ends.items _ _ at c.in-Some.end old.rest c.in-Some.ensures.steps.0 in
    let lt = slice_get_within c.args.ends.items at c.in-Some.end end in
    let chief = slice_get_read c.loop-end.chiefs.items (length c.loop-end.chiefs.items) at c.index_mut.result.now refl (omega (arith, lt, many, few)) c.index_mut.ensures.value in
    let was = stands_at c.args.chiefs.now.items at (omega (arith, lt, before, few)) in
    let is : c.index_mut.result.now ≡ was.0 = same (sym chief ∙ old.todo at was.0 (omega arith) was.1) in
    ap (λ (p : PlainEnd). p.knows.is_chief) is ∙ c.requires.chiefs.1 at was.0 was.1

pub loop-end-preserved : goal.loop-end-preserved
loop-end-preserved c =
    let lanes = c.self.inside.lanes.items in
    let at = c.loop-end.at in
    let old = c.loop-end.invariant.taking in
    let steps = c.in-Some.ensures.steps in
    let many = many_are _ c.self.inside.capacity lanes c.loop-end.chiefs.items old.queues c.self.view_is in
    let few = many_are _ c.self.inside.capacity lanes c.args.ends.items c.requires.ends c.self.view_is in
    let end = follows_first c.args.ends.items _ _ at c.in-Some.end old.rest steps.0 in
    let lt = slice_get_within c.args.ends.items at c.in-Some.end end in
    let chief = slice_get_read c.loop-end.chiefs.items (length c.loop-end.chiefs.items) at c.index_mut.result.now refl (omega (arith, lt, many, few)) c.index_mut.ensures.value in
    record {
      taking = take_more _ c.args.chiefs.now.items c.args.ends.items c.loop-end.chiefs.items at _ _ c.index_mut.result.now c.in-Some.end c.absorb.new.chief old steps.0 chief c.absorb.ensures;
      count = omega (arith, c.loop-end.invariant.count, steps.1);
    }

pub returns-clause-joined : goal.returns-clause-joined
returns-clause-joined c =
    let old = c.loop-end.invariant in
    λ q d p d_at p_at.
    let lt = slice_get_within c.args.ends.items q p p_at in
    old.taking.done q d p (omega (arith, lt, old.count, c.in-None.ensures.steps.0)) d_at p_at
