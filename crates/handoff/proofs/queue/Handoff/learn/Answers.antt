use Rattle.std.proofs.Common.{length, refl, arith}
use Rattle.std.proofs.lemmas.Option.{slice_get_read, slice_get_within}
use Rattle.handoff.proofs.Holding.{same_queue}
use Rattle.handoff.proofs.Loops.{follows_first, follows_next, follows_all, queues_are, many_are, none_known, more_known}
use Rattle.handoff.proofs.queue.Handoff.learn.Goals as goal

pub loop-chief-init : goal.loop-chief-init
loop-chief-init c =
    let gives = c.into_iter-chief-iterator.ensures.into_iter_gives in
    record {
      count = omega (arith, gives.1, c.args.chiefs.ok.0);
      rest = follows_all c.args.chiefs.items _ gives.0;
      known = none_known c.args.chiefs.items;
    }

pub learn-requires-clause-at : goal.learn-requires-clause-at
learn-requires-clause-at c =
    let lanes = c.self.inside.lanes.items in
    let at = c.loop-chief.at in
    let chiefs = c.args.chiefs.items in
    let queues = queues_are _ c.self.inside.capacity lanes chiefs c.requires.chiefs.0 c.self.view_is in
    let many = many_are _ c.self.inside.capacity lanes chiefs c.requires.chiefs.0 c.self.view_is in
    let chief = follows_first chiefs _ _ at c.in-Some.chief c.loop-chief.invariant.rest c.in-Some.ensures.steps.0 in
    let lt = slice_get_within chiefs at c.in-Some.chief chief in
    let lane = slice_get_read lanes (length lanes) at c.index.result.now refl (omega (arith, lt, many)) c.index.ensures in
    same_queue lanes chiefs at _ _ queues lane chief

pub learn-requires-clause-chief : goal.learn-requires-clause-chief
learn-requires-clause-chief c =
    let at = c.loop-chief.at in
    let chief = follows_first c.args.chiefs.items _ _ at c.in-Some.chief c.loop-chief.invariant.rest c.in-Some.ensures.steps.0 in
    c.requires.chiefs.1 at c.in-Some.chief chief

pub learn-requires-clause-all : goal.learn-requires-clause-all
learn-requires-clause-all c =
    let at = c.loop-chief.at in
    let chief = follows_first c.args.chiefs.items _ _ at c.in-Some.chief c.loop-chief.invariant.rest c.in-Some.ensures.steps.0 in
    c.requires.all at c.in-Some.chief chief

pub loop-chief-preserved : goal.loop-chief-preserved
loop-chief-preserved c =
    let at = c.loop-chief.at in
    let old = c.loop-chief.invariant in
    let steps = c.in-Some.ensures.steps in
    let chief = follows_first c.args.chiefs.items _ _ at c.in-Some.chief old.rest steps.0 in
    record {
      count = omega (arith, old.count, steps.1);
      rest = follows_next c.args.chiefs.items _ _ at c.in-Some.chief old.rest steps.0;
      known = more_known c.args.chiefs.items at c.in-Some.chief c.learn.ensures.0 old.known chief c.learn.ensures.1;
    }

pub returns : goal.returns
returns c =
    let old = c.loop-chief.invariant in (
      old.known.0,
      λ q d d_at.
          let lt = slice_get_within c.args.chiefs.items q d d_at in
          old.known.1 q d (omega (arith, lt, old.count, c.in-None.ensures.steps.0)) d_at,
    )
