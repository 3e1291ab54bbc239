use Rattle.std.proofs.Common.{◌≡◌, ◌++◌, List, [], length, refl, sym, ap, ◌∙◌, append-nil, length-append, arith}
use Rattle.unit_model.specs.Jobs.{PlainJob, Jobs}
use Rattle.device_steps.specs.Aside.{KeptAside}
use Rattle.device_steps.proofs.Making.{nothing_in}
use Rattle.device_steps.proofs.Resuming.{wakes_nothing, has_some, moves, fits, lessens, emptied, shares}
use Rattle.device_steps.proofs.aside.JobsAside.wake.Goals as goal

pub returns-then-len-eq0-clause-all : goal.returns-then-len-eq0-clause-all
returns-then-len-eq0-clause-all c =
    wakes_nothing c.args.self.now
    (ap (λ (k : KeptAside). k.aside) (sym c.self.view_is)
    ∙ nothing_in c.self.inside.aside.jobs (sym c.len.ensures ∙ c.if-len-eq0.true))

pub returns-then-len-eq0-clause-told : goal.returns-then-len-eq0-clause-told
returns-then-len-eq0-clause-told c =
    ap (λ (k : KeptAside). k.aside) (sym c.self.view_is)
    ∙ nothing_in c.self.inside.aside.jobs (sym c.len.ensures ∙ c.if-len-eq0.true)

pub loop-job-init : goal.loop-job-init
loop-job-init c =
    let d = c.self.inside in
    record {
      all = ap (λ (k : KeptAside). k.woken ++ k.aside) c.self.view_is;
      few =
          omega (
            arith,
            ap (λ (k : KeptAside). length (k.woken ++ k.aside)) c.self.view_is,
            ap (λ (k : KeptAside). k.limit) c.self.view_is,
            length-append d.woken.jobs d.aside.jobs,
            c.self.invariant.room,
          );
      own = ap (λ (k : KeptAside). k.limit) c.self.view_is;
      same = c.self.invariant.limit ∙ ap (λ (k : KeptAside). k.limit) c.self.view_is;
    }

pub push-requires : goal.push-requires
push-requires c =
    let l = c.loop-job.invariant in
    fits (c.args.self.now.woken ++ c.args.self.now.aside) c.args.self.now.limit c.loop-job.self-inside.woken
    c.loop-job.self-inside.aside c.in-Some.job l.all l.few l.same (sym c.next.ensures.first ∙ c.in-Some.is)

pub loop-job-smaller : goal.loop-job-smaller
loop-job-smaller c =
    lessens c.loop-job.self-inside.aside c.next.new.self c.in-Some.job (sym c.next.ensures.first ∙ c.in-Some.is)
    c.next.ensures.rest

pub loop-job-preserved : goal.loop-job-preserved
loop-job-preserved c =
    let l = c.loop-job.invariant in
    record {
      all =
          moves (c.args.self.now.woken ++ c.args.self.now.aside) c.loop-job.self-inside.woken c.loop-job.self-inside.aside
          c.push.new.self c.next.new.self c.in-Some.job l.all (sym c.next.ensures.first ∙ c.in-Some.is) c.next.ensures.rest
          c.push.ensures;
      few = l.few;
      own = ap (λ (j : Jobs). j.limit) c.next.ensures.rest ∙ l.own;
      same = ap (λ (j : Jobs). j.limit) c.push.ensures ∙ l.same;
    }

pub invariant_of-self : goal.invariant_of-self
invariant_of-self c =
    let l = c.loop-job.invariant in
    shares c.args.self.now.limit (c.args.self.now.woken ++ c.args.self.now.aside) c.loop-job.self-inside.woken
    c.loop-job.self-inside.aside c.next.new.self l.all l.few l.same l.own (sym c.next.ensures.first ∙ c.in_default.is)
    c.next.ensures.rest

pub returns-clause-all : goal.returns-clause-all
returns-clause-all c =
    let l = c.loop-job.invariant in
    emptied c.args.self.now c.loop-job.self-inside.woken c.loop-job.self-inside.aside c.next.new.self l.all l.own
    (sym c.next.ensures.first ∙ c.in_default.is) c.next.ensures.rest

pub returns-clause-told : goal.returns-clause-told
returns-clause-told c = λ none.
    c.if-len-eq0.false
    (c.len.ensures ∙ ap (λ (k : KeptAside). length k.aside) c.self.view_is ∙ ap (λ (l : List PlainJob). length l) none)
