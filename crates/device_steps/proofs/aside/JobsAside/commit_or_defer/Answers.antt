use Rattle.std.proofs.Common.{◌<◌, ◌+◌, length, sym, ap, ◌∙◌, subst}
use Rattle.phases.specs.Parts.{hand_of}
use Rattle.phases.specs.Inner.Units.{CommitsOrDefers}
use Rattle.device_steps.specs.Aside.{KeptAside}
use Rattle.device_steps.specs.Inner.Aside.{waiting_of}
use Rattle.device_steps.proofs.Resuming.{room_kept, limit_kept}
use Rattle.device_steps.proofs.aside.JobsAside.commit_or_defer.Goals as goal

pub invariant_of-self : goal.invariant_of-self
invariant_of-self c =
    let called = c.phase_commit_or_defer in
    room_kept (hand_of c.args.hand.now) c.args.unit.now called.new.unit c.self.inside.aside c.self.inside.woken
    called.new.aside called.result (hand_of called.new.hand) c.self.invariant
    (subst (λ (k : KeptAside). length k.aside + length k.woken < k.limit) (sym c.self.view_is) c.requires.room) called.ensures

pub returns-clause-limit : goal.returns-clause-limit
returns-clause-limit c =
    let called = c.phase_commit_or_defer in
    limit_kept (hand_of c.args.hand.now) c.args.unit.now called.new.unit c.self.inside.aside called.new.aside called.result
    (hand_of called.new.hand) called.ensures
    ∙ ap (λ (k : KeptAside). k.limit) c.self.view_is

pub returns-clause-commits : goal.returns-clause-commits
returns-clause-commits c =
    let called = c.phase_commit_or_defer in
    subst (λ (k : KeptAside). CommitsOrDefers (hand_of c.args.hand.now) c.args.unit.now (waiting_of k) called.result
    called.new.unit (hand_of called.new.hand) called.new.aside) c.self.view_is called.ensures
