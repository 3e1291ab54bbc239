use Rattle.std.proofs.Common.{rules, ◌≡◌, false, Bool, length, sym, subst}
use Rattle.device_model.specs.Parts.{Hand}
use Rattle.phases.specs.Parts.{hand_of}
use Rattle.phases.specs.Units.{Commits}
use Rattle.lock_scopes.proofs.Joining.{stays_taken}
use Rattle.lock_scopes.proofs.joined_unit.run_next.Goals as goal

-- the job that was taken is in the hand still
pub returns : goal.returns
returns g c =
    let job = c.in-Some.job in
    let free : hand_of c.args.hand.now ≡ Hand.Empty = search rules in
    let one : length c.args.out.now.jobs ≡ 1 = search rules in
    let took : hand_of c.taken.result ≡ Hand.Taken job = search rules in
    stays_taken c.args.hand.now c.taken.result c.phase_commit.new.hand job c.args.unit.now c.phase_commit.new.unit c.args.out.now
    c.next.new.self free one (sym c.in-Some.ensures.first) took c.in-Some.ensures.rest
    (subst (λ (b : Bool). Commits (hand_of c.taken.result) c.args.unit.now b c.phase_commit.new.unit (hand_of c.phase_commit.new.hand))
    c.if-phase_commit.false c.phase_commit.ensures.commits)
