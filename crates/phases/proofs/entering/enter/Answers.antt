use Rattle.phases.proofs.Enters.{runs, parks, overflows, sheds, stalls}
use Rattle.phases.proofs.entering.enter.Goals as goal

pub returns-in-Run : goal.returns-in-Run
returns-in-Run c =
    rw (c.push.ensures, c.requires.empty)
    (runs c.args.arrival c.args.unit.now c.enter.new.self c.args.out.now c.in-Run.job c.in-Run.ensures)

pub returns-in-Parked : goal.returns-in-Parked
returns-in-Parked c =
    rw c.requires.empty (parks c.args.arrival c.args.unit.now c.enter.new.self c.args.out.now c.in-Parked.ensures)

pub returns-in-Full : goal.returns-in-Full
returns-in-Full c =
    rw c.refused.ensures
    (overflows c.args.arrival c.args.unit.now c.enter.new.self c.args.out.now c.in-Full.job c.in-Full.ensures)

pub returns-in-Busy : goal.returns-in-Busy
returns-in-Busy c =
    rw c.refused-in-Busy.ensures
    (sheds c.args.arrival c.args.unit.now c.enter.new.self c.args.out.now c.in-Busy.job c.in-Busy.ensures)

pub returns-in-Stale : goal.returns-in-Stale
returns-in-Stale c =
    rw c.refused-in-Stale.ensures
    (stalls c.args.arrival c.args.unit.now c.enter.new.self c.args.out.now c.in-Stale.job c.in-Stale.ensures)
