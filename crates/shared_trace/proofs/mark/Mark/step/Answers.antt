use Rattle.shared_trace.proofs.Marks.{step_may, step_then}
use Rattle.shared_trace.proofs.mark.Mark.step.Goals as goal

pub add-requires-clause-may : goal.add-requires-clause-may
add-requires-clause-may g c =
    let L = g.L.Laws in
    let m = c.self.inside in
    step_may L.parts L.part_of L.may c.args.self.now m.number m.count m.own m.known g.S.Said.event c.self.view_is
    c.self.invariant.1 c.self.invariant.2 c.requires.may

pub returns : goal.returns
returns g c =
    let L = g.L.Laws in
    let m = c.self.inside in
    step_then L.parts L.part_of L.may c.args.self.now m.number m.count m.own m.known c.again.result c.in-Some.front
    g.S.Said.event
    c.self.view_is c.self.invariant.1 c.self.invariant.2 c.again.ensures.same c.in-Some.ensures
