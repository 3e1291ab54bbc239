use Rattle.std.specs.Arc.{arc_value}
use Rattle.workers.proofs.Crews.{before_last}
use Rattle.workers.proofs.crew.hire.Goals as goal

pub start_all-requires-after_bounds : goal.start_all-requires-after_bounds
start_all-requires-after_bounds g c κs within =
    (before_last (g.W.Works.hub (arc_value c.args.shared.now)) _ _ _ c.requires.all c.in-Some.ensures.items).0

pub returns-clause-last : goal.returns-clause-last
returns-clause-last g c =
    let parts = before_last (g.W.Works.hub (arc_value c.args.shared.now)) _ _ _ c.requires.all c.in-Some.ensures.items in
    rw c.in_ok-post.ensures.seat parts.1
