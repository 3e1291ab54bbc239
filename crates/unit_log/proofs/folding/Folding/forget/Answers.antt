use Rattle.std.proofs.Common.{arith}
use Rattle.unit_log.proofs.Marks.{forgets}
use Rattle.unit_log.proofs.folding.Folding.forget.Goals as goal

pub invariant_of-self : goal.invariant_of-self
invariant_of-self c =
    let most = c.max-self-inside.ensures in
    forgets c.self.inside.keeps c.self.inside.len c.self.inside.forgotten _ c.self.inside.marks.items _ _ _ c.self.invariant (omega (arith, most)) c.forget_oldest.ensures
