use Rattle.std.proofs.Common.{◌≡◌, None, ◌∙◌}
use Rattle.std.specs.Prelude.{slice_get}
use Rattle.phases.proofs.Raised.{missed, refused, quiet, none_left}
use Rattle.phases.proofs.raising.phase_raise_in.Goals as goal

pub returns-in_default-clause-raises : goal.returns-in_default-clause-raises
returns-in_default-clause-raises g c =
    let none : None ≡ slice_get c.args.waiting.now 0 =
    none_left c.oldest.result c.in_default.not-Some ∙ c.oldest.ensures.oldest in
    quiet g.M.Memory.shared c.args.waiting.now c.args.queue.now (g.M.Memory.may_be c.args.memory.now) c.args.port.now none

pub returns-then-not-may_raise-clause-raises : goal.returns-then-not-may_raise-clause-raises
returns-then-not-may_raise-clause-raises g c =
    refused g.M.Memory.shared c.args.waiting.now c.in-Some.event c.args.queue.now (g.M.Memory.may_be c.args.memory.now)
    c.args.port.now c.in-Some.ensures.oldest
    (λ m stood may. absurd (cc (c.if-not-may_raise.true, (c.if-not-may_raise.ensures.may m stood).1 may)))

pub returns-in-None-clause-raises : goal.returns-in-None-clause-raises
returns-in-None-clause-raises g c =
    missed g.M.Memory.shared c.args.waiting.now c.in-Some.event c.args.queue.now (g.M.Memory.may_be c.args.memory.now)
    c.args.port.now c.raise.new.self c.pop.new.self c.in-Some.ensures.oldest c.pop.ensures c.in-None.ensures.gives
    c.raise.ensures.port
