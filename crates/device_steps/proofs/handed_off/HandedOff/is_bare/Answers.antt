use Rattle.std.proofs.Common.{List, Some, ap, ◌∙◌, arith}
use Rattle.unit_model.specs.Jobs.{PlainJob}
use Rattle.device_steps.specs.Off.{jobs_of}
use Rattle.device_steps.proofs.Off.{list_there, is_bare}
use Rattle.device_steps.proofs.handed_off.HandedOff.is_bare.Goals as goal

pub returns : goal.returns
returns c = λ e.
    rw (← c.self.view_is)
    (list_there c.self.inside.lists.items c.len.result c.args.at c.index.result.now
    (c.len.ensures ∙ c.self.inside.lists.ok.0) c.if-at-len.false c.index.ensures
    ∙ ap (λ (z : List PlainJob). Some z)
    (is_bare (jobs_of c.index.result.now) (omega (arith, c.if-len-gt0.false, c.len-2.ensures))))
