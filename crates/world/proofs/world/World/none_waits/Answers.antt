use Rattle.std.proofs.Common.{◌≡◌, false, [], ap, sym, ◌∙◌, subst}
use Rattle.device_model.specs.World.{PlainWorld}
use Rattle.device_model.specs.Standing.{NoneIsBacked}
use Rattle.device_steps.specs.Apart.{standing}
use Rattle.device_steps.proofs.Reached.{none_was_backed}
use Rattle.world.proofs.world.World.none_waits.Goals as goal

pub returns-clause-aside : goal.returns-clause-aside
returns-clause-aside c =
    let w = standing false c.self.inside.memory c.self.inside.device in
    let r = c.self.invariant.whole.reached in
    subst (λ (z : PlainWorld). NoneIsBacked z → z.aside ≡ []) c.self.view_is
    (λ none. (c.a_device_in_memory_defers_nothing.ensures.none r.old r.trace w r.reached (none_was_backed w r none)).0)

pub returns-clause-woken : goal.returns-clause-woken
returns-clause-woken c =
    let w = standing false c.self.inside.memory c.self.inside.device in
    let r = c.self.invariant.whole.reached in
    subst (λ (z : PlainWorld). NoneIsBacked z → z.woken ≡ []) c.self.view_is
    (λ none. (c.a_device_in_memory_defers_nothing.ensures.none r.old r.trace w r.reached (none_was_backed w r none)).1)
