use Rattle.std.proofs.Common.{◌≡◌, false, sym, ap, subst, ◌∙◌}
use Rattle.block_store.specs.Storage.{Dealing}
use Rattle.device_model.specs.World.{PlainWorld}
use Rattle.device_steps.specs.Apart.{PlainDevice, standing}
use Rattle.device_steps.specs.Paging.{IsDealt}
use Rattle.device_steps.specs.Sound.{IsSteady}
use Rattle.world.proofs.Dealing.{each_given, given_or, deal_steady, deal_promised}
use Rattle.world.proofs.world.World.give.Goals as goal

pub invariant_of-self : goal.invariant_of-self
invariant_of-self c =
    let m = c.self.inside.memory in
    let d = c.self.inside.device in
    let d' = c.give.new.self in
    given_or (λ g. IsDealt d c.args.unit_index (Dealing.Give g.page g.bytes.items) d') (d' ≡ d) (IsSteady (standing false m d'))
    (λ g h. deal_steady d c.args.unit_index (Dealing.Give g.page g.bytes.items) d' h false m c.self.invariant)
    (λ same. subst (λ (z : PlainDevice). IsSteady (standing false m z)) (sym same) c.self.invariant) c.give.result
    c.give.ensures.given c.give.ensures.none c.give.ensures.err

pub returns-clause-given : goal.returns-clause-given
returns-clause-given c =
    let d = c.self.inside.device in
    let d' = c.give.new.self in
    rw (← c.self.view_is)
    (each_given (λ g. IsDealt d c.args.unit_index (Dealing.Give g.page g.bytes.items) d') _
    (λ g h. deal_promised d c.args.unit_index (Dealing.Give g.page g.bytes.items) d' h c.the_promise_is_kept.ensures
    c.every_run_goes_on.ensures.run c.self.inside.memory) c.give.result c.give.ensures.given)
