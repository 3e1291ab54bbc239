use Rattle.std.proofs.Common.{◌≡◌, false, sym, ap, subst, ◌∙◌}
use Rattle.block_store.specs.Storage.{Dealing}
use Rattle.device_steps.specs.Apart.{PlainDevice, standing}
use Rattle.device_steps.specs.Paging.{IsDealt}
use Rattle.device_steps.specs.Sound.{IsSteady}
use Rattle.world.proofs.Dealing.{each_lost, lost_or, deal_steady, deal_promised}
use Rattle.world.proofs.world.World.lost.Goals as goal

pub invariant_of-self : goal.invariant_of-self
invariant_of-self c =
    let m = c.self.inside.memory in
    let d = c.self.inside.device in
    let d' = c.lost.new.self in
    let x = Dealing.Lose c.args.page in
    lost_or (IsDealt d c.args.unit_index x d') (d' ≡ d) (IsSteady (standing false m d'))
    (λ h. deal_steady d c.args.unit_index x d' h false m c.self.invariant)
    (λ same. subst (λ (z : PlainDevice). IsSteady (standing false m z)) (sym same) c.self.invariant) c.lost.result
    c.lost.ensures.lost c.lost.ensures.otherwise

pub returns-clause-lost : goal.returns-clause-lost
returns-clause-lost c =
    let d = c.self.inside.device in
    let d' = c.lost.new.self in
    let x = Dealing.Lose c.args.page in
    rw (← c.self.view_is)
    (each_lost (IsDealt d c.args.unit_index x d') _
    (λ h. deal_promised d c.args.unit_index x d' h c.the_promise_is_kept.ensures c.every_run_goes_on.ensures.run c.self.inside.memory)
    c.lost.result c.lost.ensures.lost)
