use Rattle.std.proofs.Common.{◌≡◌, false, sym, ap, subst, ◌∙◌}
use Rattle.block_store.specs.Storage.{Dealing}
use Rattle.device_steps.specs.Apart.{PlainDevice, standing}
use Rattle.device_steps.specs.Paging.{IsDealt}
use Rattle.device_steps.specs.Sound.{IsSteady}
use Rattle.world.proofs.Dealing.{each_done, done_or, deal_steady, deal_promised}
use Rattle.world.proofs.world.World.denied.Goals as goal

pub invariant_of-self : goal.invariant_of-self
invariant_of-self c =
    let m = c.self.inside.memory in
    let d = c.self.inside.device in
    let d' = c.denied.new.self in
    let x = Dealing.Deny c.args.page in
    done_or (IsDealt d c.args.unit_index x d') (d' ≡ d) (IsSteady (standing false m d'))
    (λ h. deal_steady d c.args.unit_index x d' h false m c.self.invariant)
    (λ same. subst (λ (z : PlainDevice). IsSteady (standing false m z)) (sym same) c.self.invariant) c.denied.result
    c.denied.ensures.denied c.denied.ensures.otherwise c.denied.ensures.err

pub returns-clause-denied : goal.returns-clause-denied
returns-clause-denied c =
    let d = c.self.inside.device in
    let d' = c.denied.new.self in
    let x = Dealing.Deny c.args.page in
    rw (← c.self.view_is)
    (each_done (IsDealt d c.args.unit_index x d') _
    (λ h. deal_promised d c.args.unit_index x d' h c.the_promise_is_kept.ensures c.every_run_goes_on.ensures.run c.self.inside.memory)
    c.denied.result c.denied.ensures.denied)
