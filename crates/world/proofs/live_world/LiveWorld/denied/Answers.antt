use Rattle.std.proofs.Common.{◌≡◌, sym, subst}
use Rattle.block_store.specs.Storage.{Dealing}
use Rattle.device_steps.specs.Apart.{PlainDevice, standing}
use Rattle.device_steps.specs.Paging.{IsDealt}
use Rattle.world.specs.LiveWorld.{IsSteadyIn}
use Rattle.world.proofs.Dealing.{each_done, done_or, deal_steady, deal_live}
use Rattle.world.proofs.live_world.LiveWorld.denied.Goals as goal

pub invariant_of-self : goal.invariant_of-self
invariant_of-self g c =
    let shared = g.M.Memory.shared in
    let size = g.M.Memory.extent c.self.inside.memory in
    let d = c.self.inside.device in
    let d' = c.denied.new.self in
    let x = Dealing.Deny c.args.page in
    done_or (IsDealt d c.args.unit_index x d') (d' ≡ d) (IsSteadyIn shared size d')
    (λ h m long. deal_steady d c.args.unit_index x d' h shared m (c.self.invariant m long))
    (λ same. subst (λ (z : PlainDevice). IsSteadyIn shared size z) (sym same) c.self.invariant) c.denied.result
    c.denied.ensures.denied c.denied.ensures.otherwise c.denied.ensures.err

pub returns-clause-denied : goal.returns-clause-denied
returns-clause-denied g c =
    let d = c.self.inside.device in
    let d' = c.denied.new.self in
    let x = Dealing.Deny c.args.page in
    rw (← c.self.view_is)
    (each_done (IsDealt d c.args.unit_index x d') _
    (λ h. deal_live d c.args.unit_index x d' h c.the_promise_is_kept.ensures c.every_run_goes_on.ensures.run
    c.a_live_run_is_a_run.ensures g.M.Memory.shared (g.M.Memory.extent c.self.inside.memory)) c.denied.result c.denied.ensures.denied)
