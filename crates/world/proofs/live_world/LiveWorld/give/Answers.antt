use Rattle.std.proofs.Common.{◌≡◌, sym, subst}
use Rattle.block_store.specs.Storage.{Dealing}
use Rattle.device_steps.specs.Apart.{PlainDevice, standing}
use Rattle.device_steps.specs.Paging.{IsDealt}
use Rattle.world.specs.LiveWorld.{IsSteadyIn}
use Rattle.world.proofs.Dealing.{each_given, given_or, deal_steady, deal_live}
use Rattle.world.proofs.live_world.LiveWorld.give.Goals as goal

pub invariant_of-self : goal.invariant_of-self
invariant_of-self g c =
    let shared = g.M.Memory.shared in
    let size = g.M.Memory.extent c.self.inside.memory in
    let d = c.self.inside.device in
    let d' = c.give.new.self in
    given_or (λ x. IsDealt d c.args.unit_index (Dealing.Give x.page x.bytes.items) d') (d' ≡ d) (IsSteadyIn shared size d')
    (λ x h m long. deal_steady d c.args.unit_index (Dealing.Give x.page x.bytes.items) d' h shared m (c.self.invariant m long))
    (λ same. subst (λ (z : PlainDevice). IsSteadyIn shared size z) (sym same) c.self.invariant) c.give.result
    c.give.ensures.given c.give.ensures.none c.give.ensures.err

pub returns-clause-given : goal.returns-clause-given
returns-clause-given g c =
    let d = c.self.inside.device in
    let d' = c.give.new.self in
    rw (← c.self.view_is)
    (each_given (λ x. IsDealt d c.args.unit_index (Dealing.Give x.page x.bytes.items) d') _
    (λ x h. deal_live d c.args.unit_index (Dealing.Give x.page x.bytes.items) d' h c.the_promise_is_kept.ensures
    c.every_run_goes_on.ensures.run c.a_live_run_is_a_run.ensures g.M.Memory.shared
    (g.M.Memory.extent c.self.inside.memory)) c.give.result c.give.ensures.given)
