use Rattle.std.proofs.Common.{false, [], refl, sym, ap, subst, arith}
use Rattle.device_steps.specs.Apart.{PlainDevice, standing}
use Rattle.world.specs.LiveWorld.{OpensForIn}
use Rattle.world.proofs.AtOpening.{opens, opens_over, opens_over_steady, no_steps}
use Rattle.world.proofs.live_world.LiveWorld.hand_in.Goals as goal

pub hand_in-requires-clause-fresh : goal.hand_in-requires-clause-fresh
hand_in-requires-clause-fresh g c =
    let size = g.M.Memory.extent c.self.inside.memory in
    let o = subst (λ w. OpensForIn (g.M.Memory.extent w.memory) w.device c.args.disks.now.items) (sym c.self.view_is) c.requires.opening in
    no_steps _ (opens size o.config (standing false [] c.self.inside.device) o.taken (o.opening false [])).units

pub hand_in-requires-clause-enough : goal.hand_in-requires-clause-enough
hand_in-requires-clause-enough g c =
    let o = subst (λ w. OpensForIn (g.M.Memory.extent w.memory) w.device c.args.disks.now.items) (sym c.self.view_is) c.requires.opening in
    omega (arith, o.are.count, (o.opening false []).units.count)

pub returns-clause-over : goal.returns-clause-over
returns-clause-over g c =
    rw (← c.self.view_is)
    (λ config opening. record { bare = c.self.inside.device; opening = opening; is = c.hand_in.ensures.over })

pub invariant_of-self : goal.invariant_of-self
invariant_of-self g c =
    let shared = g.M.Memory.shared in
    let size = g.M.Memory.extent c.self.inside.memory in
    let o = subst (λ w. OpensForIn (g.M.Memory.extent w.memory) w.device c.args.disks.now.items) (sym c.self.view_is) c.requires.opening in
    λ m long.
    opens_over_steady size o.config c.args.disks.now.items (standing shared m c.self.inside.device)
    (standing shared m c.hand_in.new.self) o.taken (o.opening shared m)
    (ap (λ (d : PlainDevice). standing shared m d) c.hand_in.ensures.over) long

pub returns-clause-opens : goal.returns-clause-opens
returns-clause-opens g c =
    let shared = g.M.Memory.shared in
    let size = g.M.Memory.extent c.self.inside.memory in
    let o = subst (λ w. OpensForIn (g.M.Memory.extent w.memory) w.device c.args.disks.now.items) (sym c.self.view_is) c.requires.opening in
    λ m long.
    opens_over size o.config c.args.disks.now.items (standing shared m c.self.inside.device)
    (standing shared m c.hand_in.new.self) o.taken (o.opening shared m)
    (ap (λ (d : PlainDevice). standing shared m d) c.hand_in.ensures.over)

pub returns-clause-reaches : goal.returns-clause-reaches
returns-clause-reaches g c = λ m long. record { opens = returns-clause-opens g c m long; runs = refl }
