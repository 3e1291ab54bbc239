use Rattle.std.proofs.Common.{false, refl, sym, ap, subst}
use Rattle.config.specs.Config.{size_of}
use Rattle.device_steps.specs.Apart.{PlainDevice, standing}
use Rattle.device_steps.specs.Opening.{OpensFor}
use Rattle.world.proofs.AtOpening.{opens, opens_over, opens_over_steady, no_steps, taken_own, long_own}
use Rattle.world.proofs.world.World.hand_in.Goals as goal

pub hand_in-requires-clause-fresh : goal.hand_in-requires-clause-fresh
hand_in-requires-clause-fresh c =
    let o = subst (λ w. OpensFor w c.args.disks.now.items) (sym c.self.view_is) c.requires.opening in
    no_steps _
    (opens (size_of o.config) o.config (standing false c.self.inside.memory c.self.inside.device) (taken_own o.config o.taken)
    o.opening.parts).units

pub invariant_of-self : goal.invariant_of-self
invariant_of-self c =
    let o = subst (λ w. OpensFor w c.args.disks.now.items) (sym c.self.view_is) c.requires.opening in
    let m = c.self.inside.memory in
    opens_over_steady (size_of o.config) o.config c.args.disks.now.items (standing false m c.self.inside.device)
    (standing false m c.hand_in.new.self) (taken_own o.config o.taken) o.opening.parts
    (ap (λ (d : PlainDevice). standing false m d) c.hand_in.ensures.over) (long_own o.config m o.opening.memory)

pub returns-clause-opens : goal.returns-clause-opens
returns-clause-opens c =
    let o = subst (λ w. OpensFor w c.args.disks.now.items) (sym c.self.view_is) c.requires.opening in
    let m = c.self.inside.memory in
    opens_over (size_of o.config) o.config c.args.disks.now.items (standing false m c.self.inside.device)
    (standing false m c.hand_in.new.self) (taken_own o.config o.taken) o.opening.parts
    (ap (λ (d : PlainDevice). standing false m d) c.hand_in.ensures.over)

pub returns-clause-reaches : goal.returns-clause-reaches
returns-clause-reaches c = record { opens = returns-clause-opens c; runs = refl }
