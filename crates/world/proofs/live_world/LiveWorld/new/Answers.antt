use Rattle.std.proofs.Common.{◌≡◌, ◌∙◌, true, refl, sym, subst}
use Rattle.config.specs.Config.{is_config_for}
use Rattle.device_steps.specs.Apart.{standing}
use Rattle.world.proofs.AtOpening.{opens, opens_steady}
use Rattle.world.proofs.live_world.LiveWorld.new.Goals as goal

pub open_device-requires : goal.open_device-requires
open_device-requires g c =
    record {
      taken =
          subst (λ n. is_config_for n c.args.config.now ≡ true) c.size.ensures.size
          (sym c.is_valid_for.ensures ∙ c.if-not-is_valid_for.false);
    }

pub invariant_of-result : goal.invariant_of-result
invariant_of-result g c =
    let size = g.M.Memory.extent c.args.memory in
    let taken = subst (λ n. is_config_for n c.args.config.now ≡ true) c.size.ensures.size
    (sym c.is_valid_for.ensures ∙ c.if-not-is_valid_for.false) in
    λ m long.
    opens_steady size c.args.config.now (standing g.M.Memory.shared m c.in-Ok.device) long taken
    (c.in-Ok.ensures g.M.Memory.shared m)

pub returns-in-Ok-clause-opening : goal.returns-in-Ok-clause-opening
returns-in-Ok-clause-opening g c = (
  subst (λ n. is_config_for n c.args.config.now ≡ true) c.size.ensures.size
      (sym c.is_valid_for.ensures ∙ c.if-not-is_valid_for.false),
  refl,
  c.in-Ok.ensures,
)

pub returns-in-Ok-clause-opens : goal.returns-in-Ok-clause-opens
returns-in-Ok-clause-opens g c =
    let size = g.M.Memory.extent c.args.memory in
    let taken = subst (λ n. is_config_for n c.args.config.now ≡ true) c.size.ensures.size
    (sym c.is_valid_for.ensures ∙ c.if-not-is_valid_for.false) in
    λ m long.
    opens size c.args.config.now (standing g.M.Memory.shared m c.in-Ok.device) taken (c.in-Ok.ensures g.M.Memory.shared m)

pub returns-in-Ok-clause-reaches : goal.returns-in-Ok-clause-reaches
returns-in-Ok-clause-reaches g c = λ m long. record { opens = returns-in-Ok-clause-opens g c m long; runs = refl }
