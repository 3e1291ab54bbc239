use Rattle.std.proofs.Common.{◌≡◌, true, false, length, refl, sym, subst, ◌∙◌}
use Rattle.config.specs.Config.{is_config, is_config_for, size_of}
use Rattle.device_steps.specs.Apart.{standing}
use Rattle.device_steps.specs.Opening.{IsOpening, IsOpeningFor}
use Rattle.world.proofs.AtOpening.{opens, opens_steady, taken_own, long_own}
use Rattle.world.proofs.world.World.new.Goals as goal

pub open_device-requires : goal.open_device-requires
open_device-requires c =
    record {
      taken =
          subst (λ n. is_config_for n c.args.config.now ≡ true)
          (sym (long_own c.args.config.now c.in-Ok.memory c.in-Ok.ensures.zeros))
          (taken_own c.args.config.now (sym c.is_valid.ensures ∙ c.if-not-is_valid.false));
    }

-- the configuration is taken
taken : (c : goal.In-Ok-open_device) → is_config c.args.config.now ≡ true
taken c = sym c.is_valid.ensures ∙ c.if-not-is_valid.false

-- memory has the size that it names
long : (c : goal.In-Ok-open_device) → length c.in-Ok.memory ≡ size_of c.args.config.now
long c = long_own c.args.config.now c.in-Ok.memory c.in-Ok.ensures.zeros

-- it opens with the zeros that stand there
opened : (c : goal.In-Ok-open_device) → IsOpening c.args.config.now (standing false c.in-Ok.memory c.in-Ok-open_device.device)
opened c =
    record {
      memory = c.in-Ok.ensures.zeros;
      own = refl;
      parts =
          subst (λ n. IsOpeningFor n c.args.config.now (standing false c.in-Ok.memory c.in-Ok-open_device.device)) (long c)
          (c.in-Ok-open_device.ensures false c.in-Ok.memory);
    }

pub invariant_of-result : goal.invariant_of-result
invariant_of-result c =
    opens_steady (size_of c.args.config.now) c.args.config.now (standing false c.in-Ok.memory c.in-Ok-open_device.device) (long c)
    (taken_own c.args.config.now (taken c)) (opened c).parts

pub returns-in-Ok-open_device-clause-opening : goal.returns-in-Ok-open_device-clause-opening
returns-in-Ok-open_device-clause-opening c = (taken c, opened c)

pub returns-in-Ok-open_device-clause-opens : goal.returns-in-Ok-open_device-clause-opens
returns-in-Ok-open_device-clause-opens c =
    opens (size_of c.args.config.now) c.args.config.now (standing false c.in-Ok.memory c.in-Ok-open_device.device)
    (taken_own c.args.config.now (taken c)) (opened c).parts

pub returns-in-Ok-open_device-clause-reaches : goal.returns-in-Ok-open_device-clause-reaches
returns-in-Ok-open_device-clause-reaches c =
    record { opens = returns-in-Ok-open_device-clause-opens c; runs = refl }
