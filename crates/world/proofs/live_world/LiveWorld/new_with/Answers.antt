use Rattle.std.proofs.Common.{◌≡◌, true, sym, subst}
use Rattle.config.specs.Config.{is_config_for}
use Rattle.device_steps.specs.Opening.{IsOpeningApart}
use Rattle.device_steps.specs.Opening.{AreDisksFor}
use Rattle.world.proofs.live_world.LiveWorld.new_with.Goals as goal

pub hand_in-requires : goal.hand_in-requires
hand_in-requires g c =
    record {
      opening = record {
        config = c.args.config.now;
        taken =
            subst (λ m. is_config_for (g.M.Memory.extent m) c.args.config.now ≡ true) (sym c.in-Ok.ensures.opening.1)
            c.in-Ok.ensures.opening.0;
        opening =
            subst (λ m. IsOpeningApart (g.M.Memory.extent m) c.args.config.now c.in-Ok.world.device)
            (sym c.in-Ok.ensures.opening.1) c.in-Ok.ensures.opening.2;
        are =
            subst (λ us. AreDisksFor us c.args.disks.now.items) c.as_slice.ensures.value
            (subst (λ ds. AreDisksFor c.as_slice.result.now ds) c.as_slice-2.ensures.value
            (c.are_disks_for.ensures.yes c.if-not-are_disks_for.false));
      };
    }
