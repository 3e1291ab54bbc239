use Rattle.std.proofs.Common.{subst}
use Rattle.device_steps.specs.Opening.{AreDisksFor}
use Rattle.world.proofs.world.World.new_with.Goals as goal

pub hand_in-requires : goal.hand_in-requires
hand_in-requires c =
    record {
      opening = record {
        config = c.args.config.now;
        taken = c.in-Ok.ensures.opening.0;
        opening = c.in-Ok.ensures.opening.1;
        are =
            subst (λ us. AreDisksFor us c.args.disks.now.items) c.as_slice.ensures.value
            (subst (λ ds. AreDisksFor c.as_slice.result.now ds) c.as_slice-else-not-is_valid.ensures.value
            (c.are_disks_for.ensures.yes c.if-not-are_disks_for.false));
      };
    }
