use Rattle.std.proofs.Common.{sym, subst}
use Rattle.device_model.specs.World.{PlainWorld}
use Rattle.stored_world.specs.Inner.Stored.{AreHosted}
use Rattle.stored_world.proofs.stored.StoredWorld.load_failed.Goals as goal

pub invariant_of-self : goal.invariant_of-self
invariant_of-self c =
    let old = c.args.self.now in
    record { hosted = subst (λ (w : PlainWorld). AreHosted w.units old.disks.items) (sym c.load_failed.ensures.same) old.hosted }
