use Rattle.std.proofs.Common.{refl, ◌∙◌}
use Rattle.device_steps.specs.Apart.{Stored}
use Rattle.device_steps.specs.Settling.{asks}
use Rattle.world.specs.ServingAsked.{AsksNextLive}
use Rattle.world.proofs.Rounded.{below_next}
use Rattle.world.proofs.live_world.LiveWorld.ask_each.Goals as goal

pub loop-number-init : goal.loop-number-init
loop-number-init g c = record { size = refl; below = refl }

pub loop-number-preserved : goal.loop-number-preserved
loop-number-preserved g c =
    record {
      size = c.ask_among.ensures.size ∙ c.loop-number.invariant.size;
      below = below_next (AsksNextLive g.M.Memory.shared g.M.Memory.begins g.M.Memory.may_be
          (Stored g.M.Memory.stored g.M.Memory.storing) g.M.Memory.extent) (asks c.args.queues) c.loop-number.number
          c.args.self.now c.loop-number.self c.ask_among.new.self c.loop-number.invariant.below c.ask_among.ensures.asks;
    }
