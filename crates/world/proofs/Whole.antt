-- A device in live memory that asks each of its queues.
use Rattle.std.proofs.Common.{ℕ, ◌≤◌, Bool, List, length, ◌∙◌, subst, arith}
use Rattle.ring_core.specs.Writes.{Write}
use Rattle.device_model.specs.World.{PlainWorld}
use Rattle.device_model.specs.Order.{NoneApplies}
use Rattle.device_steps.specs.Apart.{PlainDevice, standing}
use Rattle.device_steps.specs.Settling.{asks, asks_all}
use Rattle.world.specs.LiveWorld.{PlainLive}
use Rattle.world.specs.LiveServing.{AsksEach, Looks, HasNone, HasNothing}
use Rattle.device_steps.proofs.Ordering.{AskAlike, order_alike}
use Rattle.world.proofs.Portions.{asks_each, order_all, rests_whole}

-- a mask with each bit set asks each
pub each_asked : (d : PlainDevice) → length d.queues ≤ 18 → AsksEach (asks 4294967295) d
each_asked d few = λ q lt. asks_each q (omega (arith, lt, few))

-- so nothing at all is left
nothing_at : (w : PlainWorld) → length w.queues ≤ 18 → HasNone (asks 4294967295) w → HasNothing w
nothing_at w few h =
    let queues = length w.queues in
    let seats = length w.seats in
    let same : AskAlike (asks 4294967295) asks_all queues = λ q lt. asks_each q (omega (arith, lt, few)) in (
      subst (λ xs. NoneApplies w xs)
          (order_alike (asks 4294967295) asks_all queues seats same ∙ order_all queues seats) h.0,
      rests_whole w same h.1,
    )

pub looks_nothing : {X : Type 0} (shared : Bool) (begins : X → X → Type 0) (may_be : X → List ℕ → Type 0)
    (stored : X → X → List Write → Type 0) (x y : PlainLive X)
    → length y.device.queues ≤ 18 → Looks shared begins may_be stored (HasNone (asks 4294967295)) x y
    → Looks shared begins may_be stored HasNothing x y
looks_nothing shared begins may_be stored x y few h =
    record {
      begun = h.begun;
      begins_so = h.begins_so;
      same = h.same;
      stays = h.stays;
      stores = h.stores;
      finds = λ m may. nothing_at (standing shared m y.device) few (h.finds m may);
    }
