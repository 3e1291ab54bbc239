-- Where a queue goes on, as C is told.
use Rattle.std.specs.Prelude.{ℕ, ◌≡◌, Bool, cond, Option, Some, None, slice_get}
use Rattle.ring_core.specs.Position.{position}
use Rattle.ring_core.specs.declared.layout.Position.{Position}
use Rattle.device_model.specs.World.{PlainQueue}
use Rattle.c_calls.specs.LiveWanted.{ring_layout}
use Rattle.c_calls.specs.declared.answer.Answer.{Answer}
use Rattle.c_calls.specs.declared.answer.Answer.TheVariants as answer
use Rattle.c_calls.specs.declared.live_wanted.RingPosition.{RingPosition}
use Rattle.c_calls.specs.declared.live_wanted.WantedRing.{WantedRing}
use Rattle.c_calls.specs.declared.served.Served.{Served}

-- a side has wrapped where its wrap counter is 0 (VIRTIO 1.2, 2.8.1)
abbrev pub wrapped_of : Bool → ℕ
wrapped_of wrap = cond wrap 0 1

abbrev pub told_position : Position → RingPosition
told_position p =
    record {
      available = p.available.index;
      used = p.used.index;
      available_wrapped = wrapped_of p.available.wrap;
      used_wrapped = wrapped_of p.used.wrap;
    }

-- a ring that is asked for with this `first` begins there
abbrev pub BeginsAt : RingPosition → Position → Type 0
BeginsAt first p = (ring : WantedRing) → ring.first ≡ first
    → ((ring_layout ring).first_available ≡ p.available) × ((ring_layout ring).first_used ≡ p.used)

-- as `World::position`
abbrev pub TellsPositionOf : Option PlainQueue → RingPosition → Answer → RingPosition → Type 0
TellsPositionOf None old answer.NoQueue new = new ≡ old
TellsPositionOf (Some q) old answer.Done new = (new ≡ told_position (position q.ring)) × BeginsAt new (position q.ring)
TellsPositionOf q old a new = ⊥

abbrev pub TellsPosition : ℕ → RingPosition → RingPosition → Served → Answer → Served → Type 0
TellsPosition queue old new d a d' = TellsPositionOf (slice_get d.world.queues queue) old a new × (d' ≡ d)
