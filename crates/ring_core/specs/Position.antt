-- Where a queue goes on: the first indices by which another device goes on where this one is (VIRTIO 1.2, 2.7.6, 2.7.8
-- and 2.8.1).
use Rattle.std.specs.Prelude.{ℕ, true, length}
use Rattle.ring_core.specs.State.{RingState, opening}
use Rattle.ring_core.specs.Split.{available_index, used_index_after}
use Rattle.ring_core.specs.Packed.{available_place, used_place, index_at}
use Rattle.ring_core.specs.declared.layout.Form.{Form}
use Rattle.ring_core.specs.declared.layout.Form.TheVariants.{Split, Packed}
use Rattle.ring_core.specs.declared.layout.Layout.{Layout}
use Rattle.ring_core.specs.declared.layout.Position.{Position}

-- the next indices of both rings; there are no wrap counters, and 1 stands in their place
abbrev pub split_position : RingState → Position
split_position s =
    record {
      available = record { index = available_index s; wrap = true };
      used = record { index = used_index_after s (length s.log.used); wrap = true };
    }

-- the next slots of both sides, each with its wrap counter
abbrev pub packed_position : RingState → Position
packed_position s =
    record {
      available = index_at s.layout.size (available_place s);
      used = index_at s.layout.size (used_place s);
    }

abbrev pub position_in_form : Form → RingState → Position
position_in_form Split s = split_position s
position_in_form Packed s = packed_position s

abbrev pub position : RingState → Position
position s = position_in_form s.form s

-- a layout whose device begins there
abbrev pub going_on : Layout → Position → Layout
going_on l p = record l { first_available = p.available; first_used = p.used }

-- the queue as another device opens it there, of which nothing was fetched yet
abbrev pub reopened : RingState → RingState
reopened s = opening s.form s.queue (going_on s.layout (position s)) s.features s.memory (length s.outstanding)
