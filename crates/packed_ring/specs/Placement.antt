-- Where a packed queue may lie (VIRTIO 1.2, 2.8: sizes and alignments of its areas).
use Rattle.std.specs.Prelude.{ℕ, ◌+◌, ◌*◌, ◌%◌, ◌&&◌, ◌==◌, not, nat_le, nat_lt, cond, Bool, Option, Some, None}
use Rattle.ring_core.specs.declared.layout.Layout.{Layout}
use Rattle.ring_core.specs.declared.layout.LayoutFault.{LayoutFault}
use Rattle.ring_core.specs.declared.layout.LayoutFault.TheVariants.{BadSize, BadAlignment, Outside, BadStart}

abbrev pub size_is_right : ℕ → Bool
size_is_right size = nat_lt 0 size && nat_le size 32768

abbrev pub is_aligned : Layout → Bool
is_aligned l = (l.desc % 16 == 0) && (l.driver % 4 == 0) && (l.device % 4 == 0)

-- 16 bytes a descriptor, and 4 bytes of event suppression of the driver and of the device
abbrev pub lies_in_memory : ℕ → Layout → Bool
lies_in_memory memory l =
    nat_le (l.desc + 16 * l.size) memory && nat_le (l.driver + 4) memory && nat_le (l.device + 4) memory

-- both sides begin at a slot of the ring
abbrev pub begins_inside : Layout → Bool
begins_inside l = nat_lt l.first_available.index l.size && nat_lt l.first_used.index l.size

-- the first thing wrong with a layout, in a memory of this size
abbrev pub placement_fault : ℕ → Layout → Option LayoutFault
placement_fault memory l =
    cond (not (size_is_right l.size)) (Some BadSize)
    (cond (not (is_aligned l)) (Some BadAlignment)
    (cond (not (lies_in_memory memory l)) (Some Outside)
    (cond (not (begins_inside l)) (Some BadStart) None)))
