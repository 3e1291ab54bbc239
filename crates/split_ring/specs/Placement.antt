-- Where a split queue may lie (VIRTIO 1.2, 2.7: sizes and alignments of its areas).
use Rattle.std.specs.Prelude.{ℕ, ◌+◌, ◌*◌, ◌%◌, ◌&&◌, ◌==◌, not, nat_le, nat_lt, cond, Bool, Option, Some, None}
use Rattle.std.specs.Int.{is_power_of_two}
use Rattle.ring_core.specs.declared.layout.Layout.{Layout}
use Rattle.ring_core.specs.declared.layout.LayoutFault.{LayoutFault}
use Rattle.ring_core.specs.declared.layout.LayoutFault.TheVariants.{BadSize, BadAlignment, Outside}

abbrev pub size_is_right : ℕ → Bool
size_is_right size = nat_lt 0 size && nat_le size 32768 && is_power_of_two size

abbrev pub is_aligned : Layout → Bool
is_aligned l = (l.desc % 16 == 0) && (l.driver % 2 == 0) && (l.device % 4 == 0)

-- 16 bytes a descriptor; flags, idx, an entry of 2 bytes a descriptor and used_event; flags, idx, an element of 8
-- bytes a descriptor and avail_event
abbrev pub lies_in_memory : ℕ → Layout → Bool
lies_in_memory memory l =
    nat_le (l.desc + 16 * l.size) memory
    && nat_le (l.driver + (6 + 2 * l.size)) memory
    && nat_le (l.device + (6 + 8 * l.size)) memory

-- the first thing wrong with a layout, in a memory of this size
abbrev pub placement_fault : ℕ → Layout → Option LayoutFault
placement_fault memory l =
    cond (not (size_is_right l.size)) (Some BadSize)
    (cond (not (is_aligned l)) (Some BadAlignment)
    (cond (not (lies_in_memory memory l)) (Some Outside) None))
