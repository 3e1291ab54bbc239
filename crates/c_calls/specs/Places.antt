-- What C sees of a slot where it keeps something. Only the slots' own types cite it.
use Rattle.std.specs.Prelude.{ℕ, ◌==◌, ◌&&◌, Bool, false, not, Option, Some, None}
use Rattle.backed_store.specs.Disks.{size_of}
use Rattle.c_calls.specs.Held.{Content}

-- a device where the slot is live, else nothing
abbrev pub has_device : Bool → Option Content → Bool
has_device live (Some (Content.Device d)) = live
has_device live (Some (Content.Disk s)) = false
has_device live (Some (Content.Live d)) = false
has_device live None = not live

-- a device on live memory where the slot is live, else nothing
abbrev pub has_live : Bool → Option Content → Bool
has_live live (Some (Content.Device d)) = false
has_live live (Some (Content.Disk s)) = false
has_live live (Some (Content.Live d)) = live
has_live live None = not live

-- a disk of so many blocks where the slot is live, else nothing
abbrev pub has_disk : Bool → ℕ → Option Content → Bool
has_disk live blocks (Some (Content.Device d)) = false
has_disk live blocks (Some (Content.Disk s)) = live && (size_of s == blocks)
has_disk live blocks (Some (Content.Live d)) = false
has_disk live blocks None = not live
