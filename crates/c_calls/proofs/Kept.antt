-- What a slot says of what it owns.
use Rattle.std.proofs.Common.{◌≡◌, ℕ, arith, refl, sym, ap, ◌∙◌}
use Rattle.std.specs.Prelude.{Bool, true, false, not, ◌&&◌, ◌==◌, Option, Some, None, is_some}
use Rattle.std.specs.Option.{option_map}
use Rattle.std.proofs.lemmas.Bool.{and_parts}
use Rattle.std.proofs.lemmas.Bool.Decides.{nat_tests}
use Rattle.backed_store.specs.Disks.{size_of}
use Rattle.backed_store.specs.declared.disk.Disk.{Disk as UnitDisk}
use Rattle.c_calls.specs.declared.served.Served.{Served}
use Rattle.c_calls.specs.Held.{Content, device_in, live_in, disk_in}
use Rattle.c_calls.specs.declared.live_served.LiveServed.{LiveServed}
use Rattle.c_calls.specs.Places.{has_device, has_live, has_disk}

not_live : (live : Bool) → not live ≡ true → live ≡ false
not_live true h = cc
not_live false h = refl

same_number : (a b : ℕ) → (a == b) ≡ true → a ≡ b
same_number a b h = grind (arith, nat_tests)

pub device_is_live : (live : Bool) (o : Option Content) → has_device live o ≡ true → live ≡ is_some (device_in o)
device_is_live live None h = not_live live h
device_is_live live (Some (Content.Device d)) h = h
device_is_live live (Some (Content.Disk s)) h = cc
device_is_live live (Some (Content.Live d)) h = cc

pub device_there : (o : Option Content) (d : Served) → o ≡ Some (Content.Device d) → device_in o ≡ Some d
device_there o d e = ap device_in e

pub no_device : (live : Bool) (o : Option Content) → has_device live o ≡ true → device_in o ≡ None → o ≡ None
no_device live None h e = refl
no_device live (Some (Content.Device d)) h e = cc
no_device live (Some (Content.Disk s)) h e = cc
no_device live (Some (Content.Live d)) h e = cc

pub live_is_live : (live : Bool) (o : Option Content) → has_live live o ≡ true → live ≡ is_some (live_in o)
live_is_live live None h = not_live live h
live_is_live live (Some (Content.Device d)) h = cc
live_is_live live (Some (Content.Disk s)) h = cc
live_is_live live (Some (Content.Live d)) h = h

pub live_there : (o : Option Content) (d : LiveServed) → o ≡ Some (Content.Live d) → live_in o ≡ Some d
live_there o d e = ap live_in e

pub no_live : (live : Bool) (o : Option Content) → has_live live o ≡ true → live_in o ≡ None → o ≡ None
no_live live None h e = refl
no_live live (Some (Content.Device d)) h e = cc
no_live live (Some (Content.Disk s)) h e = cc
no_live live (Some (Content.Live d)) h e = cc

pub disk_is_live : (live : Bool) (blocks : ℕ) (o : Option Content) → has_disk live blocks o ≡ true → live ≡ is_some (disk_in o)
disk_is_live live blocks None h = not_live live h
disk_is_live live blocks (Some (Content.Device d)) h = cc
disk_is_live live blocks (Some (Content.Live d)) h = cc
disk_is_live live blocks (Some (Content.Disk s)) h = (and_parts live (size_of s == blocks) h).0

pub disk_has : (live : Bool) (blocks : ℕ) (o : Option Content) → has_disk live blocks o ≡ true → live ≡ true
    → option_map (λ (s : UnitDisk). size_of s) (disk_in o) ≡ Some blocks
disk_has live blocks None h e = cc
disk_has live blocks (Some (Content.Device d)) h e = cc
disk_has live blocks (Some (Content.Live d)) h e = cc
disk_has live blocks (Some (Content.Disk s)) h e = ap (λ (n : ℕ). Some n) (same_number (size_of s) blocks (and_parts live (size_of s == blocks) h).1)

pub no_blocks : (live : Bool) (blocks : ℕ) (o : Option Content) → has_disk live blocks o ≡ true → live ≡ false
    → option_map (λ (s : UnitDisk). size_of s) (disk_in o) ≡ None
no_blocks live blocks None h e = refl
no_blocks live blocks (Some (Content.Device d)) h e = cc
no_blocks live blocks (Some (Content.Live d)) h e = cc
no_blocks live blocks (Some (Content.Disk s)) h e = absurd (clash ((sym e) ∙ (and_parts live (size_of s == blocks) h).0))
  where
    clash : false ≡ true → ⊥
    clash c = cc

pub disk_there : (o : Option Content) (s : UnitDisk) → o ≡ Some (Content.Disk s) → disk_in o ≡ Some s
disk_there o s e = ap disk_in e

pub no_disk : (live : Bool) (blocks : ℕ) (o : Option Content) → has_disk live blocks o ≡ true → disk_in o ≡ None → o ≡ None
no_disk live blocks None h e = refl
no_disk live blocks (Some (Content.Device d)) h e = cc
no_disk live blocks (Some (Content.Live d)) h e = cc
no_disk live blocks (Some (Content.Disk s)) h e = cc
