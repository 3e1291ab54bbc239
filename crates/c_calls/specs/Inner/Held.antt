-- Rests on `specs/Held.antt`; no promise rests on it.
use Rattle.std.specs.Prelude.{◌≡◌, ◌⊎◌}
use Rattle.std.specs.Coded.{Coded, code_by, coded⊎}
use Rattle.backed_store.specs.declared.disk.Disk.{Disk as UnitDisk}
use Rattle.backed_store.specs.contracts.disk.Disk as unit_disk
use Rattle.c_calls.specs.declared.served.Served.{Served}
use Rattle.c_calls.specs.contracts.served.Served as served
use Rattle.c_calls.specs.declared.live_served.LiveServed.{LiveServed}
use Rattle.c_calls.specs.contracts.live_served.LiveServed as live
use Rattle.c_calls.specs.Held.{Content}
use mathlib.Core.Path.{refl}
use mathlib.Core.Logic.{inl, inr}

-- how the logic stores it
abbrev pub to_sum : Content → Served ⊎ (UnitDisk ⊎ LiveServed)
to_sum (Content.Device d) = inl d
to_sum (Content.Disk s) = inr (inl s)
to_sum (Content.Live d) = inr (inr d)

abbrev pub of_sum : Served ⊎ (UnitDisk ⊎ LiveServed) → Content
of_sum (inl d) = Content.Device d
of_sum (inr (inl s)) = Content.Disk s
of_sum (inr (inr d)) = Content.Live d

pub of_sum-to_sum : (c : Content) → of_sum (to_sum c) ≡ c
of_sum-to_sum (Content.Device d) = refl
of_sum-to_sum (Content.Disk s) = refl
of_sum-to_sum (Content.Live d) = refl

abbrev pub content_code : Coded Content
content_code =
    code_by (Served ⊎ (UnitDisk ⊎ LiveServed))
    (coded⊎ served.the_row.coded (coded⊎ unit_disk.the_row.coded live.the_row.coded)) to_sum of_sum of_sum-to_sum
