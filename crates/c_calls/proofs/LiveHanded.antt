-- Devices on live memory that are made, and that end.
use Rattle.std.proofs.Common.{◌≡◌, ℕ, List, Option, Some, None, sym, subst}
use Rattle.backed_store.specs.declared.disk.Disk.{Disk as UnitDisk}
use Rattle.c_calls.specs.Live.{CreatesLive, CreatesLiveOf}
use Rattle.c_calls.specs.LiveDisks.{CreatesLiveOver, CreatesLiveOverOf, ClosesLive, ClosesLiveInto}
use Rattle.c_calls.specs.declared.answer.Answer.{Answer}
use Rattle.c_calls.specs.declared.live_served.LiveServed.{LiveServed}
use Rattle.c_calls.specs.declared.live_wanted.WantedRing.{WantedRing}
use Rattle.c_calls.specs.declared.wanted.Fault.{Fault}
use Rattle.c_calls.specs.declared.wanted.WantedUnit.{WantedUnit}

-- where there is no device, and where there is one
pub created : (host_map features : ℕ) (rings : List WantedRing) (units : List WantedUnit) (old told : Fault) (o : Option LiveServed)
    (a : Answer) (after : Option LiveServed) → o ≡ None → CreatesLiveOf host_map features rings units old a told after
    → CreatesLive host_map features rings units old told o a after
created host_map features rings units old told o a after none is =
    subst (λ (x : Option LiveServed). CreatesLive host_map features rings units old told x a after) (sym none) is

pub created_over : (host_map features : ℕ) (rings : List WantedRing) (units : List WantedUnit) (old told : Fault) (o : Option LiveServed)
    (disks : List (Option UnitDisk)) (a : Answer) (after : Option LiveServed) (disks' : List (Option UnitDisk)) → o ≡ None
    → CreatesLiveOverOf host_map features rings units disks old a told after disks'
    → CreatesLiveOver host_map features rings units old told o disks a after disks'
created_over host_map features rings units old told o disks a after disks' none is =
    subst (λ (x : Option LiveServed). CreatesLiveOver host_map features rings units old told x disks a after disks') (sym none) is

pub closed : (o : Option LiveServed) (d : LiveServed) (disks : List (Option UnitDisk)) (a : Answer)
    (after : Option LiveServed) (disks' : List (Option UnitDisk)) → o ≡ Some d → ClosesLiveInto d disks a after disks'
    → ClosesLive o disks a after disks'
closed o d disks a after disks' there is = subst (λ (x : Option LiveServed). ClosesLive x disks a after disks') (sym there) is
