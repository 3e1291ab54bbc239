-- Which caches the units of a configuration may have.
use Rattle.std.proofs.Common.{◌≡◌, ◌≤◌, ◌^◌, ◌&&◌, ℕ, Bool, true, zero, suc, length, List, [], ◌∷◌, Option, Some, None, map, sym, ◌∙◌, ap, arith}
use Rattle.std.specs.Prelude.{slice_get, nat_le, is_some}
use Rattle.std.specs.List.{list_all}
use Rattle.std.proofs.lemmas.Bool.{and_parts}
use Rattle.std.proofs.lemmas.Bool.Decides.{nat_tests}
use Rattle.std.proofs.lemmas.Option.{slice_get_within}
use Rattle.backed_store.specs.declared.disk.Disk.{Disk}
use Rattle.request_intake.specs.Inventory.{address_of, is_rising}
use Rattle.request_intake.specs.declared.inventory.UnitSpec.{UnitSpec}
use Rattle.config.specs.Config.{is_config, is_config_for, has_pages, is_unit, has_lun_0, has_own_naa, are_queues, are_units, form_of, size_of}
use Rattle.config.specs.declared.config.Config.{Config}
use Rattle.config.specs.declared.config.StartFault.{StartFault}
use Rattle.config.specs.declared.config.StartFault.TheVariants.{BadConfig, NoMemory}
use Rattle.device_model.proofs.Lists.{nothing, same}
use Rattle.device_model.proofs.Rooms.{below_found}
use Rattle.device_steps.specs.Opening.{AreDisksFor, OverRefusedAs}
use Rattle.stored_world.specs.Inner.Opening.{AreCachesFor, StoredRefusedAs}
use Rattle.stored_world.specs.declared.hosted.HostedDisk.{HostedDisk}
use Rattle.stored_world.proofs.Fresh.{AreMade}

below : (a b : ℕ) → nat_le a b ≡ true → a ≤ b
below a b h = grind (arith, nat_tests)

-- what a test says of every item it says of each
each_passes : {X : Type 0} (p : X → Bool) (xs : List X) → list_all p xs ≡ true → (k : ℕ) (x : X) → slice_get xs k ≡ Some x → p x ≡ true
each_passes p [] h k x at = absurd (nothing at)
each_passes p (y ∷ xs) h zero x at = ap p (sym (same at)) ∙ (and_parts (p y) (list_all p xs) h).0
each_passes p (y ∷ xs) h (suc k) x at = each_passes p xs (and_parts (p y) (list_all p xs) h).1 k x at

units_pass : (us : List UnitSpec) → are_units us ≡ true → list_all is_unit us ≡ true
units_pass us is =
    let few = nat_le 1 (length us) && nat_le (length us) 64 in
    let rising = is_rising (map address_of us) in
    let first = list_all (λ (u : UnitSpec). has_lun_0 us u.target) us in
    let p = and_parts (few && list_all is_unit us && rising && first) (list_all (has_own_naa us) us) is in
    let q = and_parts (few && list_all is_unit us && rising) first p.0 in
    (and_parts few (list_all is_unit us) (and_parts (few && list_all is_unit us) rising q.0).0).1

-- a unit of a configuration that is valid has at most 2^40 blocks
pub few_blocks : (c : Config) (k : ℕ) (u : UnitSpec) → is_config c ≡ true → slice_get c.units.items k ≡ Some u → u.blocks ≤ 2 ^ 40
few_blocks c k u is at =
    let taken = (and_parts (has_pages c) (is_config_for (size_of c) c) is).1 in
    let rest = are_queues (form_of c.features) (size_of c) c.queues.items
    && nat_le 1 c.workers && nat_le c.workers 8 && nat_le 1 c.handoff && nat_le c.handoff 4096 in
    let units = (and_parts rest (are_units c.units.items) taken).1 in
    let one = each_passes is_unit c.units.items (units_pass c.units.items units) k u at in
    let sized = (and_parts (nat_le u.lun 16383 && nat_le 1 u.blocks && nat_le u.blocks (2 ^ 40)) _ one).0 in
    below u.blocks (2 ^ 40) (and_parts (nat_le u.lun 16383 && nat_le 1 u.blocks) (nat_le u.blocks (2 ^ 40)) sized).1

-- there is a cache for each unit, since a disk was made for each
pub caches_for : (wanted : List UnitSpec) (caches : List (Option ℕ)) (ds : List Disk) (hs : List (Option HostedDisk))
    → AreMade wanted caches ds hs → AreDisksFor wanted ds → AreCachesFor wanted caches
caches_for wanted caches ds hs made may = record { count = made.asked }

-- and the other way round
pub disks_for : (wanted : List UnitSpec) (caches : List (Option ℕ)) (ds : List Disk) (hs : List (Option HostedDisk))
    → AreMade wanted caches ds hs → AreCachesFor wanted caches → AreDisksFor wanted ds
disks_for wanted caches ds hs made may =
    record {
      count = made.count;
      each = λ k u d at there.
          let within = slice_get_within wanted k u at in
          let cache = below_found caches k (omega (arith, within, made.asked)) in
          let stored = below_found hs k (omega (arith, within, made.storages)) in
          record { size = (made.are k u cache.0 d stored.0 at cache.1 there stored.1).size };
    }

-- where the disks that were made are refused, so are the caches
pub refused : (c : Config) (caches : List (Option ℕ)) (ds : List Disk) (hs : List (Option HostedDisk)) (fault : StartFault)
    → AreMade c.units.items caches ds hs → OverRefusedAs c ds fault → StoredRefusedAs c caches fault
refused c caches ds hs BadConfig made is = λ valid may. is valid (disks_for c.units.items caches ds hs made may)
refused c caches ds hs NoMemory made is = tt
