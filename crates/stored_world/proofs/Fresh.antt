-- The disks of a device that opens, and their storages.
use Rattle.std.proofs.Common.{◌≡◌, ◌+◌, ℕ, Bool, zero, suc, eqb, cond, nat_lt, length, List, [], ◌∷◌, ◌++◌, if◌then◌else◌, true, false, Option, Some, None, refl, sym, ◌∙◌, ap, subst, arith}
use Rattle.std.specs.Prelude.{slice_get, option_map, is_some}
use Rattle.std.proofs.lemmas.Bool.{eqb-true}
use Rattle.std.proofs.lemmas.Option.{slice_get_within}
use Rattle.block_store.specs.Blocks.{zero_block}
use Rattle.block_store.specs.Kept as pages
use Rattle.block_store.specs.Pages.{blocks_in}
use Rattle.block_store.specs.Storage.{Ledger, Dealing, and_then, cut}
use Rattle.block_store.specs.declared.paged.PagedStore.{PagedStore}
use Rattle.block_store.proofs.Paging.{blocks_in-none}
use Rattle.backed_store.specs.Disks.{size_of, storage_of}
use Rattle.backed_store.specs.Stores.{contents, ledger_of}
use Rattle.backed_store.specs.declared.disk.Disk.{Disk}
use Rattle.backed_store.specs.declared.disk.Disk.TheVariants.{Whole, Backed}
use Rattle.backed_store.specs.declared.backed_disk.BackedDisk.{BackedDisk}
use Rattle.host_storage.specs.Inner.Storage.{given_blocks, kept_blocks}
use Rattle.request_intake.specs.declared.inventory.UnitSpec.{UnitSpec}
use Rattle.unit_model.specs.Steps.{Step}
use Rattle.unit_model.specs.Contents.{capacity_of}
use Rattle.unit_model.specs.Unit.{PlainUnit}
use Rattle.logical_unit.specs.Disks.{unit_over, opening_over}
use Rattle.unit_log.proofs.Places.{push_get}
use Rattle.device_model.proofs.Lists.{nothing, same}
use Rattle.device_model.proofs.Rooms.{below_found}
use Rattle.device_steps.specs.Opening.{over_disks}
use Rattle.stored_world.specs.Inner.Opening.{IsFresh, IsZeroDisk, AddsDisk}
use Rattle.stored_world.specs.Inner.Stored.{IsStorageBy, IsHosted, AreHosted}
use Rattle.stored_world.specs.declared.hosted.HostedDisk.{HostedDisk}

-- at each index where there is a unit, a cache, a disk and maybe a storage, these are as they open
abbrev pub AreZeroDisks : List UnitSpec → List (Option ℕ) → List Disk → List (Option HostedDisk) → Type 0
AreZeroDisks wanted caches ds hs =
    (k : ℕ) (u : UnitSpec) (cache : Option ℕ) (d : Disk) (h : Option HostedDisk) → slice_get wanted k ≡ Some u
    → slice_get caches k ≡ Some cache → slice_get ds k ≡ Some d → slice_get hs k ≡ Some h → IsZeroDisk u.blocks cache d h

-- for each unit they are there
pub record AreMade (wanted : List UnitSpec) (caches : List (Option ℕ)) (ds : List Disk) (hs : List (Option HostedDisk)) : Type 0 where
  pub asked : length caches ≡ length wanted
  pub count : length ds ≡ length wanted
  pub storages : length hs ≡ length wanted
  pub are : AreZeroDisks wanted caches ds hs

zero_as : {u v : UnitSpec} {c e : Option ℕ} {d f : Disk} {h g : Option HostedDisk} → u ≡ v → c ≡ e → d ≡ f → h ≡ g
    → IsZeroDisk u.blocks c d h → IsZeroDisk v.blocks e f g
zero_as {u} {v} {c} {e} {d} {f} {h} {g} units caches disks storages is =
    subst (λ (x : UnitSpec). IsZeroDisk x.blocks e f g) units
    (subst (λ x. IsZeroDisk u.blocks x f g) caches
    (subst (λ x. IsZeroDisk u.blocks c x g) disks
    (subst (λ x. IsZeroDisk u.blocks c d x) storages is)))

-- with one more, for the next unit
pub zero_more : (wanted : List UnitSpec) (caches : List (Option ℕ)) (ds ds' : List Disk) (hs hs' : List (Option HostedDisk))
    (n : ℕ) (u : UnitSpec) (cache : Option ℕ) → slice_get wanted n ≡ Some u → slice_get caches n ≡ Some cache → length ds ≡ n
    → length hs ≡ n → AreZeroDisks wanted caches ds hs → AddsDisk u.blocks cache ds hs ds' hs' → AreZeroDisks wanted caches ds' hs'
zero_more wanted caches ds ds' hs hs' n u cache has asks count storages are adds k v e d h unit asked there kept =
    placed (eqb n k) refl
    (ap (λ m. cond (eqb m k) (Some adds.disk) (slice_get ds k)) (sym count)
    ∙ sym (push_get ds adds.disk k) ∙ ap (λ xs. slice_get xs k) (sym adds.disks) ∙ there)
    (ap (λ m. cond (eqb m k) (Some adds.hosted) (slice_get hs k)) (sym storages)
    ∙ sym (push_get hs adds.hosted k) ∙ ap (λ xs. slice_get xs k) (sym adds.storages) ∙ kept)
  where
    placed : (b : Bool) → eqb n k ≡ b → cond b (Some adds.disk) (slice_get ds k) ≡ Some d
        → cond b (Some adds.hosted) (slice_get hs k) ≡ Some h → IsZeroDisk v.blocks e d h
    placed true is disk storage =
        zero_as (same (sym has ∙ ap (slice_get wanted) (eqb-true n k is) ∙ unit))
        (same (sym asks ∙ ap (slice_get caches) (eqb-true n k is) ∙ asked)) (same disk) (same storage) adds.is
    placed false is disk storage = are k v e d h unit asked disk storage

cut_zeros : (n b : ℕ) → cut n (λ i. blocks_in [] i) b ≡ zero_block
cut_zeros n b =
    elim (nat_lt b n) as (λ t. (if t then blocks_in [] b else zero_block) ≡ zero_block) [ true ↦ blocks_in-none b | false ↦ refl ]

stored_fresh : (o : Option Ledger) (n : ℕ) (h : HostedDisk) → ((l : Ledger) → o ≡ Some l → l ≡ record { content = []; dealings = [] })
    → ((b : ℕ) → given_blocks h.storage b ≡ zero_block) → ((b : ℕ) → kept_blocks h.storage b ≡ zero_block)
    → (l : Ledger) → option_map (and_then (Dealing.Cut n)) o ≡ Some l → IsStorageBy l h.storage
stored_fresh None n h undealt given kept l at = absurd (nothing at)
stored_fresh (Some k) n h undealt given kept l at =
    subst (λ x. IsStorageBy x h.storage) (ap (and_then (Dealing.Cut n)) (sym (undealt k refl)) ∙ same at) (zeros n h given kept)
  where
    zeros : (n : ℕ) (h : HostedDisk) → ((b : ℕ) → given_blocks h.storage b ≡ zero_block) → ((b : ℕ) → kept_blocks h.storage b ≡ zero_block)
        → IsStorageBy (and_then (Dealing.Cut n) (record { content = []; dealings = [] })) h.storage
    zeros n h given kept = record { given = λ b. given b ∙ sym (cut_zeros n b); kept = λ b. kept b ∙ sym (cut_zeros n b) }

capacity_at : (d : Disk) (u : PlainUnit) (steps : List Step) → steps ≡ [] → size_of d ≡ capacity_of (opening_over d u.opening) steps
capacity_at d u steps none = ap (λ (s : List Step). capacity_of (opening_over d u.opening) s) (sym none)

hosted_fresh : (d : Disk) (u : PlainUnit) (h : HostedDisk) → u.steps ≡ [] → IsFresh d h → IsHosted (unit_over d u) h
hosted_fresh d u h none is =
    record {
      storage = stored_fresh (storage_of d) (size_of d) h is.undealt is.given is.kept;
      capacity = is.capacity ∙ capacity_at d u u.steps none;
    }

-- the unit at an index where there is a disk is one over that
unit_at : (us : List PlainUnit) (ds : List Disk) (k : ℕ) (v : PlainUnit) (d : Disk) → slice_get (over_disks us ds) k ≡ Some v
    → slice_get ds k ≡ Some d → (u : PlainUnit) × (unit_over d u ≡ v)
unit_at [] ds k v d at has = absurd (nothing at)
unit_at (u ∷ us) [] k v d at has = absurd (nothing has)
unit_at (u ∷ us) (e ∷ ds) zero v d at has = (u, ap (λ x. unit_over x u) (sym (same has)) ∙ same at)
unit_at (u ∷ us) (e ∷ ds) (suc k) v d at has = unit_at us ds k v d at has

-- each unit has its disk, whose storage is as it has to be
pub hosted_over : (wanted : List UnitSpec) (caches : List (Option ℕ)) (us : List PlainUnit) (ds : List Disk) (hs : List (Option HostedDisk))
    → AreMade wanted caches ds hs → ((k : ℕ) (v : PlainUnit) → slice_get (over_disks us ds) k ≡ Some v → v.steps ≡ [])
    → AreHosted (over_disks us ds) hs
hosted_over wanted caches us ds hs made new k v h at there =
    let within = slice_get_within hs k (Some h) there in
    let unit = below_found wanted k (omega (arith, within, made.storages)) in
    let cache = below_found caches k (omega (arith, within, made.storages, made.asked)) in
    let disk = below_found ds k (omega (arith, within, made.storages, made.count)) in
    let bare = unit_at us ds k v disk.0 at disk.1 in
    let is = made.are k unit.0 cache.0 disk.0 (Some h) unit.1 cache.1 disk.1 there in
    subst (λ x. IsHosted x h) bare.1 (hosted_fresh disk.0 bare.0 h (ap (λ (x : PlainUnit). x.steps) bare.1 ∙ new k v at) is.fresh)

-- a disk in memory, of zeros
pub zero_whole : (s : PagedStore) (blocks : ℕ) (cache : Option ℕ) → cache ≡ None → s.capacity ≡ blocks
    → ((b : ℕ) → pages.blocks_of s.pages b ≡ zero_block) → IsZeroDisk blocks cache (Whole s) None
zero_whole s blocks cache none size zeros =
    record {
      size = size;
      zeros = zeros;
      backed = ap is_some (sym none);
      stored = ap is_some (sym none);
      fresh = tt;
    }

-- one on a storage
pub zero_backed : (d : BackedDisk) (h : HostedDisk) (blocks budget : ℕ) (cache : Option ℕ) (content : List ℕ) → cache ≡ Some budget
    → content ≡ [] → d.store.capacity ≡ blocks → ((b : ℕ) → contents d.store b ≡ blocks_in content b)
    → ledger_of d.store ≡ record { content = content; dealings = [] } → ((b : ℕ) → given_blocks h.storage b ≡ zero_block)
    → ((b : ℕ) → kept_blocks h.storage b ≡ zero_block) → h.capacity ≡ blocks → IsZeroDisk blocks cache (Backed d) (Some h)
zero_backed d h blocks budget cache content some none size bytes ledger given kept capacity =
    record {
      size = size;
      zeros = λ b. bytes b ∙ ap (λ xs. blocks_in xs b) none ∙ blocks_in-none b;
      backed = ap is_some (sym some);
      stored = ap is_some (sym some);
      fresh =
          record {
            undealt = λ l at. sym (same at) ∙ ledger ∙ ap (λ xs. record { content = xs; dealings = [] }) none;
            given = given;
            kept = kept;
            capacity = capacity ∙ sym size;
          };
    }

-- how many a list has with one more
pub one_more : {X : Type 0} {ys : List X} (xs : List X) (x : X) (n : ℕ) → ys ≡ xs ++ x ∷ [] → length xs ≡ n → length ys ≡ n + 1
one_more xs x n more count = ap length more ∙ grow xs x ∙ ap (λ m. m + 1) count
  where
    grow : {X : Type 0} (zs : List X) (z : X) → length (zs ++ z ∷ []) ≡ length zs + 1
    grow [] z = refl
    grow (y ∷ zs) z = grind (arith, grow zs z)
