-- The queues, the units and the seats of a device that opens.
use Rattle.std.proofs.Common.{◌≡◌, ◌≤◌, ◌^◌, ℕ, Bool, true, false, None, Some, Option, refl, List, [], ◌∷◌, ◌+◌, ◌<◌, ◌&&◌, length, zero, suc, arith, ap, sym, ◌∙◌, subst, map}
use Rattle.std.specs.Prelude.{replicate, slice_get, nat_le, is_none}
use Rattle.std.specs.List.{list_all}
use Rattle.std.proofs.lemmas.Bool.{and_parts}
use Rattle.std.proofs.lemmas.Bool.Decides.{nat_tests}
use Rattle.std.proofs.lemmas.List.{length-map, length-replicate}
use Rattle.std.proofs.lemmas.Option.{slice_get_within}
use Rattle.ring_core.specs.State.{opening, features_of}
use Rattle.ring_core.specs.declared.layout.Features.{Features}
use Rattle.ring_core.specs.declared.layout.Form.{Form}
use Rattle.ring_core.specs.declared.layout.Form.TheVariants.{Split, Packed}
use Rattle.ring_core.specs.declared.layout.Layout.{Layout}
use Rattle.request_intake.specs.Inventory.{PlainInventory, address_of, inventory_of, is_rising}
use Rattle.request_intake.specs.declared.inventory.UnitSpec.{UnitSpec}
use Rattle.unit_model.specs.Unit.{PlainUnit}
use Rattle.unit_model.specs.Receipts.{unit_address}
use Rattle.scsi_codec.specs.declared.lun.Address.{Address}
use Rattle.device_model.specs.Addressed.{IsAddressed}
use Rattle.device_model.specs.Parts.{Slot}
use Rattle.device_model.specs.World.{PlainQueue, PlainWorld, Everywhere, IsNewQueue, IsNewUnit, Opens}
use Rattle.device_model.proofs.Lists.{nothing, same}
use Rattle.virtqueue.specs.Queue.{opening_ring, opening_queue, placement_of}
use Rattle.phases.specs.Queue.{with_slot}
use Rattle.config.specs.declared.config.Config.{Config}
use Rattle.command_model.specs.Identity.{is_identity}
use Rattle.config.specs.Config.{is_config, is_config_for, has_pages, is_queue, is_unit, has_lun_0, has_own_naa, are_queues, are_units, form_of, size_of}
use Rattle.backed_store.specs.declared.disk.Disk.{Disk}
use Rattle.logical_unit.specs.Disks.{unit_over}
use Rattle.device_opening.specs.Opening.{AreFresh, opening_unit}
use Rattle.device_steps.specs.Opening.{AreOpening, IsOpeningFor, over_disks}
use Rattle.device_steps.specs.Sound.{AreFew, AreFitting, IsSteady, IsWhole}
use Rattle.device_steps.proofs.Setting.{map_get, each_image}
use Rattle.device_steps.proofs.Making.{over_length}
use Rattle.device_steps.specs.Sound as seen

-- there is an item at each index below the length
stands_at : {X : Type 0} (xs : List X) (k : ℕ) → k < length xs → (x : X) × (slice_get xs k ≡ Some x)
stands_at [] k lt = absurd (omega (arith, lt))
stands_at (x ∷ xs) zero lt = (x, refl)
stands_at (x ∷ xs) (suc k) lt = stands_at xs k (omega (arith, lt))

-- what is true of what is made of each item of a list is true everywhere
each_made : {X Y : Type 0} (make : ℕ → X → Y) (P : ℕ → Y → Type 0) (wanted : List X) (made : List Y)
    → length made ≡ length wanted
    → ((k : ℕ) (x : X) → slice_get wanted k ≡ Some x → slice_get made k ≡ Some (make k x))
    → ((k : ℕ) (x : X) → P k (make k x)) → Everywhere P made
each_made make P wanted made count each is k y at =
    let found = stands_at wanted k (omega (arith, slice_get_within made k y at, count)) in
    subst (λ z. P k z) (same (sym (each k found.0 found.1) ∙ at)) (is k found.0)

-- a queue that opens is new
opens_new : (form : Form) (memory number : ℕ) (l : Layout) (features : Features)
    → IsNewQueue number (with_slot Slot.Empty (opening_queue form memory number l features))
unfolding opening
opens_new Split memory number l features =
    record { numbered = refl; accepted = refl; used = refl; whole = refl; slot = refl; notices = refl }
opens_new Packed memory number l features =
    record { numbered = refl; accepted = refl; used = refl; whole = refl; slot = refl; notices = refl }

-- and it was made with the memory that it was given
opens_in : (form : Form) (memory number : ℕ) (l : Layout) (features : Features)
    → (opening_ring form memory number l features).memory ≡ memory
unfolding opening
opens_in Split memory number l features = refl
opens_in Packed memory number l features = refl

-- the rings of a device that opens are for its memory
rings_open : (form : Form) (features : Features) (size : ℕ) (layouts : List Layout) (queues : List PlainQueue)
    → AreOpening form size features layouts queues
    → Everywhere (λ (k : ℕ) (q : PlainQueue). q.ring.memory ≡ size) queues
rings_open form features size layouts queues opening =
    each_made (λ (k : ℕ) (l : Layout). with_slot Slot.Empty (opening_queue form size k l features))
    (λ (k : ℕ) (q : PlainQueue). q.ring.memory ≡ size) layouts queues opening.count opening.each
    (λ k l. opens_in form size k l features)

below : (a b : ℕ) → nat_le a b ≡ true → a ≤ b
below a b h = grind (arith, nat_tests)

-- a device that is taken has at most 18 queues
few_queues : (form : Option Form) (memory : ℕ) (layouts : List Layout) → are_queues form memory layouts ≡ true
    → length layouts ≤ 18
few_queues None memory layouts h = absurd (cc)
few_queues (Some form) memory layouts h =
    below (length layouts) 18
    (and_parts (nat_le 3 (length layouts)) (nat_le (length layouts) 18)
    (and_parts (nat_le 3 (length layouts) && nat_le (length layouts) 18) (list_all (is_queue form memory) layouts) h).0).1

-- a configuration that is taken on a memory of this size has few queues, and 1 to 8 workers; its queues and its units are
-- taken
record Taken (size : ℕ) (c : Config) : Type 0 where
  queues : are_queues (form_of c.features) size c.queues.items ≡ true
  least : 1 ≤ c.workers
  most : c.workers ≤ 8
  units : are_units c.units.items ≡ true

taken : (size : ℕ) (c : Config) → is_config_for size c ≡ true → Taken size c
taken size c is =
    let queues = are_queues (form_of c.features) size c.queues.items in
    let p = and_parts (queues && nat_le 1 c.workers && nat_le c.workers 8 && nat_le 1 c.handoff && nat_le c.handoff 4096)
    (are_units c.units.items) is in
    let q = and_parts (queues && nat_le 1 c.workers && nat_le c.workers 8 && nat_le 1 c.handoff) (nat_le c.handoff 4096) p.0 in
    let r = and_parts (queues && nat_le 1 c.workers && nat_le c.workers 8) (nat_le 1 c.handoff) q.0 in
    let s = and_parts (queues && nat_le 1 c.workers) (nat_le c.workers 8) r.0 in
    let t = and_parts queues (nat_le 1 c.workers) s.0 in
    record { queues = t.0; least = below 1 c.workers t.1; most = below c.workers 8 s.1; units = p.1 }

-- on a memory of its own it is taken on one of the size that it names
pub taken_own : (c : Config) → is_config c ≡ true → is_config_for (size_of c) c ≡ true
taken_own c is = (and_parts (has_pages c) (is_config_for (size_of c) c) is).1

-- each unit has what stands in the inventory at its index
addressed_open : (wanted : List UnitSpec) (inventory : PlainInventory) (units : List PlainUnit) → AreFresh false wanted units
    → inventory ≡ inventory_of wanted
    → Everywhere (IsAddressed inventory) units
addressed_open wanted inventory units fresh is k u at =
    let found = stands_at wanted k (omega (arith, slice_get_within units k u at, fresh.count)) in
    let one : opening_unit (map address_of wanted) false found.0 ≡ u = same (sym (fresh.each k found.0 found.1) ∙ at) in (
      ap (λ (ns : PlainInventory). slice_get ns.addresses k) is
          ∙ map_get address_of k wanted found.0 found.1
          ∙ ap (λ (z : PlainUnit). Some (unit_address z.opening)) one,
      ap (λ (ns : PlainInventory). slice_get ns.profiles k) is
          ∙ map_get (λ (s : UnitSpec). s.profile) k wanted found.0 found.1
          ∙ ap (λ (z : PlainUnit). Some z.opening.profile) one,
    )

-- what holds of each unit holds of it over a disk
over_each : (P : ℕ → PlainUnit → Type 0) (units : List PlainUnit) (disks : List Disk)
    → ((i : ℕ) (u : PlainUnit) (disk : Disk) → P i u → P i (unit_over disk u))
    → ((i : ℕ) (u : PlainUnit) → slice_get units i ≡ Some u → P i u)
    → (i : ℕ) (u : PlainUnit) → slice_get (over_disks units disks) i ≡ Some u → P i u
over_each P [] disks stays is i u at = absurd (nothing at)
over_each P (v ∷ units) [] stays is i u at = is i u at
over_each P (v ∷ units) (disk ∷ disks) stays is zero u at = subst (P zero) (same at) (stays zero v disk (is zero v refl))
over_each P (v ∷ units) (disk ∷ disks) stays is (suc i) u at =
    over_each (λ j. P (suc j)) units disks (λ j. stays (suc j)) (λ j z e. is (suc j) z e) i u at

-- in the device of a configuration that is taken nothing has happened yet
pub opens : (size : ℕ) (c : Config) (w : PlainWorld) → is_config_for size c ≡ true → IsOpeningFor size c w → Opens w
opens size c w is o =
    record {
      queues =
          each_made (λ (k : ℕ) (l : Layout). with_slot Slot.Empty (opening_queue o.form size k l (features_of c.features)))
          IsNewQueue c.queues.items w.queues o.queues.count o.queues.each
          (λ k l. opens_new o.form size k l (features_of c.features));
      units =
          each_made (λ (k : ℕ) (u : UnitSpec). opening_unit (map address_of c.units.items) false u)
          (λ (k : ℕ) (u : PlainUnit). IsNewUnit u) c.units.items w.units o.units.count o.units.each
          (λ k u. record { steps = refl; parked = refl });
      there = o.units.count ∙ (sym (rw length-map refl) ∙ ap (λ (ns : PlainInventory). length ns.addresses) (sym o.inventory));
      addressed = addressed_open c.units.items w.inventory w.units o.units o.inventory;
      seats = o.idle;
      working = subst (λ n. 1 ≤ n) (sym o.workers) (taken size c is).least;
      seated = o.seats ∙ ap (λ n. n + 1) (sym o.workers);
      handed_off = o.handed_off;
      lists = o.lists;
      aside = o.aside;
      woken = o.woken;
      function = o.function;
      buffers = o.buffers;
      missed = o.missed;
      waiting = o.waiting;
    }

-- what a test says of every item it says of each
each_passes : {X : Type 0} (p : X → Bool) (xs : List X) → list_all p xs ≡ true → (k : ℕ) (x : X)
    → slice_get xs k ≡ Some x → p x ≡ true
each_passes p [] h k x at = absurd (nothing at)
each_passes p (y ∷ xs) h zero x at =
    ap p (sym (same at)) ∙ (and_parts (p y) (list_all p xs) h).0
each_passes p (y ∷ xs) h (suc k) x at = each_passes p xs (and_parts (p y) (list_all p xs) h).1 k x at

-- and 3 queues or more
some_queues : (form : Option Form) (memory : ℕ) (layouts : List Layout) → are_queues form memory layouts ≡ true
    → 3 ≤ length layouts
some_queues None memory layouts h = absurd (cc)
some_queues (Some form) memory layouts h =
    below 3 (length layouts)
    (and_parts (nat_le 3 (length layouts)) (nat_le (length layouts) 18)
    (and_parts (nat_le 3 (length layouts) && nat_le (length layouts) 18) (list_all (is_queue form memory) layouts) h).0).0

-- a queue that opens lies where it was placed
opens_at : (form : Form) (memory number : ℕ) (l : Layout) (features : Features)
    → (opening_ring form memory number l features).layout ≡ l
unfolding opening
opens_at Split memory number l features = refl
opens_at Packed memory number l features = refl

-- each of the queues that are taken has at most 1,024 descriptors
layouts_small : (form : Option Form) (memory : ℕ) (layouts : List Layout) → are_queues form memory layouts ≡ true
    → (k : ℕ) (l : Layout) → slice_get layouts k ≡ Some l → l.size ≤ 1024
layouts_small None memory layouts h k l at = absurd (cc)
layouts_small (Some form) memory layouts h k l at =
    let all = (and_parts (nat_le 3 (length layouts) && nat_le (length layouts) 18) (list_all (is_queue form memory) layouts) h).1 in
    let one = each_passes (is_queue form memory) layouts all k l at in
    let two = (and_parts (nat_le 2 l.size && nat_le l.size 1024) (is_none (placement_of form memory l)) one).0 in
    below l.size 1024 (and_parts (nat_le 2 l.size) (nat_le l.size 1024) two).1

sizes_open : (form : Form) (memory : ℕ) (features : Features) (layouts : List Layout) (queues : List PlainQueue)
    → AreOpening form memory features layouts queues
    → ((k : ℕ) (l : Layout) → slice_get layouts k ≡ Some l → l.size ≤ 1024)
    → Everywhere (λ i (n : ℕ). n ≤ 1024) (map seen.size_of queues)
sizes_open form memory features layouts queues is small =
    each_image seen.size_of (λ n. n ≤ 1024) queues (λ k q at.
    let found = stands_at layouts k (omega (arith, slice_get_within queues k q at, is.count)) in
    subst (λ (z : PlainQueue). seen.size_of z ≤ 1024) (same (sym (is.each k found.0 found.1) ∙ at))
    (subst (λ (l : Layout). l.size ≤ 1024) (sym (opens_at form memory k found.0 features)) (small k found.0 found.1)))

-- each of the units that are taken has a LUN up to 16,383, and they are at most 64
units_named : (units : List UnitSpec) → are_units units ≡ true
    → (length units ≤ 64) × ((k : ℕ) (u : UnitSpec) → slice_get units k ≡ Some u → u.lun ≤ 16383)
units_named units h =
    let own = (and_parts (nat_le 1 (length units) && nat_le (length units) 64 && list_all is_unit units
    && is_rising (map address_of units) && list_all (λ u. has_lun_0 units u.target) units)
    (list_all (has_own_naa units) units) h).0 in
    let a = (and_parts (nat_le 1 (length units) && nat_le (length units) 64 && list_all is_unit units
    && is_rising (map address_of units)) (list_all (λ u. has_lun_0 units u.target) units) own).0 in
    let b = (and_parts (nat_le 1 (length units) && nat_le (length units) 64 && list_all is_unit units)
    (is_rising (map address_of units)) a).0 in
    let c = and_parts (nat_le 1 (length units) && nat_le (length units) 64) (list_all is_unit units) b in (
      below (length units) 64 (and_parts (nat_le 1 (length units)) (nat_le (length units) 64) c.0).1,
      λ k u at.
          let one = each_passes is_unit units c.1 k u at in
          let sized = (and_parts (nat_le u.lun 16383 && nat_le 1 u.blocks && nat_le u.blocks (2 ^ 40))
          (is_identity u.identity) one).0 in
          let two = (and_parts (nat_le u.lun 16383 && nat_le 1 u.blocks) (nat_le u.blocks (2 ^ 40)) sized).0 in
          below u.lun 16383 (and_parts (nat_le u.lun 16383) (nat_le 1 u.blocks) two).0,
    )

luns_open : (wanted : List UnitSpec) (units : List PlainUnit) → AreFresh false wanted units
    → ((k : ℕ) (u : UnitSpec) → slice_get wanted k ≡ Some u → u.lun ≤ 16383)
    → Everywhere (λ k (n : ℕ). n ≤ 16383) (map seen.lun_of units)
luns_open wanted units is named =
    each_image seen.lun_of (λ n. n ≤ 16383) units (λ k u at.
    let found = stands_at wanted k (omega (arith, slice_get_within units k u at, is.count)) in
    subst (λ (z : PlainUnit). seen.lun_of z ≤ 16383) (same (sym (is.each k found.0 found.1) ∙ at))
    (named k found.0 found.1))

-- and so it is whole
opens_whole : (size : ℕ) (c : Config) (w : PlainWorld) → is_config_for size c ≡ true → IsOpeningFor size c w → IsWhole w
opens_whole size c w is o =
    let t = taken size c is in
    let units = units_named c.units.items t.units in
    record {
      reached = record {
        old = w;
        trace = [];
        reached = record { opens = opens size c w is o; runs = refl };
      };
      few = record {
        several = omega (arith, some_queues (form_of c.features) size c.queues.items t.queues, o.queues.count);
        queues = omega (arith, few_queues (form_of c.features) size c.queues.items t.queues, o.queues.count);
        seats = omega (arith, t.most, o.seats);
        units = omega (arith, units.0, o.units.count);
        sizes = sizes_open o.form size (features_of c.features) c.queues.items w.queues o.queues
            (layouts_small (form_of c.features) size c.queues.items t.queues);
        luns = luns_open c.units.items w.units o.units units.1;
      };
    }

-- its rings are for its memory
fits_open : (size : ℕ) (c : Config) (w : PlainWorld) → length w.memory ≡ size → IsOpeningFor size c w → AreFitting w
fits_open size c w long o =
    subst (λ (n : ℕ). Everywhere (λ (k : ℕ) (q : PlainQueue). q.ring.memory ≡ n) w.queues) (sym long)
    (rings_open o.form (features_of c.features) size c.queues.items w.queues o.queues)

pub opens_steady : (size : ℕ) (c : Config) (w : PlainWorld) → length w.memory ≡ size → is_config_for size c ≡ true
    → IsOpeningFor size c w → IsSteady w
opens_steady size c w long is o = record { whole = opens_whole size c w is o; fits = fits_open size c w long o }

-- the memory of a device's own has the size that the configuration names
pub long_own : (c : Config) (m : List ℕ) → m ≡ replicate (size_of c) 0 → length m ≡ size_of c
long_own c m is = ap (λ (z : List ℕ). length z) is ∙ length-replicate (size_of c) 0

-- units of which no step was taken have none over their disks
new_over : (units : List PlainUnit) (disks : List Disk)
    → ((i : ℕ) (u : PlainUnit) → slice_get units i ≡ Some u → IsNewUnit u)
    → (i : ℕ) (u : PlainUnit) → slice_get (over_disks units disks) i ≡ Some u → IsNewUnit u
new_over [] disks new i u at = absurd (nothing at)
new_over (v ∷ units) [] new i u at = new i u at
new_over (v ∷ units) (disk ∷ disks) new zero u at =
    let here = new zero v refl in
    subst IsNewUnit (same at) (record { steps = here.steps; parked = here.parked })
new_over (v ∷ units) (disk ∷ disks) new (suc i) u at = new_over units disks (λ j z e. new (suc j) z e) i u at

-- units have the same LUNs over their disks
over_luns : (units : List PlainUnit) (disks : List Disk)
    → map seen.lun_of (over_disks units disks) ≡ map seen.lun_of units
over_luns [] disks = refl
over_luns (v ∷ units) [] = refl
over_luns (v ∷ units) (disk ∷ disks) = ap (λ (ns : List ℕ). v.opening.lun ∷ ns) (over_luns units disks)

-- A device that opens, with these units, opens over the disks:
module _ (size : ℕ) (c : Config) (disks : List Disk) (bare w : PlainWorld) (is : is_config_for size c ≡ true)
    (o : IsOpeningFor size c bare) (over : w ≡ record bare { units = over_disks bare.units disks }) where
  -- nothing has happened yet
  pub opens_over : Opens w
  opens_over =
      let b = opens size c bare is o in
      subst Opens (sym over) (record {
        queues = b.queues;
        units = new_over bare.units disks b.units;
        there = over_length bare.units disks ∙ b.there;
        addressed = over_each (IsAddressed bare.inventory) bare.units disks (λ i u disk h. h) b.addressed;
        seats = b.seats;
        working = b.working;
        seated = b.seated;
        handed_off = b.handed_off;
        lists = b.lists;
        aside = b.aside;
        woken = b.woken;
        function = b.function;
        buffers = b.buffers;
        missed = b.missed;
        waiting = b.waiting;
      })

  -- and so it is whole
  opens_over_whole : IsWhole w
  opens_over_whole =
      let few = (opens_whole size c bare is o).few in
      record {
        reached = record {
          old = w;
          trace = [];
          reached = record { opens = opens_over; runs = refl };
        };
        few = subst AreFew (sym over) (record {
          several = few.several;
          queues = few.queues;
          seats = few.seats;
          units = subst (λ (n : ℕ). n ≤ 64) (sym (over_length bare.units disks)) few.units;
          sizes = few.sizes;
          luns = subst (λ (ns : List ℕ). Everywhere (λ k (n : ℕ). n ≤ 16383) ns) (sym (over_luns bare.units disks)) few.luns;
        });
      }

  pub opens_over_steady : length bare.memory ≡ size → IsSteady w
  opens_over_steady long =
      record { whole = opens_over_whole; fits = subst AreFitting (sym over) (fits_open size c bare long o) }

-- the steps of each unit that opens are none
pub no_steps : (units : List PlainUnit) → Everywhere (λ (i : ℕ) (u : PlainUnit). IsNewUnit u) units
    → Everywhere (λ (k : ℕ) (u : PlainUnit). u.steps ≡ []) units
no_steps units new i u at = (new i u at).steps
