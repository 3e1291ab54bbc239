-- The parts of a device as they are made one after another.
use Rattle.std.proofs.Common.{◌≡◌, ℕ, refl, List, [], ◌∷◌, ◌++◌, ◌+◌, ◌*◌, Some, length, zero, suc, arith, ap, sym, ◌∙◌, subst, map}
use Rattle.std.specs.Prelude.{slice_get, slice_set}
use Rattle.std.proofs.lemmas.List.{length-map}
use Rattle.std.proofs.lemmas.Option.{slice_get_within}
use Rattle.ring_core.specs.declared.layout.Features.{Features}
use Rattle.ring_core.specs.declared.layout.Form.{Form}
use Rattle.ring_core.specs.declared.layout.Layout.{Layout}
use Rattle.virtqueue.specs.Queue.{BareQueue}
use Rattle.phases.specs.Queue.{with_slot}
use Rattle.unit_model.specs.Unit.{PlainUnit}
use Rattle.device_model.specs.Parts.{Slot}
use Rattle.device_model.specs.World.{PlainQueue, Seat, Everywhere, IsNewSeat}
use Rattle.device_model.proofs.Lists.{nothing, same}
use Rattle.backed_store.specs.declared.disk.Disk.{Disk}
use Rattle.logical_unit.specs.Disks.{unit_over, IsDiskOf}
use Rattle.device_opening.specs.Inner.Opening.{AreKept}
use Rattle.device_steps.specs.Opening.{AreOpening, AreDisksOf, over_disks}
use Rattle.device_steps.specs.Inner.Opening.{AreSeats}
use Rattle.device_steps.specs.Kept.{KeptSeat, seat_of}
use Rattle.device_steps.specs.Inner.Kept.{HasLists}
use Rattle.device_steps.proofs.Setting.{each_image}

-- what is true of each item is true of each of one more
pub everywhere_more : {X : Type 0} (P : X → Type 0) (xs : List X) (y : X)
    → ((i : ℕ) (x : X) → slice_get xs i ≡ Some x → P x) → P y
    → (i : ℕ) (x : X) → slice_get (xs ++ y ∷ []) i ≡ Some x → P x
everywhere_more P [] y all h zero x e = subst P (same e) h
everywhere_more P [] y all h (suc i) x e = absurd (omega (arith, slice_get_within [] i x e))
everywhere_more P (z ∷ xs) y all h zero x e = all zero x e
everywhere_more P (z ∷ xs) y all h (suc i) x e = everywhere_more P xs y (λ j v at. all (suc j) v at) h i x e

-- the queues of a device that opens, each with an empty slot
pub bays_open : (kept : BareQueue → PlainQueue → Type 0)
    → ((q : BareQueue) (b : PlainQueue) → kept q b → b ≡ with_slot Slot.Empty q)
    → (form : Form) (memory : ℕ) (features : Features) (layouts : List Layout) (bays : List PlainQueue)
    → AreKept kept form memory features layouts bays → AreOpening form memory features layouts bays
bays_open kept empty form memory features layouts bays are =
    record {
      count = are.count;
      each = λ k l at.
          let here = are.each k l at in
          here.1 ∙ ap (λ (b : PlainQueue). Some b) (empty _ here.0 here.2);
    }

-- the lists of a device that opens
pub lists_open : (units : List PlainUnit) (count : ℕ) (seats : List KeptSeat)
    → AreSeats count (64 * length units + 64) seats → HasLists units seats (64 * length units + 64) 1025
lists_open units count seats is =
    record { limits = λ k s at. ap (λ (z : KeptSeat). z.limit) (is.each k s at); aside = refl; port = refl }

-- seats that open have nothing
pub seats_idle : (count limit : ℕ) (seats : List KeptSeat) → AreSeats count limit seats
    → Everywhere (λ (k : ℕ) (s : Seat). IsNewSeat s) (map seat_of seats)
seats_idle count limit seats is =
    each_image seat_of IsNewSeat seats (λ k s at. record {
      hand = ap (λ (z : KeptSeat). z.hand) (is.each k s at);
      out = ap (λ (z : KeptSeat). z.jobs) (is.each k s at);
    })

-- they are as many as were asked for
pub seats_many : (count limit : ℕ) (seats : List KeptSeat) → AreSeats count limit seats
    → length (map seat_of seats) ≡ count
seats_many count limit seats is = rw length-map is.many

-- units over disks are as many
pub over_length : (units : List PlainUnit) (disks : List Disk) → length (over_disks units disks) ≡ length units
over_length [] disks = refl
over_length (v ∷ units) [] = refl
over_length (v ∷ units) (disk ∷ disks) = ap (λ (n : ℕ). suc n) (over_length units disks)

-- units without disks are as they were
pub over_none : (units : List PlainUnit) → over_disks units [] ≡ units
over_none [] = refl
over_none (v ∷ units) = refl

-- the last disk may be given first
pub over_last : (units : List PlainUnit) (disks : List Disk) (disk : Disk) (u v : PlainUnit)
    → slice_get units (length disks) ≡ Some u → v ≡ unit_over disk u
    → over_disks (slice_set units (length disks) v) disks ≡ over_disks units (disks ++ disk ∷ [])
over_last [] disks disk u v at is = absurd (nothing at)
over_last (z ∷ units) [] disk u v at is =
    over_none (v ∷ units)
    ∙ ap (λ (x : PlainUnit). x ∷ units) (is ∙ ap (λ (x : PlainUnit). unit_over disk x) (sym (same at)))
    ∙ ap (λ (xs : List PlainUnit). unit_over disk z ∷ xs) (sym (over_none units))
over_last (z ∷ units) (first ∷ disks) disk u v at is =
    ap (λ (xs : List PlainUnit). unit_over first z ∷ xs) (over_last units disks disk u v at is)

-- the disks of one more unit
pub disks_more : (units : List PlainUnit) (disks : List Disk) (u : PlainUnit) (disk : Disk) → AreDisksOf units disks
    → IsDiskOf u disk → AreDisksOf (units ++ u ∷ []) (disks ++ disk ∷ [])
disks_more [] [] u disk are is = (is, tt)
disks_more (v ∷ units) (d ∷ disks) u disk are is = (are.0, disks_more units disks u disk are.1 is)
disks_more [] (d ∷ disks) u disk are is = absurd are
disks_more (v ∷ units) [] u disk are is = absurd are

-- a list of no length has nothing
pub nothing_in : {X : Type 0} (xs : List X) → length xs ≡ 0 → xs ≡ []
nothing_in [] none = refl
nothing_in (x ∷ xs) none = absurd (omega (arith, none))

-- the lists are those of as many units
pub lists_over : (units over : List PlainUnit) (seats : List KeptSeat) (places limit : ℕ) → length over ≡ length units
    → HasLists units seats places limit → HasLists over seats places limit
lists_over units over seats places limit many lists =
    record {
      limits = λ k s at. lists.limits k s at ∙ ap (λ (n : ℕ). 64 * n + 64) (sym many);
      aside = lists.aside ∙ ap (λ (n : ℕ). 64 * n + 64) (sym many);
      port = lists.port;
    }
