-- Disks that are handed to a device, and back.
use Rattle.std.proofs.Common.{◌≡◌, ℕ, ◌<◌, zero, suc, Bool, true, false, ◌&&◌, ◌||◌, List, [], ◌∷◌, length, map, take, Option, Some, None, refl, sym, ap, ◌∙◌, subst, arith}
use Rattle.std.specs.Prelude.{slice_get, slice_set, is_some}
use Rattle.std.specs.List.{list_all, list_any}
use Rattle.std.proofs.lemmas.List.{length-map}
use Rattle.backed_store.specs.Disks.{is_backed}
use Rattle.backed_store.specs.declared.disk.Disk.{Disk as UnitDisk}
use Rattle.request_intake.specs.declared.inventory.UnitSpec.{UnitSpec}
use Rattle.unit_model.specs.Unit.{PlainUnit}
use Rattle.logical_unit.specs.declared.changes.Range.{Range}
use Rattle.device_steps.specs.Opening.{AreDisksFor, AreDisksOf}
use Rattle.c_calls.specs.Changes.{range_of}
use Rattle.c_calls.specs.Disks.{CreatesOver, CreatesOverOf, Closes, ClosesInto}
use Rattle.c_calls.specs.Inner.Disks.{Fit}
use Rattle.c_calls.specs.declared.answer.Answer.{Answer}
use Rattle.c_calls.specs.declared.ranges.BlockRange.{BlockRange}
use Rattle.c_calls.specs.declared.served.Served.{Served}
use Rattle.c_calls.specs.declared.wanted.Fault.{Fault}
use Rattle.c_calls.specs.declared.wanted.WantedQueue.{WantedQueue}
use Rattle.c_calls.specs.declared.wanted.WantedUnit.{WantedUnit}
use Rattle.c_calls.proofs.Taking.{get_image}

pub absent : {X : Type 0} (o : Option X) → is_some o ≡ false → o ≡ None
absent None e = refl
absent (Some x) e = cc

-- where there is no device, and where there is one
pub created_over : (pages features : ℕ) (queues : List WantedQueue) (units : List WantedUnit) (old told : Fault) (o : Option Served)
    (disks : List (Option UnitDisk)) (a : Answer) (after : Option Served) (disks' : List (Option UnitDisk)) → o ≡ None
    → CreatesOverOf pages features queues units disks old a told after disks'
    → CreatesOver pages features queues units old told o disks a after disks'
created_over pages features queues units old told o disks a after disks' none is =
    subst (λ (x : Option Served). CreatesOver pages features queues units old told x disks a after disks') (sym none) is

pub closed : (o : Option Served) (d : Served) (disks : List (Option UnitDisk)) (a : Answer) (after : Option Served)
    (disks' : List (Option UnitDisk)) → o ≡ Some d → ClosesInto d disks a after disks' → Closes o disks a after disks'
closed o d disks a after disks' there is = subst (λ (x : Option Served). Closes x disks a after disks') (sym there) is

-- disks that fit are all there
pub all_there : (is_live : Bool) (units : List UnitSpec) (disks : List (Option UnitDisk)) → length disks ≡ length units
    → Fit is_live units disks → list_all is_some disks ≡ true
all_there is_live units [] many fit = refl
all_there is_live [] (x ∷ disks) many fit = absurd (omega (arith, many))
all_there is_live (u ∷ units) (None ∷ disks) many fit = absurd (fit zero u None refl refl)
all_there is_live (u ∷ units) (Some s ∷ disks) many fit =
    all_there is_live units disks (omega (arith, many)) (λ k v x at there. fit (suc k) v x at there)

pub are_for : (is_live : Bool) (units : List UnitSpec) (disks : List (Option UnitDisk)) (stores : List UnitDisk)
    → length disks ≡ length units → Fit is_live units disks → disks ≡ map (λ s. Some s) stores → AreDisksFor units stores
are_for is_live units disks stores many fit are =
    record {
      count = omega (arith, many, ap length are, length-map stores (λ s. Some s));
      each = λ k u s at there.
          (fit k u (Some s) at (ap (λ xs. slice_get xs k) are ∙ get_image (λ x. Some x) stores k s there)).0;
    }

head : {X : Type 0} {x y : X} {xs ys : List X} → x ∷ xs ≡ y ∷ ys → x ≡ y
head e = cc

tail : {X : Type 0} {x y : X} {xs ys : List X} → x ∷ xs ≡ y ∷ ys → xs ≡ ys
tail e = cc

is_not : (b : Bool) → (b ≡ true → false ≡ true) → b ≡ false
is_not true never = absurd (let f : false ≡ true = never refl in cc)
is_not false never = refl

-- where the device isn't on live memory, none has pages that come and go
pub none_backed : (units : List UnitSpec) (disks : List (Option UnitDisk)) (stores : List UnitDisk) → length disks ≡ length units
    → Fit false units disks → disks ≡ map (λ s. Some s) stores → list_any is_backed stores ≡ false
none_backed units disks [] many fit are = refl
none_backed units [] (s ∷ stores) many fit are = absurd (omega (arith, ap length are))
none_backed [] (x ∷ disks) (s ∷ stores) many fit are = absurd (omega (arith, many))
none_backed (u ∷ units) (x ∷ disks) (s ∷ stores) many fit are =
    neither _ _ (is_not (is_backed s) (fit zero u (Some s) refl (ap (λ x. Some x) (head are))).1)
    (none_backed units disks stores (omega (arith, many)) (λ k v y at there. fit (suc k) v y at there) (tail are))
  where
    neither : (a b : Bool) → a ≡ false → b ≡ false → (a || b) ≡ false
    neither a b p q = cc

-- a device gives as many disks as it has units
pub as_many : (units : List PlainUnit) (stores : List UnitDisk) → AreDisksOf units stores → length stores ≡ length units
as_many [] [] are = refl
as_many [] (s ∷ stores) are = absurd are
as_many (u ∷ units) [] are = absurd are
as_many (u ∷ units) (s ∷ stores) are = ap (λ n. suc n) (as_many units stores are.1)

-- one more range is put
pub put_next : (ranges : List Range) (room : List BlockRange) (k : ℕ) (b : BlockRange) → map range_of (take k room) ≡ take k ranges
    → slice_get ranges k ≡ Some (range_of b) → k < length room → map range_of (take (suc k) (slice_set room k b)) ≡ take (suc k) ranges
put_next [] room k b h at lt = cc
put_next (r ∷ ranges) [] k b h at lt = absurd (omega (arith, lt))
put_next (r ∷ ranges) (x ∷ room) zero b h at lt = ap (λ y. y ∷ []) (sym (same at))
  where
    same : {X : Type 0} {x y : X} → Some x ≡ Some y → x ≡ y
    same e = cc
put_next (r ∷ ranges) (x ∷ room) (suc k) b h at lt =
    ap (λ ys. range_of x ∷ ys) (put_next ranges room k b (tail h) at (omega (arith, lt)))
    ∙ ap (λ y. y ∷ take (suc k) ranges) (head h)

pub take_whole : {X : Type 0} (xs : List X) (n : ℕ) → n ≡ length xs → take n xs ≡ xs
take_whole [] zero is = refl
take_whole [] (suc n) is = refl
take_whole (x ∷ xs) zero is = absurd (omega (arith, is))
take_whole (x ∷ xs) (suc n) is = ap (λ ys. x ∷ ys) (take_whole xs n (omega (arith, is)))
