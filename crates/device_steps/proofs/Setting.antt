-- An item of a list that is set is the item changed; the same of the seats as they are kept.
use Rattle.std.proofs.Common.{◌≡◌, ◌≤◌, ℕ, ◌+◌, ◌*◌, zero, suc, Bool, List, [], ◌∷◌, ◌++◌, length, Some, refl, sym, ap, ◌∙◌, subst, arith}
use Rattle.std.specs.Prelude.{slice_get, slice_set, map}
use Rattle.std.proofs.lemmas.List.{append-nil}
use Rattle.unit_model.specs.Jobs.{PlainJob, Jobs}
use Rattle.unit_model.specs.Unit.{PlainUnit}
use Rattle.device_model.specs.Parts.{Slot}
use Rattle.device_model.specs.World.{PlainQueue, Seat, PlainWorld, change}
use Rattle.device_model.specs.Events.{Event}
use Rattle.device_model.specs.Changing.{slotted, with_jobs}
use Rattle.device_model.specs.Standing.{HaveRoom}
use Rattle.device_model.specs.Turns.{Turns}
use Rattle.phases.specs.DoingUnit.{HasPlaces, with_more}
use Rattle.device_steps.specs.Apart.{PlainDevice, standing}
use Rattle.device_steps.specs.Kept.{KeptSeat, seat_of}
use Rattle.device_steps.specs.Inner.Kept.{HasLists}
use Rattle.device_steps.specs.Sound.{AreFitting}
use Rattle.device_steps.specs.Inner.Sound.{IsSound}
use Rattle.device_model.proofs.Lists.{same, nothing}

-- to set what a change gives is the change
pub set_change : {X : Type 0} (g : X → X) (k : ℕ) (xs : List X) (x : X) → slice_get xs k ≡ Some x
    → slice_set xs k (g x) ≡ change g k xs
set_change g k [] x e = refl
set_change g zero (y ∷ xs) x e = ap (λ z. g z ∷ xs) (sym (same e))
set_change g (suc k) (y ∷ xs) x e = ap (λ zs. y ∷ zs) (set_change g k xs x e)

-- to set what is there changes nothing
pub set_same : {X : Type 0} (k : ℕ) (xs : List X) (x : X) → slice_get xs k ≡ Some x → slice_set xs k x ≡ xs
set_same k [] x e = refl
set_same zero (y ∷ xs) x e = ap (λ z. z ∷ xs) (sym (same e))
set_same (suc k) (y ∷ xs) x e = ap (λ zs. y ∷ zs) (set_same k xs x e)

-- the image of a list with an item set has its image set
pub map_set : {X Y : Type 0} (f : X → Y) (k : ℕ) (xs : List X) (x : X)
    → map f (slice_set xs k x) ≡ slice_set (map f xs) k (f x)
map_set f k [] x = refl
map_set f zero (y ∷ xs) x = refl
map_set f (suc k) (y ∷ xs) x = ap (λ zs. f y ∷ zs) (map_set f k xs x)

-- what is there in a list has its image there
pub map_get : {X Y : Type 0} (f : X → Y) (k : ℕ) (xs : List X) (x : X) → slice_get xs k ≡ Some x
    → slice_get (map f xs) k ≡ Some (f x)
map_get f k [] x e = absurd (nothing e)
map_get f zero (y ∷ xs) x e = ap (λ z. Some (f z)) (same e)
map_get f (suc k) (y ∷ xs) x e = map_get f k xs x e

-- what stands in an image is the image of what stands there
pub each_image : {X Y : Type 0} (f : X → Y) (P : Y → Type 0) (xs : List X)
    → ((k : ℕ) (x : X) → slice_get xs k ≡ Some x → P (f x)) → (k : ℕ) (y : Y)
    → slice_get (map f xs) k ≡ Some y → P y
each_image f P [] is k y at = absurd (nothing at)
each_image f P (x ∷ xs) is zero y at = subst P (same at) (is zero x refl)
each_image f P (x ∷ xs) is (suc k) y at = each_image f P xs (λ j z e. is (suc j) z e) k y at

-- what is true of each item is true of each where one is set that it is true of
pub everywhere_set : {X : Type 0} (P : X → Type 0) (k : ℕ) (xs : List X) (x : X)
    → ((i : ℕ) (z : X) → slice_get xs i ≡ Some z → P z) → P x
    → (i : ℕ) (z : X) → slice_get (slice_set xs k x) i ≡ Some z → P z
everywhere_set P k [] x all h i z e = all i z e
everywhere_set P zero (y ∷ xs) x all h zero z e = subst P (same e) h
everywhere_set P zero (y ∷ xs) x all h (suc i) z e = all (suc i) z e
everywhere_set P (suc k) (y ∷ xs) x all h zero z e = all zero z e
everywhere_set P (suc k) (y ∷ xs) x all h (suc i) z e =
    everywhere_set P k xs x (λ j y at. all (suc j) y at) h i z e

-- a list with an item set is as long
pub set_length : {X : Type 0} (k : ℕ) (xs : List X) (x : X) → length (slice_set xs k x) ≡ length xs
set_length k [] x = refl
set_length zero (y ∷ xs) x = refl
set_length (suc k) (y ∷ xs) x = ap (λ n. suc n) (set_length k xs x)

-- a seat that is set as a change has it is that change of the seats
pub seat_change : (g : Seat → Seat) (k : ℕ) (kept : List KeptSeat) (s t : KeptSeat) → slice_get kept k ≡ Some s
    → seat_of t ≡ g (seat_of s) → map seat_of (slice_set kept k t) ≡ change g k (map seat_of kept)
seat_change g k kept s t at is =
    map_set seat_of k kept t ∙ ap (λ z. slice_set (map seat_of kept) k z) is
    ∙ set_change g k (map seat_of kept) (seat_of s) (map_get seat_of k kept s at)

-- what the device keeps of its lists, where a seat is set
pub seat_kept : {places room : ℕ} (units : List PlainUnit) (kept : List KeptSeat) (k : ℕ) (s t : KeptSeat)
    → HasLists units kept places room → slice_get kept k ≡ Some s → t.limit ≡ s.limit
    → HasLists units (slice_set kept k t) places room
seat_kept units kept k s t h at is =
    record {
      limits =
          everywhere_set (λ (z : KeptSeat). z.limit ≡ 64 * length units + 64) k kept t h.limits
          (is ∙ h.limits k s at);
      aside = h.aside;
      port = h.port;
    }

-- a turn of the device as it is seen
pub turns_seen : (shared : Bool) (m : List ℕ) (v d : PlainDevice) (e : Event) (b : Bool) (w' : PlainWorld) → v ≡ d
    → Turns (standing shared m v) e b w' → Turns (standing shared m d) e b w'
turns_seen shared m v d e b w' is h = subst (λ z. Turns (standing shared m z) e b w') is h

-- and what it rests on
pub sound_seen : (shared : Bool) (m : List ℕ) (v d : PlainDevice) → v ≡ d → IsSound (standing shared m d)
    → IsSound (standing shared m v)
sound_seen shared m v d is h = subst (λ z. IsSound (standing shared m z)) (sym is) h

pub fits_seen : (shared : Bool) (m : List ℕ) (v d : PlainDevice) → v ≡ d → AreFitting (standing shared m d)
    → AreFitting (standing shared m v)
fits_seen shared m v d is h = subst (λ z. AreFitting (standing shared m z)) (sym is) h

-- A queue, a unit and a seat's list

-- a seat's list of jobs, and the seat with another list
abbrev pub list_of : KeptSeat → Jobs
list_of s = record { jobs = s.jobs; limit = s.limit }

abbrev pub listing : Jobs → KeptSeat → KeptSeat
listing out s = record { hand = s.hand; jobs = out.jobs; limit = out.limit }

-- a queue whose slot is set
pub slot_change : (queues : List PlainQueue) (i : ℕ) (q : PlainQueue) (slot to : Slot) → slice_get queues i ≡ Some q
    → slot ≡ to → slice_set queues i (slotted slot q) ≡ change (slotted to) i queues
slot_change queues i q slot to at is =
    ap (λ z. slice_set queues i (slotted z q)) is ∙ set_change (slotted to) i queues q at

-- a unit that is set as a change has it is that change of the units
pub unit_change : (g : PlainUnit → PlainUnit) (units : List PlainUnit) (p : ℕ) (u v : PlainUnit)
    → slice_get units p ≡ Some u → v ≡ g u → slice_set units p v ≡ change g p units
unit_change g units p u v at is = ap (λ z. slice_set units p z) is ∙ set_change g p units u at

-- a unit that is set as it was changes nothing
pub unit_still : (units : List PlainUnit) (p : ℕ) (u v : PlainUnit) → slice_get units p ≡ Some u → v ≡ u
    → slice_set units p v ≡ units
unit_still units p u v at is = ap (λ z. slice_set units p z) is ∙ set_same p units u at

module _ (seats : List Seat) (kept : List KeptSeat) (are : seats ≡ map seat_of kept) (n : ℕ) (s : KeptSeat)
    (at : slice_get kept n ≡ Some s) (out : Jobs) where
  -- the seat as the world has it
  pub seat_there : slice_get seats n ≡ Some (seat_of s)
  seat_there = ap (λ l. slice_get l n) are ∙ map_get seat_of n kept s at

  -- more jobs in a seat's list
  pub seat_more : (xs : List PlainJob) → out ≡ with_more xs (list_of s)
      → map seat_of (slice_set kept n (listing out s)) ≡ change (with_jobs xs) n seats
  seat_more xs is =
      seat_change (with_jobs xs) n kept s (listing out s) at (ap (λ (j : Jobs). seat_of (listing j s)) is)
      ∙ ap (λ l. change (with_jobs xs) n l) (sym are)

  -- a seat's list that is set as it was changes nothing
  pub seat_still : out ≡ list_of s → map seat_of (slice_set kept n (listing out s)) ≡ seats
  seat_still is =
      ap (λ (j : Jobs). map seat_of (slice_set kept n (listing j s))) is
      ∙ ap (λ l. map seat_of l) (set_same n kept s at) ∙ sym are

-- a list with no more jobs is the list
pub none_more : (out : Jobs) (s : KeptSeat) → out ≡ with_more [] (list_of s) → out ≡ list_of s
none_more out s is = is ∙ ap (λ (xs : List PlainJob). record { jobs = xs; limit = s.limit }) (append-nil s.jobs)

-- there is room for all that a unit may hand out
pub has_places : (w : PlainWorld) (kept : List KeptSeat) (n : ℕ) (s : KeptSeat) → w.seats ≡ map seat_of kept
    → HaveRoom w → ((k : ℕ) (z : KeptSeat) → slice_get kept k ≡ Some z → z.limit ≡ 64 * length w.units + 64)
    → slice_get kept n ≡ Some s → HasPlaces (list_of s)
has_places w kept n s are room limits at =
    let few : length s.jobs ≤ 64 * length w.units =
    room.seats n (seat_of s) (seat_there w.seats kept are n s at (list_of s)) in
    let many : s.limit ≡ 64 * length w.units + 64 = limits n s at in
    omega (arith, few, many)

-- what the device keeps of its lists, where a unit and a seat are set
pub unit_kept : {places room : ℕ} (units : List PlainUnit) (kept : List KeptSeat) (p : ℕ) (v : PlainUnit) (n : ℕ)
    (s t : KeptSeat) → HasLists units kept places room → slice_get kept n ≡ Some s → t.limit ≡ s.limit
    → HasLists (slice_set units p v) (slice_set kept n t) places room
unit_kept units kept p v n s t h at is =
    record {
      limits =
          everywhere_set (λ (z : KeptSeat). z.limit ≡ 64 * length (slice_set units p v) + 64) n kept t
          (λ k z e. h.limits k z e ∙ ap (λ j. 64 * j + 64) (sym (set_length p units v)))
          (is ∙ h.limits n s at ∙ ap (λ j. 64 * j + 64) (sym (set_length p units v)));
      aside = h.aside ∙ ap (λ j. 64 * j + 64) (sym (set_length p units v));
      port = h.port;
    }
