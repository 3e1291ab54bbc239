-- One seat, unit or queue is set: what the device keeps of each stays, and the seats are changed as a transition says.
use Rattle.std.proofs.Common.{◌≡◌, ℕ, zero, suc, ◌+◌, ◌*◌, ◌<◌, List, [], ◌∷◌, length, get_or, Some, refl, sym, ap, ◌∙◌, subst}
use Rattle.std.proofs.lemmas.Option.{slice_get_read}
use Rattle.std.specs.Prelude.{slice_get, slice_set, map}
use Rattle.unit_model.specs.Unit.{PlainUnit}
use Rattle.device_model.specs.World.{PlainQueue, Seat, PlainWorld, change}
use Rattle.device_model.proofs.Lists.{same, nothing}
use Rattle.device_steps.specs.Kept.{KeptSeat, seat_of}
use Rattle.device_steps.specs.Inner.Kept.{HasLists}
use Rattle.device_steps.proofs.Setting.{set_change, set_same, map_set, map_get}

-- a list with an item set is as long as it was
pub length_set : {X : Type 0} (k : ℕ) (xs : List X) (x : X) → length (slice_set xs k x) ≡ length xs
length_set k [] x = refl
length_set zero (y ∷ xs) x = refl
length_set (suc k) (y ∷ xs) x = ap (λ n. suc n) (length_set k xs x)

-- what is true of every item is so once one is set of which it is true
pub everywhere_set : {X : Type 0} (P : X → Type 0) (k : ℕ) (xs : List X) (x : X)
    → ((i : ℕ) (y : X) → slice_get xs i ≡ Some y → P y) → P x
    → (i : ℕ) (y : X) → slice_get (slice_set xs k x) i ≡ Some y → P y
everywhere_set P k [] x all is i y e = absurd (nothing e)
everywhere_set P zero (z ∷ xs) x all is zero y e = subst P (same e) is
everywhere_set P zero (z ∷ xs) x all is (suc i) y e = all (suc i) y e
everywhere_set P (suc k) (z ∷ xs) x all is zero y e = all zero y e
everywhere_set P (suc k) (z ∷ xs) x all is (suc i) y e =
    everywhere_set P k xs x (λ j v at. all (suc j) v at) is i y e

-- a kept seat that is set, as a change of the seats
pub seat_set : (g : Seat → Seat) (k : ℕ) (kept : List KeptSeat) (s t : KeptSeat) → slice_get kept k ≡ Some s
    → seat_of t ≡ g (seat_of s) → map seat_of (slice_set kept k t) ≡ change g k (map seat_of kept)
seat_set g k kept s t at is =
    map_set seat_of k kept t ∙ (ap (λ z. slice_set (map seat_of kept) k z) is
    ∙ set_change g k (map seat_of kept) (seat_of s) (map_get seat_of k kept s at))

-- the lists are those that they were, where one unit is set and one seat with the limit that it had
pub keeps_unit : {places room : ℕ} (units : List PlainUnit) (kept : List KeptSeat) (k unit_index : ℕ) (u : PlainUnit)
    (s t : KeptSeat) → slice_get kept k ≡ Some s → t.limit ≡ s.limit
    → HasLists units kept places room → HasLists (slice_set units unit_index u) (slice_set kept k t) places room
keeps_unit units kept k unit_index u s t at same_limit h =
    let size = length_set unit_index units u in
    record {
      limits = everywhere_set (λ (z : KeptSeat). z.limit ≡ 64 * length (slice_set units unit_index u) + 64) k kept t
          (λ i z e. h.limits i z e ∙ ap (λ n. 64 * n + 64) (sym size))
          (same_limit ∙ (h.limits k s at ∙ ap (λ n. 64 * n + 64) (sym size)));
      aside = h.aside ∙ ap (λ n. 64 * n + 64) (sym size);
      port = h.port;
    }

-- what was read at an index of a list is there, under each value that it equals
pub found : {X : Type 0} (xs : List X) (n k : ℕ) (x y : X) → n ≡ length xs → k < n → y ≡ get_or xs k y → x ≡ y
    → slice_get xs k ≡ Some x
found xs n k x y size within read is = slice_get_read xs n k y size within read ∙ ap (λ z. Some z) (sym is)

-- what stands at one index of a list is one
pub one_there : {X : Type 0} (xs : List X) (k : ℕ) (x y : X) → slice_get xs k ≡ Some x → slice_get xs k ≡ Some y → x ≡ y
one_there xs k x y e f = same (sym e ∙ f)

-- a seat, as the device shows it
pub shown : (w : PlainWorld) (kept : List KeptSeat) (k : ℕ) (s : KeptSeat) → w.seats ≡ map seat_of kept
    → slice_get kept k ≡ Some s → slice_get w.seats k ≡ Some (seat_of s)
shown w kept k s seats at = ap (λ (zs : List Seat). slice_get zs k) seats ∙ map_get seat_of k kept s at

-- the device with a unit set, and a seat
abbrev pub with_unit_and_seat : PlainWorld → ℕ → PlainUnit → List KeptSeat → ℕ → KeptSeat → PlainWorld
with_unit_and_seat w unit_index u kept k s =
    record w { units = slice_set w.units unit_index u; seats = map seat_of (slice_set kept k s) }

-- the device is one where its seats and its units are
pub moved : (w : PlainWorld) (seats seats' : List Seat) (units units' : List PlainUnit) → seats ≡ seats' → units ≡ units'
    → record w { seats = seats; units = units } ≡ record w { seats = seats'; units = units' }
moved w seats seats' units units' es eu =
    ap (λ (z : List Seat). record w { seats = z; units = units }) es
    ∙ ap (λ (z : List PlainUnit). record w { seats = seats'; units = z }) eu

-- to set what is there is to change nothing
pub unit_stays : (w : PlainWorld) (kept : List KeptSeat) (k unit_index : ℕ) (s t : KeptSeat) (u v : PlainUnit)
    → w.seats ≡ map seat_of kept → slice_get kept k ≡ Some s → slice_get w.units unit_index ≡ Some u → t ≡ s → v ≡ u
    → with_unit_and_seat w unit_index v kept k t ≡ w
unit_stays w kept k unit_index s t u v seats at there ts vu =
    let es : map seat_of (slice_set kept k t) ≡ w.seats =
    ap (λ (z : KeptSeat). map seat_of (slice_set kept k z)) ts
    ∙ (ap (λ (zs : List KeptSeat). map seat_of zs) (set_same k kept s at) ∙ sym seats) in
    let eu : slice_set w.units unit_index v ≡ w.units =
    ap (λ (z : PlainUnit). slice_set w.units unit_index z) vu ∙ set_same unit_index w.units u there in
    moved w _ _ _ _ es eu

-- the device with memory, a queue and a seat set
abbrev pub with_queue_and_seat : PlainWorld → List ℕ → ℕ → PlainQueue → List KeptSeat → ℕ → KeptSeat → PlainWorld
with_queue_and_seat w m i q kept k s =
    record w { memory = m; queues = slice_set w.queues i q; seats = map seat_of (slice_set kept k s) }

-- the device is one where its memory, its queues and its seats are
pub moved_queue : (w : PlainWorld) (m m' : List ℕ) (queues queues' : List PlainQueue) (seats seats' : List Seat) → m ≡ m'
    → queues ≡ queues' → seats ≡ seats'
    → record w { memory = m; queues = queues; seats = seats } ≡ record w { memory = m'; queues = queues'; seats = seats' }
moved_queue w m m' queues queues' seats seats' em eq es =
    ap (λ (z : List ℕ). record w { memory = z; queues = queues; seats = seats }) em
    ∙ (ap (λ (z : List PlainQueue). record w { memory = m'; queues = z; seats = seats }) eq
    ∙ ap (λ (z : List Seat). record w { memory = m'; queues = queues'; seats = z }) es)

-- the lists are those that they were, where one seat is set with the limit that it had
pub keeps_seat : {places room : ℕ} (units : List PlainUnit) (kept : List KeptSeat) (k : ℕ) (s t : KeptSeat)
    → slice_get kept k ≡ Some s → t.limit ≡ s.limit
    → HasLists units kept places room → HasLists units (slice_set kept k t) places room
keeps_seat units kept k s t at same_limit h = record {
  limits = everywhere_set (λ (z : KeptSeat). z.limit ≡ 64 * length units + 64) k kept t
      (λ i z e. h.limits i z e) (same_limit ∙ h.limits k s at);
  aside = h.aside;
  port = h.port;
}
