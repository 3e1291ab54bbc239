-- A seat hands its next job off, or keeps it; a worker takes a job from the hand-off.
use Rattle.std.proofs.Common.{◌≡◌, ◌<◌, ℕ, true, false, List, [], ◌∷◌, Some, None, refl, sym, ap, ◌∙◌}
use Rattle.std.specs.Prelude.{slice_get, slice_set, map, drop}
use Rattle.unit_model.specs.Jobs.{PlainJob}
use Rattle.device_model.specs.Parts.{Hand}
use Rattle.device_model.specs.World.{Seat, PlainWorld, change}
use Rattle.device_model.specs.Events.{Event}
use Rattle.device_model.specs.Transitions.{Transition}
use Rattle.device_model.specs.Changing.{with_hand, without_first}
use Rattle.device_model.specs.Found.{SeatIs}
use Rattle.device_model.specs.Event.HandOff.{MayPut, MayTake}
use Rattle.device_model.specs.Turns.{Turns}
use Rattle.device_model.proofs.Lists.{same, nothing}
use Rattle.device_steps.specs.Kept.{KeptSeat, seat_of}
use Rattle.device_steps.specs.Off.{KeptOff}
use Rattle.device_steps.specs.Inner.Off.{AreBare, PutsAt, IsFullAt, TakesNearest}
use Rattle.device_steps.proofs.Setting.{set_same, map_get, seat_change}

-- a list that has a first item begins with it
pub begins : {X : Type 0} (xs : List X) (x : X) → slice_get xs 0 ≡ Some x → xs ≡ x ∷ drop 1 xs
begins [] x e = absurd (nothing e)
begins (y ∷ xs) x e = ap (λ z. z ∷ xs) (same e)

-- one that has none is empty
pub is_empty : {X : Type 0} (xs : List X) → slice_get xs 0 ≡ None → xs ≡ []
is_empty [] e = refl
is_empty (y ∷ xs) e = absurd (nothing (sym e))

-- the lists of the hand-off as the device keeps them
abbrev pub off_of : PlainWorld → KeptOff
off_of w = record { lists = w.handed_off; limit = w.limit }

-- what is set of the hand-off
abbrev pub with_off : PlainWorld → List Seat → KeptOff → PlainWorld
with_off w seats h = record w { seats = seats; handed_off = h.lists; limit = h.limit }

pub no_item : {X : Type 0} {x : X} {xs : List X} → [] ≡ x ∷ xs → ⊥
no_item e = cc

module _ (w : PlainWorld) (kept : List KeptSeat) (seats : w.seats ≡ map seat_of kept) (k : ℕ) (s t : KeptSeat)
    (at : slice_get kept k ≡ Some s) where
  -- the seat as the world has it
  pub seat_is : (hand : Hand) (out : List PlainJob) → s.hand ≡ hand → s.jobs ≡ out → SeatIs w k hand out
  seat_is hand out a b =
      ap (λ l. slice_get l k) seats ∙ map_get seat_of k kept s at
      ∙ ap (λ (h : Hand). Some (record { hand = h; out = s.jobs })) a
      ∙ ap (λ (xs : List PlainJob). Some (record { hand = hand; out = xs })) b

  -- the seats afterwards
  pub seats_after : (g : Seat → Seat) → seat_of t ≡ g (seat_of s)
      → map seat_of (slice_set kept k t) ≡ change g k w.seats
  seats_after g is = seat_change g k kept s t at is ∙ ap (λ l. change g k l) (sym seats)

  -- where the list is empty nothing is done
  pub puts_nothing : slice_get s.jobs 0 ≡ None → t ≡ record s { jobs = drop 1 s.jobs }
      → Turns w (Event.Put k) false (record w { seats = map seat_of (slice_set kept k t) })
  puts_nothing none is =
      let e = is_empty s.jobs none in
      let still : t ≡ s =
      is ∙ ap (λ (xs : List PlainJob). record s { jobs = xs }) (ap (λ (xs : List PlainJob). drop 1 xs) e ∙ sym e) in (
        ap (λ (l : List Seat). record w { seats = l })
            (ap (λ z. map seat_of (slice_set kept k z)) still ∙ ap (λ l. map seat_of l) (set_same k kept s at)
            ∙ sym seats),
        λ (m : MayPut w k).
            no_item (ap (λ (z : Seat). z.out) (same (sym (seat_is s.hand [] refl e) ∙ m.seat))),
      )

  -- the first job is handed off
  pub puts : (x : PlainJob) (h : KeptOff) → s.hand ≡ Hand.Empty → slice_get s.jobs 0 ≡ Some x
      → t ≡ record s { jobs = drop 1 s.jobs } → PutsAt k x (off_of w) h
      → Turns w (Event.Put k) true (with_off w (map seat_of (slice_set kept k t)) h)
  puts x h free first is p = (
    Transition.Put k x,
    refl,
    record {
      rest = drop 1 s.jobs;
      seat = seat_is Hand.Empty (x ∷ drop 1 s.jobs) free (begins s.jobs x first);
      off = p.off;
      there = p.there;
      room = p.room;
    },
    ap (λ (l : List Seat). with_off w l h)
        (seats_after (without_first Hand.Empty)
        (ap seat_of is ∙ ap (λ (a : Hand). record { hand = a; out = drop 1 s.jobs }) free))
        ∙ ap (λ (j : KeptOff). with_off w (change (without_first Hand.Empty) k w.seats) j) p.after,
  )

  -- the first job is kept, since the own list is full
  pub keeps : (x : PlainJob) (h : KeptOff) → s.hand ≡ Hand.Empty → slice_get s.jobs 0 ≡ Some x
      → t ≡ record { hand = Hand.Taken x; jobs = drop 1 s.jobs; limit = s.limit } → IsFullAt k (off_of w)
      → h ≡ off_of w → Turns w (Event.Put k) true (with_off w (map seat_of (slice_set kept k t)) h)
  keeps x h free first is f same_off = (
    Transition.Keep k x,
    refl,
    record {
      rest = drop 1 s.jobs;
      seat = seat_is Hand.Empty (x ∷ drop 1 s.jobs) free (begins s.jobs x first);
      off = f.off;
      there = f.there;
      full = f.full;
    },
    ap (λ (l : List Seat). with_off w l h) (seats_after (without_first (Hand.Taken x)) (ap seat_of is))
        ∙ ap (λ (j : KeptOff). with_off w (change (without_first (Hand.Taken x)) k w.seats) j) same_off,
  )

  -- a worker takes the first job of the nearest list
  pub takes : (x : PlainJob) (h : KeptOff) → k < w.workers → s.hand ≡ Hand.Empty → s.jobs ≡ []
      → t ≡ record s { hand = Hand.Taken x } → TakesNearest k x (off_of w) h
      → Turns w (Event.Take k) true (with_off w (map seat_of (slice_set kept k t)) h)
  takes x h worker free none is p = (
    Transition.Take k p.from x,
    refl,
    record {
      worker = worker;
      seat = seat_is Hand.Empty [] free none;
      rest = p.rest;
      handed_off = p.there;
      first = p.first;
    },
    ap (λ (l : List Seat). with_off w l h) (seats_after (with_hand (Hand.Taken x)) (ap seat_of is))
        ∙ ap (λ (j : KeptOff). with_off w (change (with_hand (Hand.Taken x)) k w.seats) j) p.after,
  )

-- where each list is empty nothing is taken
pub takes_nothing : (w : PlainWorld) (k : ℕ) (h : KeptOff) → h ≡ off_of w → AreBare w.handed_off
    → Turns w (Event.Take k) false (with_off w w.seats h)
takes_nothing w k h is bare = (
  ap (λ (j : KeptOff). with_off w w.seats j) is,
  λ (m : MayTake w k). no_item (sym (bare m.from (m.job ∷ m.rest) m.handed_off)),
)
