-- Serving in portions, and what a device that asks each queue does.
use Rattle.std.proofs.Common.{◌≡◌, inl, inr, ℕ, ◌<◌, ◌≤◌, ◌==◌, Bool, true, false, List, [], ◌∷◌, length, Ok, Err, refl, sym, ap, ◌∙◌, subst, arith}
use Rattle.std.proofs.lemmas.Nat.Bits.{bit_at_ones}
use Rattle.std.proofs.lemmas.Option.{slice_get_within}
use Rattle.foundation.specs.declared.NoMemory.{NoMemory}
use Rattle.device_model.specs.World.{PlainWorld}
use Rattle.device_model.specs.Events.{Event}
use Rattle.device_model.specs.Transitions.{Transition, event_of}
use Rattle.device_model.specs.Happens.{world_of}
use Rattle.device_model.specs.Lawful.{KeepsParts}
use Rattle.device_model.proofs.Staying.{transition_stays}
use Rattle.device_model.specs.Order.{order, order_by, order_of, IsFirstOf, IsNextOf, IsQuietOf, IsAtRest, IsAtRestOf, NoneApplies}
use Rattle.device_model.specs.Settling.{SettlesOf}
use Rattle.device_model.proofs.Choosing.{next_or_quiet_of}
use Rattle.device_model.proofs.Runs.{settles_of_to_rest}
use Rattle.device_model.proofs.Bounds.{settles_of_short}
use Rattle.world.specs.declared.served.Served.{Served}
use Rattle.device_steps.specs.Settling.{asks, asks_all, order_for, ServesBy, MayWantFirst}
use Rattle.world.specs.Settling.{ServesSome, ServesUntilRefused, ServesSomeOrWants, ServesAll, ServesInPart, ServesOrWants}
use Rattle.world.specs.Promise.{GoesOnInOrder}
use Rattle.device_steps.specs.Inner.Cursors.{Denies}
use Rattle.device_steps.specs.Sound.{IsReached}
use Rattle.device_steps.proofs.Ordering.{AskAlike, order_alike}

-- A portion

-- where something is left an event is next
next_left : (asked : ℕ → Bool) (w : PlainWorld) (b : Bool) → b ≡ true → Denies (IsQuietOf asked w) b
    → (e : Event) × IsNextOf asked w e
next_left asked w true on h = elim (next_or_quiet_of asked w) [
  | inl next ↦ next
  | inr quiet ↦ absurd (h quiet)
]
next_left asked w false on h = absurd (cc)

none_left : (P : Type 0) (b : Bool) → b ≡ false → Denies P b → P
none_left P false off h = h
none_left P true off h = absurd (cc)

-- served so far
pub portion : (asked : ℕ → Bool) (w : PlainWorld) (most n : ℕ) (b : Bool) (v : PlainWorld) → IsReached w
    → ServesBy asked w n v → n ≤ most → (b ≡ true → n ≡ most) → Denies (IsQuietOf asked v) b
    → ServesSome asked w most (record { steps = n; more = b }) v
portion asked w most n b v r s few full h =
    let rest : IsQuietOf asked v → IsAtRestOf asked v =
    λ quiet.
    subst (λ z. IsAtRestOf asked z) (sym s.is)
    (settles_of_to_rest asked r.old r.trace w s.transitions r.reached s.settles (subst (λ z. IsQuietOf asked z) s.is quiet)) in
    record {
      serves = s;
      few = few;
      short = settles_of_short asked r.old r.trace w s.transitions r.reached s.settles;
      left = λ on. (full on, next_left asked v b on h);
      none = λ off. let quiet = none_left (IsQuietOf asked v) b off h in (quiet, rest quiet);
    }

-- served until memory was refused
pub refused : (asked : ℕ → Bool) (w : PlainWorld) (most n : ℕ) (u v : PlainWorld) → IsReached w → ServesBy asked w n u
    → n < most → (v ≡ u) × MayWantFirst u (order_for asked u) → ServesUntilRefused asked w most v
refused asked w most n u v r s few t =
    subst (λ z. ServesUntilRefused asked w most z) (sym t.0)
    (record {
      count = n;
      serves = s;
      few = few;
      short = settles_of_short asked r.old r.trace w s.transitions r.reached s.settles;
      wants = t.1;
    })

-- Each queue

-- a mask with each bit set asks each queue below 32
pub asks_each : (q : ℕ) → q < 32 → asks 4294967295 q ≡ asks_all q
asks_each q lt = ap (λ n. n == 1) (bit_at_ones 32 q lt)

-- there are as many queues as before
as_many : (w : PlainWorld) (ds : List Transition) → length (world_of w ds).queues ≡ length w.queues
as_many w [] = refl
as_many w (d ∷ ds) =
    let k : KeepsParts (world_of w ds) (world_of w (d ∷ ds)) = transition_stays d (world_of w ds) in
    omega (arith, k.queues, as_many w ds)

alike : (w : PlainWorld) (ds : List Transition) → length w.queues ≤ 18
    → AskAlike (asks 4294967295) asks_all (length (world_of w ds).queues)
alike w ds few q lt = asks_each q (omega (arith, lt, few, as_many w ds))

-- what is first is the same
settles_alike : (w : PlainWorld) (ds : List Transition) → length w.queues ≤ 18 → SettlesOf (asks 4294967295) w ds
    → SettlesOf asks_all w ds
settles_alike w [] few h = tt
settles_alike w (d ∷ ds) few h =
    let v = world_of w ds in (
      settles_alike w ds few h.0,
      h.1,
      subst (λ xs. IsFirstOf v xs (event_of d))
          (order_alike (asks 4294967295) asks_all (length v.queues) (length v.seats) (alike w ds few)) h.2,
    )

abbrev serves_alike : (w : PlainWorld) (n : ℕ) (v : PlainWorld) → length w.queues ≤ 18 → ServesBy (asks 4294967295) w n v
    → ServesBy asks_all w n v
serves_alike w n v few s =
    record { transitions = s.transitions; settles = settles_alike w s.transitions few s.settles; is = s.is; counted = s.counted }

-- the order is the one that asks each queue
pub order_all : (queues seats : ℕ) → order_by asks_all queues seats ≡ order queues seats
unfolding order order_by
order_all queues seats = refl

order_is : (w v : PlainWorld) (n : ℕ) → length w.queues ≤ 18 → ServesBy (asks 4294967295) w n v
    → order_for (asks 4294967295) v ≡ order_of v
order_is w v n few s =
    let same : AskAlike (asks 4294967295) asks_all (length v.queues) =
    subst (λ (z : PlainWorld). AskAlike (asks 4294967295) asks_all (length z.queues)) (sym s.is) (alike w s.transitions few) in
    order_alike (asks 4294967295) asks_all (length v.queues) (length v.seats) same
    ∙ order_all (length v.queues) (length v.seats)

-- at rest
pub rests_whole : (v : PlainWorld) → AskAlike (asks 4294967295) asks_all (length v.queues) → IsAtRestOf (asks 4294967295) v
    → IsAtRest v
rests_whole v same r =
    record {
      chains = r.chains;
      parked = r.parked;
      woken = r.woken;
      buffers = r.buffers;
      closed = r.closed;
      waiting = r.waiting;
      queues = λ i q at whole. r.queues i q at (same i (slice_get_within v.queues i q at)) whole;
    }

served_whole : (w : PlainWorld) (s : Served) (v : PlainWorld) → length w.queues ≤ 18
    → ServesSome (asks 4294967295) w 18446744073709551615 s v → s.more ≡ false → ServesAll w s.steps v
served_whole w s v few h off =
    let none = h.none off in
    let same : AskAlike (asks 4294967295) asks_all (length v.queues) =
    subst (λ (z : PlainWorld). AskAlike (asks 4294967295) asks_all (length z.queues)) (sym h.serves.is)
    (alike w h.serves.transitions few) in
    record {
      serves = serves_alike w s.steps v few h.serves;
      quiet = subst (λ xs. NoneApplies v xs) (order_is w v s.steps few h.serves) none.0;
      rest = rests_whole v same none.1;
      short = h.short;
    }

served_part : (w : PlainWorld) (s : Served) (v : PlainWorld) → length w.queues ≤ 18
    → ServesSome (asks 4294967295) w 18446744073709551615 s v → s.more ≡ true → ServesInPart w v
served_part w s v few h on =
    record {
      count = s.steps;
      serves = serves_alike w s.steps v few h.serves;
      short = h.short;
      wants = inr (omega (arith, (h.left on).0));
    }

-- whole, unless all steps that can be counted were taken
pub whole_or_part : (w : PlainWorld) (s : Served) (v : PlainWorld) → length w.queues ≤ 18
    → ServesSomeOrWants (asks 4294967295) 18446744073709551615 w (Ok s) v → s.more ≡ false → ServesOrWants w (Ok s.steps) v
whole_or_part w s v few h off = served_whole w s v few h off

pub counted_out : (w : PlainWorld) (s : Served) (x : NoMemory) (v : PlainWorld) → length w.queues ≤ 18
    → ServesSomeOrWants (asks 4294967295) 18446744073709551615 w (Ok s) v → s.more ≡ true → ServesOrWants w (Err x) v
counted_out w s x v few h on = served_part w s v few h on

pub refused_part : (w : PlainWorld) (x y : NoMemory) (v : PlainWorld) → length w.queues ≤ 18
    → ServesSomeOrWants (asks 4294967295) 18446744073709551615 w (Err x) v → ServesOrWants w (Err y) v
refused_part w x y v few h =
    record {
      count = h.count;
      serves = serves_alike w h.count v few h.serves;
      short = h.short;
      wants = inl (subst (λ xs. MayWantFirst v xs) (order_is w v h.count few h.serves) h.wants);
    }

-- the trace is of the same events
pub goes_alike : (w : PlainWorld) (n : ℕ) (v : PlainWorld) → length w.queues ≤ 18 → GoesOnInOrder (asks 4294967295) w n v
    → GoesOnInOrder asks_all w n v
goes_alike w n v few g = record { serves = serves_alike w n v few g.serves; goes_on = g.goes_on }
