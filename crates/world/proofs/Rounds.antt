-- A device that is served round by round, each in a phase of its own.
use Rattle.std.proofs.Common.{◌≡◌, ℕ, suc, ◌+◌, Bool, true, false, List, [], ◌∷◌, ◌++◌, append_assoc, append-nil, length, map, Option, Some, None, Result, Ok, Err, refl, sym, ap, ◌∙◌, subst, inl, inr, ◌≤◌, ◌<◌, ◌==◌, ◌*◌, ◌^◌, ◌%◌, true≢false, arith}
use Rattle.std.specs.List.{sum_by}
use Rattle.std.specs.Int.{bit_at}
use Rattle.std.proofs.lemmas.Bool.Decides.{nat_tests}
use Rattle.std.proofs.lemmas.List.Sums.{sum_by-cons}
use Rattle.std.proofs.lemmas.Nat.{one_shl}
use Rattle.std.proofs.lemmas.Nat.Bits.{bit_at-pow_same, bit_at-pow_other}
use Rattle.foundation.specs.declared.NoMemory.{NoMemory}
use Rattle.guest_mem.specs.Stores.{Store}
use Rattle.ring_core.specs.Writes.{Write}
use Rattle.device_model.specs.World.{PlainWorld}
use Rattle.device_model.specs.Transitions.{Transition, event_of, action_of}
use Rattle.device_model.specs.After.{after}
use Rattle.device_model.specs.Happens.{Happens, Occurrence, Reached, world_of}
use Rattle.device_model.specs.Turns.{count_changes}
use Rattle.device_model.specs.Events.{Event}
use Rattle.device_model.specs.Order.{IsNextOf, IsQuietOf, IsAtRestOf}
use Rattle.device_model.specs.Settling.{SettlesOf}
use Rattle.device_model.specs.Live.{Turn, with_memory, live_world, occurrence_at, IsNextLive, LiveRuns, LiveSettlesOf, IsShortLive}
use Rattle.device_model.proofs.Choosing.{next_or_quiet_of}
use Rattle.device_model.proofs.Runs.{settles_of_to_rest}
use Rattle.device_steps.specs.Settling.{asks, order_for, ServesBy, MayWantFirst}
use Rattle.device_steps.specs.Apart.{PlainDevice, standing, Stored}
use Rattle.device_steps.specs.Sound.{IsReached, IsSteady}
use Rattle.world.specs.LiveWorld.{PlainLive, IsSteadyIn, writes_along}
use Rattle.device_steps.specs.Serving.{ServesInPhase, writes_by}
use Rattle.world.specs.LiveServing.{LiveRound, AsksWithin, narrow_rounds, RoundServes, ServesLiveBy, HasNone, HasNext, Looks, event_at, GoesOnServedLive, StoresServed}
use Rattle.device_steps.specs.Inner.Cursors.{AsksOnly, Denies, NoneBefore, TurnsNextIn}
use Rattle.world.specs.Inner.Rounds.{TurnsRound, LeavesBy, SettledLive, SettlesNext, RoundOn, RowServes, RowSettles, RowBehind}
use Rattle.device_steps.specs.declared.cursor.Cursor.{Cursor}
use Rattle.device_steps.specs.declared.cursor.Progress.{Progress}
use Rattle.world.proofs.AnyChain.{next_live}
use Rattle.device_steps.proofs.EachTurn.{device_of}
use Rattle.device_steps.proofs.InMemory.{none_known, on_known, both_known}
use Rattle.world.proofs.Lively.{AnyStand, AllLiveRuns, any_steady, seen_long}
use Rattle.world.proofs.Promising.{AllArePromised, AllGoOn}
use Rattle.device_steps.proofs.Keeping.{room_of}
use Rattle.world.proofs.Reaching.{rooms_along, whole_by_serving, fits_by}

-- What one phase did

sum_is : (n later count : ℕ) → count ≡ 1 + later → (n + 1) + later ≡ n + count
sum_is n later count e = omega (arith, e)

module _ {X : Type 0} (asked : ℕ → Bool) (shared : Bool) (size : ℕ) (stored : X → X → List Write → Type 0)
    (P : X → ℕ → PlainDevice → Type 0)
    (step : (j l : X) (n k : ℕ) (found left : List ℕ) (v u : PlainDevice) → length found ≡ size → length left ≡ size → P j n v
    → (serves : ServesBy asked (standing shared found v) k (standing shared left u))
    → stored j l (writes_by serves.transitions) → P l (n + k) u) where
  -- what each part of a phase keeps, the phase keeps
  pub phase_keeps : (may_be : X → List ℕ → Type 0) (x : X) (d : PlainDevice) (count : ℕ) (y : X) (d' : PlainDevice)
      → ((m : List ℕ) → may_be x m → length m ≡ size) → ((m : List ℕ) → may_be y m → length m ≡ size)
      → ((m : List ℕ) × may_be y m) → ServesInPhase shared may_be stored asked x d count y d' → (n : ℕ) → P x n d
      → P y (n + count) d'
  phase_keeps may_be x d count y d' sized sized' some (inl p) n h =
      let (found, was, rest) = p.1 some.0 some.1 in
      let (left, is, did) = rest in
      let long : length left ≡ size = sym (seen_long shared left some.0 is) ∙ sized' some.0 some.1 in
      subst (λ k. P y (n + k) d') (sym p.0)
      (step x y n 1 found left d d' (sized found was) long h did.serves did.stores)
  phase_keeps may_be x d count y d' sized sized' some (inr (inl p)) n h =
      let (found, was, rest) = p.1.each_seen some.0 some.1 in
      let (left, is, did) = rest in
      let long : length left ≡ size = sym (seen_long shared left some.0 is) ∙ sized' some.0 some.1 in
      subst (λ k. P y (n + k) d') (sym p.0)
      (step x y n 1 found left d d' (sized found (p.1.stays found was)) long h did.serves did.stores)
  phase_keeps may_be x d count y d' sized sized' some (inr (inr p)) n h =
      let (found, was, rest) = p.follows some.0 some.1 in
      let (left, is, did) = rest in
      let long : length left ≡ size = sym (seen_long shared left some.0 is) ∙ sized' some.0 some.1 in
      let size_found : length found ≡ size = sized found (p.stays found was) in
      let (first, stood, then) = p.takes found was in
      let (between, so, took) = then in
      let size_between : length between ≡ size = sym (seen_long shared between found so) ∙ size_found in
      let one = step x p.read n 1 first between d p.taken (sized first stood) size_between h took.serves took.stores in
      let all = step p.read y (n + 1) p.later found left p.taken d' size_found long one did.serves did.stores in
      subst (λ k. P y k d') (sum_is n p.later count p.counted) all

-- Steadiness

steady_more : AnyStand → (asked : ℕ → Bool) (shared : Bool) (size k : ℕ) (found left : List ℕ) (v u : PlainDevice)
    → length found ≡ size → length left ≡ size → IsSteadyIn shared size v
    → ServesBy asked (standing shared found v) k (standing shared left u) → IsSteadyIn shared size u
steady_more any asked shared size k found left v u lf ll h serves =
    let w = standing shared found v in
    let w' = standing shared left u in
    let s : IsSteady w = h found lf in
    let rooms : map room_of w'.queues ≡ map room_of w.queues =
    ap (λ (z : PlainWorld). map room_of z.queues) serves.is ∙ rooms_along w serves.transitions in
    let steady : IsSteady w' =
    record { whole = whole_by_serving asked w k w' s.whole serves; fits = fits_by w w' rooms (ll ∙ sym lf) s.fits } in
    λ m lm. any_steady any shared left m u (lm ∙ sym ll) steady

-- a phase leaves the device steady, whatever stands in memory
pub steady_phase : AnyStand → (asked : ℕ → Bool) (shared : Bool) (size : ℕ) {X : Type 0} (may_be : X → List ℕ → Type 0)
    (stored : X → X → List Write → Type 0) (x : X) (d : PlainDevice) (count : ℕ) (y : X) (d' : PlainDevice) → ((m : List ℕ) → may_be x m → length m ≡ size)
    → ((m : List ℕ) → may_be y m → length m ≡ size) → ((m : List ℕ) × may_be y m)
    → ServesInPhase shared may_be stored asked x d count y d' → IsSteadyIn shared size d → IsSteadyIn shared size d'
steady_phase any asked shared size may_be stored x d count y d' sized sized' some served h =
    phase_keeps asked shared size stored (λ j n v. IsSteadyIn shared size v)
    (λ j l n k found left v u lf ll s serves made. steady_more any asked shared size k found left v u lf ll s serves) may_be x d
    count y d' sized sized' some served 0 h

-- Settling

-- so many events were done, each next, which made these writes, and this is the device then with its memory
record SettledAt (asked : ℕ → Bool) (w : PlainWorld) (count : ℕ) (ws : List Write) (x : PlainWorld) : Type 0 where
  turns : List Turn
  settles : LiveSettlesOf asked w turns
  is : live_world w turns ≡ x
  counted : length turns ≡ count
  wrote : writes_along (map occurrence_at turns) ≡ ws

one_more : (n k : ℕ) → n ≡ k → suc n ≡ k + 1
one_more n k e = omega (arith, e)

-- what is next of fewer queues is next of more
widen_next : (asked wide : ℕ → Bool) (w : PlainWorld) (e : Event) → ((q : ℕ) → asked q ≡ true → wide q ≡ true)
    → IsNextLive asked w e → IsNextLive wide w e
widen_next asked wide w e within (inl h) = inl h
widen_next asked wide w e within (inr h) = let (quiet, chain) = h in let (q, on, is) = chain in inr (quiet, (q, within q on, is))

settle_one : (asked wide : ℕ → Bool) → ((q : ℕ) → asked q ≡ true → wide q ≡ true) → (w : PlainWorld) (n : ℕ) (ws : List Write) (x : PlainWorld) (found : List ℕ) (t : Transition)
    → SettledAt wide w n ws x → length found ≡ length x.memory → Happens t (with_memory found x)
    → IsNextOf asked (with_memory found x) (event_of t)
    → SettledAt wide w (n + 1) (ws ++ (action_of t).writes) (after t (with_memory found x))
settle_one asked wide within w n ws x found t s long happens next =
    let back = sym s.is in
    record {
      turns = record { found = found; transition = t } ∷ s.turns;
      settles = (
        s.settles,
        subst (λ (z : PlainWorld). length found ≡ length z.memory) back long,
        subst (λ (z : PlainWorld). Happens t (with_memory found z)) back happens,
        widen_next asked wide (live_world w s.turns) (event_of t) within
            (next_live asked found (live_world w s.turns) (event_of t)
            (subst (λ (z : PlainWorld). IsNextOf asked (with_memory found z) (event_of t)) back next)),
      );
      is = ap (λ (z : PlainWorld). after t (with_memory found z)) s.is;
      counted = one_more (length s.turns) n s.counted;
      wrote = ap (λ (us : List Write). us ++ (action_of t).writes) s.wrote;
    }

add_one : (n k : ℕ) → (n + suc k) + 1 ≡ n + suc (suc k)
add_one n k = omega arith

-- the events that were done on what was found
settle_all : (asked wide : ℕ → Bool) → ((q : ℕ) → asked q ≡ true → wide q ≡ true) → (w : PlainWorld) (n : ℕ) (ws : List Write) (x : PlainWorld) (found : List ℕ) (t : Transition)
    (past : List Transition) → SettledAt wide w n ws x → length found ≡ length x.memory
    → SettlesOf asked (with_memory found x) (t ∷ past)
    → SettledAt wide w (n + suc (length past)) (ws ++ writes_by (t ∷ past)) (world_of (with_memory found x) (t ∷ past))
settle_all asked wide within w n ws x found t [] s long h = settle_one asked wide within w n ws x found t s long h.1 h.2
settle_all asked wide within w n ws x found t (p ∷ past) s long h =
    let y = world_of (with_memory found x) (p ∷ past) in
    let us = writes_by (p ∷ past) in
    let before = settle_all asked wide within w n ws x found p past s long h.0 in
    subst (λ vs. SettledAt wide w (n + suc (suc (length past))) vs (after t y)) (append_assoc ws us (action_of t).writes)
    (subst (λ k. SettledAt wide w k ((ws ++ us) ++ (action_of t).writes) (after t y)) (add_one n (length past))
    (settle_one asked wide within w (n + suc (length past)) (ws ++ us) y y.memory t before refl h.1 h.2))

settle_by : (P Q R : List Write → Type 0) (both : (us ws : List Write) → P us → Q ws → R (us ++ ws)) (asked wide : ℕ → Bool)
    → ((q : ℕ) → asked q ≡ true → wide q ≡ true) → (shared : Bool) (size : ℕ) (w : PlainWorld) (n k : ℕ) (found left : List ℕ) (v u : PlainDevice)
    → length found ≡ size → length left ≡ size → SettledLive wide P shared size w n v → (ts : List Transition)
    → SettlesOf asked (standing shared found v) ts → standing shared left u ≡ world_of (standing shared found v) ts
    → length ts ≡ k → Q (writes_by ts) → SettledLive wide R shared size w (n + k) u
settle_by P Q R both asked wide within shared size w n k found left v u lf ll s [] h is many made =
    let same : u ≡ v = ap device_of is in
    let none : n ≡ n + k = omega (arith, many) in
    let us = writes_along (map occurrence_at s.turns) in
    record {
      turns = s.turns;
      settles = s.settles;
      stood = s.stood;
      long = s.long;
      is = s.is ∙ ap (λ (z : PlainDevice). standing shared s.stood z) (sym same);
      counted = s.counted ∙ none;
      stores = subst R (append-nil us) (both us [] s.stores made);
    }
settle_by P Q R both asked wide within shared size w n k found left v u lf ll s (t ∷ past) h is many made =
    let us = writes_along (map occurrence_at s.turns) in
    let at : SettledAt wide w n us (standing shared s.stood v) =
    record { turns = s.turns; settles = s.settles; is = s.is; counted = s.counted; wrote = refl } in
    let all = settle_all asked wide within w n us (standing shared s.stood v) found t past at (lf ∙ sym s.long) h in
    record {
      turns = all.turns;
      settles = all.settles;
      stood = left;
      long = ll;
      is = all.is ∙ sym is;
      counted = all.counted ∙ ap (λ j. n + j) many;
      stores = subst R (sym all.wrote) (both us (writes_by (t ∷ past)) s.stores made);
    }

-- a phase goes on
pub settle_phase : {X S : Type 0} (known : X → S) (storing : S → List Store → S)
    (both : (s : S) (a b : List Store) → storing (storing s a) b ≡ storing s (a ++ b)) (asked wide : ℕ → Bool)
    → ((q : ℕ) → asked q ≡ true → wide q ≡ true) → (shared : Bool) (size : ℕ) (may_be : X → List ℕ → Type 0) (first x : X) (d : PlainDevice) (count : ℕ) (y : X) (d' : PlainDevice)
    → ((m : List ℕ) → may_be x m → length m ≡ size) → ((m : List ℕ) → may_be y m → length m ≡ size)
    → ((m : List ℕ) × may_be y m) → ServesInPhase shared may_be (Stored known storing) asked x d count y d'
    → (w : PlainWorld) (n : ℕ) → SettledLive wide (Stored known storing first x) shared size w n d
    → SettledLive wide (Stored known storing first y) shared size w (n + count) d'
settle_phase known storing both asked wide within shared size may_be first x d count y d' sized sized' some served w n s =
    phase_keeps asked shared size (Stored known storing)
    (λ j k v. SettledLive wide (Stored known storing first j) shared size w k v)
    (λ j l i k found left v u lf ll h serves made.
    settle_by (Stored known storing first j) (Stored known storing j l) (Stored known storing first l)
    (λ us ws p q. both_known known storing both first j l us ws p q) asked wide within shared size w i k found left v u lf ll h
    serves.transitions serves.settles serves.is serves.counted made) may_be x d count y d' sized sized' some served n s

-- nothing was done yet
pub settled_none : (asked : ℕ → Bool) (stored : List Write → Type 0) (shared : Bool) (size : ℕ) (a : List ℕ) (d : PlainDevice)
    → stored [] → length a ≡ size → SettledLive asked stored shared size (standing shared a d) 0 d
settled_none asked stored shared size a d nothing long =
    record { turns = []; settles = tt; stood = a; long = long; is = refl; counted = refl; stores = nothing }

-- what follows of what was stored
settled_maps : (asked : ℕ → Bool) (P Q : List Write → Type 0) (shared : Bool) (size : ℕ) (w : PlainWorld) (n : ℕ)
    (d d' : PlainDevice) → d' ≡ d → ((ws : List Write) → P ws → Q ws) → SettledLive asked P shared size w n d
    → SettledLive asked Q shared size w n d'
settled_maps asked P Q shared size w n d d' same follows s =
    record {
      turns = s.turns;
      settles = s.settles;
      stood = s.stood;
      long = s.long;
      is = s.is ∙ ap (λ (z : PlainDevice). standing shared s.stood z) (sym same);
      counted = s.counted;
      stores = follows (writes_along (map occurrence_at s.turns)) s.stores;
    }

-- where a look stored nothing, the same was stored
pub settled_look : {X S : Type 0} (known : X → S) (storing : S → List Store → S) (none : (s : S) → storing s [] ≡ s)
    (asked : ℕ → Bool) (shared : Bool) (size : ℕ) (w : PlainWorld) (n : ℕ) (d d' : PlainDevice) (x z y : X) → d' ≡ d
    → Stored known storing z y [] → SettledLive asked (Stored known storing x z) shared size w n d
    → SettledLive asked (Stored known storing x y) shared size w n d'
settled_look known storing none asked shared size w n d d' x z y same still s =
    settled_maps asked (Stored known storing x z) (Stored known storing x y) shared size w n d d' same
    (λ ws h. still ∙ none (known z) ∙ h) s

-- Rounds

steps_more : (n : ℕ) (r : LiveRound) (past : List LiveRound) → sum_by (λ (j : LiveRound). j.steps) past ≡ n
    → sum_by (λ (j : LiveRound). j.steps) (r ∷ past) ≡ n + r.steps
steps_more n r past e = omega (arith, sum_by-cons (λ (j : LiveRound). j.steps) r past, e)

none_more : (n : ℕ) → n ≡ n + 0
none_more n = omega arith

sum_again : (n j k : ℕ) → (n + j) + k ≡ n + (j + k)
sum_again n j k = omega arith

few_none : 0 ≤ 15
few_none = omega arith

module _ {X : Type 0} (shared : Bool) (begins : X → X → Type 0) (may_be : X → List ℕ → Type 0)
    (stored : X → X → List Write → Type 0) where
  pub rounds_none : (asked : ℕ → Bool) (x : PlainLive X) → ServesLiveBy shared begins may_be stored asked x 0 x
  rounds_none asked x = record { rounds = []; serves = refl; counted = refl }

  -- so many events, and so many rounds in a row that may have left out a queue
  abbrev pub RoundsTo : (ℕ → Bool) → PlainLive X → ℕ → ℕ → PlainLive X → Type 0
  RoundsTo asked first n j y =
      (t : ServesLiveBy shared begins may_be stored asked first n y) × (narrow_rounds t.rounds ≡ j)

  -- one round more, which asked all queues of the call
  pub rounds_all : (asked : ℕ → Bool) (first x y : PlainLive X) (n k : ℕ) → ServesLiveBy shared begins may_be stored asked first n x
      → RoundServes shared begins may_be stored asked x k y → RoundsTo asked first (n + k) 0 y
  rounds_all asked first x y n k h did =
      let r : LiveRound = record { steps = k; asks = asked; all = true } in
      let within : AsksWithin asked r = record { within = λ q on. on; all = λ on q. refl } in (
        record {
          rounds = r ∷ h.rounds;
          serves = (x, h.serves, within, few_none, did);
          counted = steps_more n r h.rounds h.counted;
        },
        refl,
      )

  -- one that asked a queue of it alone
  pub rounds_one : (asked : ℕ → Bool) (first x y : PlainLive X) (number n k j : ℕ) → asked number ≡ true → j + 1 ≤ 15
      → RoundsTo asked first n j x → RoundOn shared begins may_be stored number x k y → RoundsTo asked first (n + k) (j + 1) y
  rounds_one asked first x y number n k j on few (h, row) (asks, only, did) =
      let r : LiveRound = record { steps = k; asks = asks; all = false } in
      let within : AsksWithin asked r =
      record {
        within = λ q is. subst (λ (i : ℕ). asked i ≡ true) (sym (only q is)) on;
        all = λ all. absurd (true≢false (sym all));
      } in (
        record {
          rounds = r ∷ h.rounds;
          serves = (x, h.serves, within, subst (λ (i : ℕ). i + 1 ≤ 15) (sym row) few, did);
          counted = steps_more n r h.rounds h.counted;
        },
        ap (λ (i : ℕ). i + 1) row,
      )

  -- a row of so many rounds of one queue
  abbrev pub RowSoFar : ℕ → PlainLive X → ℕ → ℕ → PlainLive X → Type 0
  RowSoFar number x count j y =
      (asked : ℕ → Bool) → asked number ≡ true → (first : PlainLive X) (n : ℕ) → RoundsTo asked first n 0 x
      → RoundsTo asked first (n + count) j y

  pub row_none : (number : ℕ) (x : PlainLive X) → RowSoFar number x 0 0 x
  row_none number x = λ asked on first n h. subst (λ (i : ℕ). RoundsTo asked first i 0 x) (none_more n) h

  pub row_next : (number : ℕ) (x z y : PlainLive X) (count k j : ℕ) → j + 1 ≤ 15 → RowSoFar number x count j z
      → RoundOn shared begins may_be stored number z k y → RowSoFar number x (count + k) (j + 1) y
  row_next number x z y count k j few h did =
      λ asked on first n none.
      subst (λ (i : ℕ). RoundsTo asked first i (j + 1) y) (sum_again n count k)
      (rounds_one asked first z y number (n + count) k j on few (h asked on first n none) did)

  pub row_serves : (number : ℕ) (x y : PlainLive X) (count j : ℕ) → RowSoFar number x count j y
      → RowServes shared begins may_be stored number x count y
  row_serves number x y count j h = λ asked on first n t none. (h asked on first n (t, none)).0

  -- a round that asked all queues, with no row behind it
  pub behind_none : (asked : ℕ → Bool) (size : ℕ) (x : PlainLive X) (one : ℕ)
      → RowBehind shared begins may_be stored asked size x one one x
  behind_none asked size x one = record { serves = λ first n h none. h; settles = λ first w n h. h }

  -- with a row
  pub behind_row : (asked : ℕ → Bool) (size number : ℕ) (x y : PlainLive X) (one count : ℕ) → asked number ≡ true
      → RowServes shared begins may_be stored number x count y → RowSettles stored number shared size x count y
      → RowBehind shared begins may_be stored asked size x one (one + count) y
  behind_row asked size number x y one count on serves settles =
      record {
        serves = λ first n h none.
            subst (λ (i : ℕ). ServesLiveBy shared begins may_be stored asked first i y) (sum_again n one count)
            (serves asked on first (n + one) h none);
        settles = λ first w n h.
            subst (λ (i : ℕ). SettledLive asked (stored first y.memory) shared size w i y.device) (sum_again n one count)
            (settles asked on first w (n + one) h);
      }

  -- and the round before it
  pub turn_row : (asked : ℕ → Bool) (size : ℕ) (x z y : PlainLive X) (one all : ℕ)
      → RoundServes shared begins may_be stored asked x one z → RowBehind shared begins may_be stored asked size z one all y
      → (first : PlainLive X) (n : ℕ) → ServesLiveBy shared begins may_be stored asked first n x
      → ServesLiveBy shared begins may_be stored asked first (n + all) y
  turn_row asked size x z y one all did row first n h =
      let (t, none) = rounds_all asked first x z n one h did in row.serves first n t none

-- Settling of a row

pub row_settles_none : {X : Type 0} (stored : X → X → List Write → Type 0) (number : ℕ) (shared : Bool) (size : ℕ) (x : PlainLive X)
    → RowSettles stored number shared size x 0 x
row_settles_none stored number shared size x =
    λ asked on first w n h.
    subst (λ (i : ℕ). SettledLive asked (stored first x.memory) shared size w i x.device) (none_more n) h

pub row_settles_next : {X : Type 0} (stored : X → X → List Write → Type 0) (number : ℕ) (shared : Bool) (size : ℕ) (x z y : PlainLive X)
    (count k : ℕ) → RowSettles stored number shared size x count z → RowSettles stored number shared size z k y
    → RowSettles stored number shared size x (count + k) y
row_settles_next stored number shared size x z y count k h one =
    λ asked on first w n s.
    subst (λ (i : ℕ). SettledLive asked (stored first y.memory) shared size w i y.device) (sum_again n count k)
    (one asked on first w (n + count) (h asked on first w n s))

pub row_settles_look : {X S : Type 0} (known : X → S) (storing : S → List Store → S) (none : (s : S) → storing s [] ≡ s)
    (number : ℕ) (shared : Bool) (size : ℕ) (x y : PlainLive X) → y.device ≡ x.device → Stored known storing x.memory y.memory []
    → RowSettles (Stored known storing) number shared size x 0 y
row_settles_look known storing none number shared size x y same still =
    λ asked on first w n h.
    subst (λ (i : ℕ). SettledLive asked (Stored known storing first y.memory) shared size w i y.device) (none_more n)
    (settled_look known storing none asked shared size w n x.device y.device first x.memory y.memory same still h)

-- a round of one queue goes on
pub row_settles_one : {X : Type 0} (stored : X → X → List Write → Type 0) (asks : ℕ → Bool) (number : ℕ) (shared : Bool) (size : ℕ)
    (x : PlainLive X) (s : Progress) (y : PlainLive X) → ((q : ℕ) → asks q ≡ true → q ≡ number)
    → SettlesNext stored asks shared size x (Ok (Some s)) y → RowSettles stored number shared size x s.steps y
row_settles_one stored asks number shared size x s y only next =
    λ asked on first w n h.
    next asked (λ q is. subst (λ (i : ℕ). asked i ≡ true) (sym (only q is)) on) first w n h

-- Where nothing is left, and where something is

rest_at : (asked : ℕ → Bool) (w : PlainWorld) → IsReached w → IsQuietOf asked w → IsAtRestOf asked w
rest_at asked w r quiet = settles_of_to_rest asked r.old r.trace w [] r.reached tt quiet

pub none_at : (asked : ℕ → Bool) (w : PlainWorld) → IsReached w → IsQuietOf asked w → HasNone asked w
none_at asked w r quiet = (quiet, rest_at asked w r quiet)

pub leaves_by : (asked : ℕ → Bool) (b : Bool) (w : PlainWorld) → IsReached w → Denies (IsQuietOf asked w) b
    → LeavesBy asked b w
leaves_by asked true w r h = elim (next_or_quiet_of asked w) [
  | inl next ↦ next
  | inr quiet ↦ absurd (h quiet)
]
leaves_by asked false w r h = none_at asked w r h

-- so of a look

pub looks_next : {X : Type 0} (shared : Bool) (begins : X → X → Type 0) (may_be : X → List ℕ → Type 0)
    (stored : X → X → List Write → Type 0) (asked : ℕ → Bool) (b : Bool) (x y : PlainLive X) → b ≡ true → Looks shared begins may_be stored (LeavesBy asked b) x y
    → Looks shared begins may_be stored (HasNext asked) x y
looks_next shared begins may_be stored asked true x y on h = h
looks_next shared begins may_be stored asked false x y on h = absurd (cc)

pub looks_none : {X : Type 0} (shared : Bool) (begins : X → X → Type 0) (may_be : X → List ℕ → Type 0)
    (stored : X → X → List Write → Type 0) (asked : ℕ → Bool) (b : Bool) (x y : PlainLive X) → b ≡ false → Looks shared begins may_be stored (LeavesBy asked b) x y
    → Looks shared begins may_be stored (HasNone asked) x y
looks_none shared begins may_be stored asked true x y off h = absurd (cc)
looks_none shared begins may_be stored asked false x y off h = h

-- A round

-- nothing applies before a point, of the device by another name
pub before_same : {X : Type 0} (shared : Bool) (m : List ℕ) (c : Cursor) (x y : PlainLive X) → x ≡ y
    → NoneBefore c (standing shared m y.device) → NoneBefore c (standing shared m x.device)
before_same {X} shared m c x y same h =
    subst (λ (z : PlainLive X). NoneBefore c (standing shared m z.device)) (sym same) h

-- it leaves the device steady
pub steady_round : AnyStand → (asked : ℕ → Bool) (shared : Bool) (size : ℕ) {X : Type 0} (may_be : X → List ℕ → Type 0)
    (stored : X → X → List Write → Type 0) (most : ℕ) (x : X) (d : PlainDevice) (r : Result (Option Progress) NoMemory) (y : X) (d' : PlainDevice)
    → ((m : List ℕ) → may_be x m → length m ≡ size) → ((m : List ℕ) → may_be y m → length m ≡ size)
    → ((m : List ℕ) × may_be y m) → TurnsNextIn shared may_be stored asked most x d r y d' → IsSteadyIn shared size d
    → IsSteadyIn shared size d'
steady_round any asked shared size may_be stored most x d (Ok (Some s)) y d' sized sized' some t h =
    steady_phase any asked shared size may_be stored x d s.steps y d' sized sized' some t.serves h
steady_round any asked shared size may_be stored most x d (Ok None) y d' sized sized' some t h =
    subst (IsSteadyIn shared size) (sym t.0) h
steady_round any asked shared size may_be stored most x d (Err e) y d' sized sized' some t h =
    subst (IsSteadyIn shared size) (sym t.0) h

-- it goes on
pub settle_round : {X S : Type 0} (known : X → S) (storing : S → List Store → S)
    (both : (s : S) (a b : List Store) → storing (storing s a) b ≡ storing s (a ++ b)) (asked : ℕ → Bool) (shared : Bool)
    (size : ℕ) (may_be : X → List ℕ → Type 0) (most : ℕ) (x : X) (d : PlainDevice) (begun : X)
    (r : Result (Option Progress) NoMemory) (y : X) (d' : PlainDevice) → known begun ≡ known x
    → ((m : List ℕ) → may_be begun m → length m ≡ size) → ((m : List ℕ) → may_be y m → length m ≡ size)
    → ((m : List ℕ) × may_be y m) → TurnsNextIn shared may_be (Stored known storing) asked most begun d r y d'
    → SettlesNext (Stored known storing) asked shared size (record { memory = x; device = d }) r
    (record { memory = y; device = d' })
settle_round known storing both asked shared size may_be most x d begun (Ok (Some s)) y d' same sized sized' some t =
    λ wide within first w n h.
    settle_phase known storing both asked wide within shared size may_be first begun d s.steps y d' sized sized' some t.serves w n
    (settled_maps wide (Stored known storing first x) (Stored known storing first begun) shared size w n d d refl
    (λ ws made. same ∙ made) h)
settle_round known storing both asked shared size may_be most x d begun (Ok None) y d' same sized sized' some t = tt
settle_round known storing both asked shared size may_be most x d begun (Err e) y d' same sized sized' some t = tt

-- it is a round, in a phase that began with it
pub turns_round : {X S : Type 0} (known : X → S) (storing : S → List Store → S) (none : (s : S) → storing s [] ≡ s)
    (shared : Bool) (begins : X → X → Type 0) (may_be : X → List ℕ → Type 0) (asked : ℕ → Bool)
    (most : ℕ) (x : X) (d : PlainDevice) (begun : X) (r : Result (Option Progress) NoMemory) (y : X) (d' : PlainDevice)
    → begins x begun → known begun ≡ known x → ((m : List ℕ) → may_be begun m → IsReached (standing shared m d))
    → TurnsNextIn shared may_be (Stored known storing) asked most begun d r y d'
    → TurnsRound shared begins may_be (Stored known storing) asked most (record { memory = x; device = d }) r
    (record { memory = y; device = d' })
turns_round known storing none shared begins may_be asked most x d begun (Ok (Some s)) y d' b k reached t =
    record {
      some = t.some;
      few = t.few;
      begun = begun;
      begins_so = b;
      none = none_known known storing none x begun k;
      serves = t.serves;
      before = t.before;
    }
turns_round known storing none shared begins may_be asked most x d begun (Ok None) y d' b k reached t =
    record {
      begun = begun;
      begins_so = b;
      same = t.0;
      stays = λ m may. (t.1 m may).0;
      stores = on_known known storing x begun k y [] t.2;
      finds = λ m may.
          let f = t.1 m may in
          subst (λ k. HasNone asked (standing shared m k)) (sym t.0) (none_at asked (standing shared m d) (reached m f.0) f.1);
    }
turns_round known storing none shared begins may_be asked most x d begun (Err e) y d' b k reached t =
    record {
      begun = begun;
      begins_so = b;
      same = t.0;
      stays = λ m may. (t.1 m may).0;
      stores = on_known known storing x begun k y [] t.2;
      finds = λ m may.
          subst (λ k. MayWantFirst (standing shared m k) (order_for asked (standing shared m k))) (sym t.0) (t.1 m may).1;
    }

-- The promise

-- what is served runs, changes something, and is short
abbrev pub AllLiveServed : Type 0
AllLiveServed =
    (asked : ℕ → Bool) (w : PlainWorld) (more : List Turn) (m : List ℕ) → LiveSettlesOf asked w more
    → length m ≡ length (live_world w more).memory
    → LiveRuns w (map occurrence_at more) (with_memory m (live_world w more))

abbrev pub AllLiveChange : Type 0
AllLiveChange =
    (asked : ℕ → Bool) (w : PlainWorld) (more : List Turn) → LiveSettlesOf asked w more
    → count_changes (map occurrence_at more) ≡ length more

abbrev pub AllLiveShort : Type 0
AllLiveShort =
    (asked : ℕ → Bool) (old : PlainWorld) (trace : List Occurrence) (w : PlainWorld) (more : List Turn)
    → Reached old trace w → LiveSettlesOf asked w more → IsShortLive w more

told_at : (turns : List Turn) → map (λ (o : Occurrence). o.event) (map occurrence_at turns) ≡ map event_at turns
told_at [] = refl
told_at (t ∷ past) = ap (λ es. event_at t ∷ es) (told_at past)

pub stores_served : AllArePromised → AllGoOn → AllLiveRuns → AllLiveServed → AllLiveChange → AllLiveShort
    → (stored : List Write → Type 0) (asked : ℕ → Bool) (shared : Bool) (size : ℕ) (d : PlainDevice) (n : ℕ) (d' : PlainDevice)
    → ((a : List ℕ) → length a ≡ size → IsReached (standing shared a d))
    → ((a : List ℕ) → length a ≡ size → SettledLive asked stored shared size (standing shared a d) n d')
    → StoresServed stored asked shared size d n d'
stores_served promised go live served change short stored asked shared size d n d' reached settled =
    λ a b la lb.
    let w = standing shared a d in
    let w' = standing shared b d' in
    let s = settled a la in
    let r = reached a la in
    let os = map occurrence_at s.turns in
    let is_b : with_memory b (live_world w s.turns) ≡ w' = ap (λ (z : PlainWorld). with_memory b z) s.is in
    let long : length b ≡ length (live_world w s.turns).memory =
    lb ∙ sym s.long ∙ ap (λ (z : PlainWorld). length z.memory) (sym s.is) in
    let runs : LiveRuns w os w' = subst (λ z. LiveRuns w os z) is_b (served asked w s.turns b s.settles long) in
    let full = live w os w' runs in
    let reaches : (old : PlainWorld) (past : List Occurrence) → Reached old past w → Reached old (full.0 ++ past) w' =
    λ old past h. go old past full.0 w w' h full.2 in (
      record {
        turns = s.turns;
        settles = s.settles;
        is = sym is_b;
        counted = s.counted;
        short = short asked r.old r.trace w s.turns r.reached s.settles;
        goes_on = record {
          more = os;
          told = told_at s.turns;
          counted = change asked w s.turns s.settles ∙ s.counted;
          full = full.0;
          refilled = full.1;
          reaches = reaches;
          kept = λ old past h. promised old (full.0 ++ past) w' (reaches old past h);
        };
      },
      s.stores,
    )

pub goes_on_served : AllArePromised → AllGoOn → AllLiveRuns → AllLiveServed → AllLiveChange → AllLiveShort
    → (stored : List Write → Type 0) (asked : ℕ → Bool) (shared : Bool) (size : ℕ) (d : PlainDevice) (n : ℕ) (d' : PlainDevice)
    → ((a : List ℕ) → length a ≡ size → IsReached (standing shared a d))
    → ((a : List ℕ) → length a ≡ size → SettledLive asked stored shared size (standing shared a d) n d')
    → GoesOnServedLive asked shared size d n d'
goes_on_served promised go live served change short stored asked shared size d n d' reached settled =
    λ a b la lb.
    (stores_served promised go live served change short stored asked shared size d n d' reached settled a b la lb).0

-- One bit

only_pow : (k q : ℕ) (b : Bool) → (q == k) ≡ b → (bit_at (2 ^ k) q == 1) ≡ true → q ≡ k
only_pow k q true e is = grind (arith, nat_tests, e)
only_pow k q false e is =
    let other : bit_at (2 ^ k) q ≡ 0 = bit_at-pow_other k q (grind (arith, nat_tests, e)) in
    absurd (true≢false (sym is ∙ ap (λ (n : ℕ). n == 1) other))

-- a bit asks its queue alone
pub one_bit : (k : ℕ) → k < 32 → AsksOnly (asks (1 * 2 ^ k % 2 ^ 32)) k
one_bit k few =
    subst (λ (n : ℕ). AsksOnly (asks n) k) (sym (one_shl k 32 few))
    (record { on = ap (λ (n : ℕ). n == 1) (bit_at-pow_same k); only = λ q is. only_pow k q (q == k) refl is })
