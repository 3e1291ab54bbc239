-- A device on a memory that its guest writes at any time goes on as its traces do.
use Rattle.std.proofs.Common.{◌≡◌, ℕ, ◌+◌, Bool, true, false, List, [], ◌∷◌, ◌++◌, length, Result, Ok, Err, refl, sym, ap, ◌∙◌, subst, take, Some, true≢false, arith}
use Rattle.std.specs.Prelude.{IsErr, slice_get}
use Rattle.foundation.specs.declared.NoMemory.{NoMemory}
use Rattle.guest_mem.specs.Stores.{Store}
use Rattle.ring_core.specs.Writes.{Write}
use Rattle.device_model.specs.Parts.{IsSeen}
use Rattle.device_model.specs.World.{PlainWorld}
use Rattle.device_model.specs.Events.{Event, plain_event}
use Rattle.device_model.specs.declared.event.Event as declared
use Rattle.device_model.specs.Happens.{Occurrence, Reached, Runs, occurrence_of}
use Rattle.device_model.specs.Transitions.{Transition, action_of}
use Rattle.device_model.specs.Turns.{IsStep, count_changes}
use Rattle.device_model.specs.Live.{with_memory, refill, IsRefilled, LiveRuns}
use Rattle.device_model.proofs.Turning.{may, changes}
use Rattle.device_model.proofs.Applying.{idles}
use Rattle.device_steps.specs.Apart.{PlainDevice, standing, FitsIn, Stored, TurnsSeen, TurnsInOrWants}
use Rattle.device_steps.specs.Inner.Apart.{IsSoundIn, HasFew}
use Rattle.world.specs.LiveWorld.{PlainLive, GoesOnLive, IsSteadyIn, RunsPromised, StepsAll, StepsEach, StepsPromised, writes_along, StoresAlong, StepStores, RunStores}
use Rattle.world.specs.Inner.LiveWorld.{RanLive, StepRan}
use Rattle.device_steps.specs.Sound.{IsSteady}
use Rattle.device_steps.specs.Inner.Sound.{AreSound}
use Rattle.device_steps.proofs.InMemory.{turned_or, few_in, has_few, both_known}
use Rattle.world.proofs.Promising.{AllArePromised, AllGoOn}
use Rattle.world.proofs.Reaching.{steady_by_result}
use Rattle.world.specs.Steps.{events_of}
use Rattle.world.proofs.Runs.{bit, count_on, events_next}

-- any bytes may come to stand in memory
abbrev pub AnyStand : Type 0
AnyStand =
    (old : PlainWorld) (trace : List Occurrence) (w : PlainWorld) (m : List ℕ) → length m ≡ length w.memory
    → Reached old trace w → Reached old (occurrence_of (refill m) ∷ trace) (with_memory m w)

-- a run with such writes is a run
abbrev pub AllLiveRuns : Type 0
AllLiveRuns =
    (old : PlainWorld) (trace : List Occurrence) (w : PlainWorld) → LiveRuns old trace w
    → (full : List Occurrence) × IsRefilled trace full × Runs old full w

-- memory is as long as it is seen
pub seen_long : (shared : Bool) (left seen : List ℕ) → IsSeen shared left seen → length seen ≡ length left
seen_long false left seen is = ap (λ m. length m) is
seen_long true left seen is = is

-- Steadiness

-- what is steady with some bytes is so with any
pub any_steady : AnyStand → (shared : Bool) (a b : List ℕ) (d : PlainDevice) → length b ≡ length a → IsSteady (standing shared a d)
    → IsSteady (standing shared b d)
any_steady any shared a b d long h =
    let r = h.whole.reached in
    record {
      whole = record {
        reached = record {
          old = r.old;
          trace = occurrence_of (refill b) ∷ r.trace;
          reached = any r.old r.trace (standing shared a d) b long r.reached;
        };
        few = few_in shared b d (has_few shared a d h.whole.few);
      };
      fits = λ i q at. h.fits i q at ∙ sym long;
    }

-- an event leaves it so
pub steady_live : AnyStand → (shared : Bool) (size : ℕ) (before after : List ℕ → Type 0) (stored : List Write → Type 0)
    (d : PlainDevice) (e : Event) (r : Result Bool NoMemory) (d' : PlainDevice) → ((m : List ℕ) → before m → length m ≡ size)
    → ((m : List ℕ) → after m → length m ≡ size) → ((m : List ℕ) × after m) → IsSteadyIn shared size d
    → TurnsInOrWants shared before after stored d e r d' → IsSteadyIn shared size d'
steady_live any shared size before after stored d e r d' sized sized' some h t =
    let (found, was, rest) = t some.0 some.1 in
    let (left, is, turn) = rest in
    let long : length left ≡ size = sym (seen_long shared left some.0 is) ∙ sized' some.0 some.1 in
    let there = sized found was in
    let s = steady_by_result (standing shared found d) e r (standing shared left d') (long ∙ sym there) (h found there)
    (turned_or stored some.0 (standing shared found d) e r (standing shared left d') turn) in
    λ m size_m. any_steady any shared left m d' (size_m ∙ sym long) s

-- so it is sound whatever memory may be
pub sound_live : AreSound → (shared : Bool) (size : ℕ) (may_be : List ℕ → Type 0) (d : PlainDevice)
    → ((m : List ℕ) → may_be m → length m ≡ size) → IsSteadyIn shared size d → IsSoundIn shared may_be d
sound_live are shared size may_be d sized h = λ m may. are (standing shared m d) (h m (sized m may)).whole.reached

pub fits_live : (shared : Bool) (size : ℕ) (d : PlainDevice) (m : List ℕ) → length m ≡ size → IsSteadyIn shared size d
    → FitsIn size d
fits_live shared size d m long h = λ i q at. (h m long).fits i q at ∙ long

pub few_live : (shared : Bool) (size : ℕ) (d : PlainDevice) (m : List ℕ) → length m ≡ size → IsSteadyIn shared size d → HasFew d
few_live shared size d m long h = has_few shared m d (h m long).whole.few

-- Runs

-- nothing ran yet
pub ran_none : (wrote : List Write → Type 0) (shared : Bool) (size : ℕ) (d : PlainDevice) → wrote []
    → RanLive wrote shared size d [] 0 d
ran_none wrote shared size d none =
    λ a b la lb. record { more = []; told = refl; counted = refl; runs = (b, lb ∙ sym la, refl); writes = none }

-- a step whose action made the writes that were stored
record StepSeen (stored : List Write → Type 0) (w : PlainWorld) (e : Event) (b : Bool) (w' : PlainWorld) : Type 0 where
  step : IsStep w e b w'
  writes : stored step.action.writes

step_seen : (stored : List Write → Type 0) (n : List ℕ) (w : PlainWorld) (e : Event) (b : Bool) (w' : PlainWorld)
    → TurnsSeen stored n w e b w' → StepSeen stored w e b w'
step_seen stored n w e true w' t =
    record {
      step = record {
        action = action_of t.0;
        step = record { transition = t.0; event = t.1; action = refl; may = may t.0 w t.2; is = t.3 };
        told = changes t.0 w t.2;
      };
      writes = t.5;
    }
step_seen stored n w e false w' t =
    record {
      step = record {
        action = action_of (Transition.Idle e);
        step = record {
          transition = Transition.Idle e;
          event = refl;
          action = refl;
          may = idles w e t.1;
          is = t.0;
        };
        told = refl;
      };
      writes = t.3;
    }

-- one turn more
pub ran_next : (P Q R : List Write → Type 0) (both : (us ws : List Write) → P us → Q ws → R (us ++ ws)) (shared : Bool) (size : ℕ)
    (d : PlainDevice) (es : List Event) (n : ℕ) (v : PlainDevice) (found left seen : List ℕ) (e : Event) (b : Bool)
    (u : PlainDevice) → RanLive P shared size d es n v → length found ≡ size → length left ≡ size
    → TurnsSeen Q seen (standing shared found v) e b (standing shared left u)
    → RanLive R shared size d (e ∷ es) (n + bit b) u
ran_next P Q R both shared size d es n v found left seen e changed u ran before behind t =
    let w = standing shared found v in
    let w' = standing shared left u in
    let s = step_seen Q seen w e changed w' t in
    let step = s.step in
    λ a b la lb.
    let r = ran a found la before in
    record {
      more = record { event = e; action = step.action } ∷ r.more;
      told = ap (λ xs. e ∷ xs) r.told;
      counted = count_on step.action.changed changed (count_changes r.more) n step.told r.counted;
      runs = (standing shared found v, standing shared left u, b, r.runs, step.step, lb ∙ sym behind, refl);
      writes = both (writes_along r.more) step.action.writes r.writes s.writes;
    }

-- one event more
pub ran_on : (P Q R : List Write → Type 0) (both : (us ws : List Write) → P us → Q ws → R (us ++ ws)) (shared : Bool)
    (size : ℕ) (before after : List ℕ → Type 0) (d : PlainDevice) (es : List Event) (n : ℕ) (v : PlainDevice) (e : Event)
    (b : Bool) (u : PlainDevice) → ((m : List ℕ) → before m → length m ≡ size)
    → ((m : List ℕ) → after m → length m ≡ size) → ((m : List ℕ) × after m) → RanLive P shared size d es n v
    → TurnsInOrWants shared before after Q v e (Ok b) u → RanLive R shared size d (e ∷ es) (n + bit b) u
ran_on P Q R both shared size before after d es n v e b u sized sized' some ran t =
    let (found, was, rest) = t some.0 some.1 in
    let (left, is, turn) = rest in
    ran_next P Q R both shared size d es n v found left some.0 e b u ran (sized found was)
    (sym (seen_long shared left some.0 is) ∙ sized' some.0 some.1) turn

-- a run goes on, the promise is kept, and it made the writes that were stored
pub stores_along : AllArePromised → AllGoOn → AllLiveRuns → (wrote : List Write → Type 0) (shared : Bool) (size : ℕ)
    (d : PlainDevice) (es : List Event) (n : ℕ) (d' : PlainDevice) → RanLive wrote shared size d es n d'
    → StoresAlong wrote shared size d es n d'
stores_along promised go live wrote shared size d es n d' ran =
    λ a b la lb.
    let r = ran a b la lb in
    let w = standing shared a d in
    let w' = standing shared b d' in
    let full = live w r.more w' r.runs in
    let reaches : (old : PlainWorld) (past : List Occurrence) → Reached old past w → Reached old (full.0 ++ past) w' =
    λ old past h. go old past full.0 w w' h full.2 in (
      record {
        more = r.more;
        told = r.told;
        counted = r.counted;
        full = full.0;
        refilled = full.1;
        reaches = reaches;
        kept = λ old past h. promised old (full.0 ++ past) w' (reaches old past h);
      },
      r.writes,
    )

pub goes_on_live : AllArePromised → AllGoOn → AllLiveRuns → (wrote : List Write → Type 0) (shared : Bool) (size : ℕ)
    (d : PlainDevice) (es : List Event) (n : ℕ) (d' : PlainDevice) → RanLive wrote shared size d es n d'
    → GoesOnLive shared size d es n d'
goes_on_live promised go live wrote shared size d es n d' ran =
    λ a b la lb. (stores_along promised go live wrote shared size d es n d' ran a b la lb).0

-- One event

abbrev device_of : PlainWorld → PlainDevice
device_of w =
    record {
      inventory = w.inventory;
      queues = w.queues;
      units = w.units;
      seats = w.seats;
      workers = w.workers;
      aside = w.aside;
      woken = w.woken;
      handed_off = w.handed_off;
      limit = w.limit;
      function = w.function;
      buffers = w.buffers;
      missed = w.missed;
      waiting = w.waiting;
      tells_changes = w.tells_changes;
    }

pub step_ran : {X S : Type 0} (known : X → S) (storing : S → List Store → S)
    (both : (s : S) (a b : List Store) → storing (storing s a) b ≡ storing s (a ++ b)) (shared : Bool) (size : ℕ)
    (before after : List ℕ → Type 0) (x : PlainLive X) (e : Event) (r : Result Bool NoMemory) (y : PlainLive X)
    → ((m : List ℕ) → before m → length m ≡ size) → ((m : List ℕ) → after m → length m ≡ size) → ((m : List ℕ) × after m)
    → TurnsInOrWants shared before after (Stored known storing x.memory y.memory) x.device e r y.device
    → StepRan (Stored known storing) shared size x e r y
step_ran known storing both shared size before after x e (Ok b) y sized sized' some t =
    λ first es n ran.
    ran_on (Stored known storing first.memory x.memory) (Stored known storing x.memory y.memory)
    (Stored known storing first.memory y.memory)
    (λ us ws p q. both_known known storing both first.memory x.memory y.memory us ws p q) shared size before after first.device
    es n x.device e b y.device sized sized' some ran t
step_ran known storing both shared size before after x e (Err fault) y sized sized' some t =
    let (found, was, rest) = t some.0 some.1 in
    let (left, is, turn) = rest in (ap device_of turn.1, turn.3)

one_count : (b : Bool) → 0 + bit b ≡ bit b
one_count b = omega (arith)

pub step_stores : AllArePromised → AllGoOn → AllLiveRuns → {X : Type 0} (stored : X → X → List Write → Type 0) (shared : Bool)
    (size : ℕ) (x : PlainLive X) (e : Event) (r : Result Bool NoMemory) (y : PlainLive X) → stored x.memory x.memory []
    → StepRan stored shared size x e r y → StepStores (stored x.memory y.memory) shared size x.device e r y.device
step_stores promised go live stored shared size x e (Ok b) y none ran =
    let one = ran x [] 0 (ran_none (stored x.memory x.memory) shared size x.device none) in
    stores_along promised go live (stored x.memory y.memory) shared size x.device (e ∷ []) (bit b) y.device
    (subst (λ n. RanLive (stored x.memory y.memory) shared size x.device (e ∷ []) n y.device) (one_count b) one)
step_stores promised go live stored shared size x e (Err fault) y none ran = ran.1

pub step_promised : AllArePromised → AllGoOn → AllLiveRuns → {X : Type 0} (stored : X → X → List Write → Type 0)
    (shared : Bool) (size : ℕ) (x : PlainLive X) (e : Event) (r : Result Bool NoMemory) (y : PlainLive X)
    → stored x.memory x.memory [] → StepRan stored shared size x e r y
    → StepsPromised shared size x.device e r y.device
step_promised promised go live stored shared size x e (Ok b) y none ran =
    λ m k lm lk. (step_stores promised go live stored shared size x e (Ok b) y none ran m k lm lk).0
step_promised promised go live stored shared size x e (Err fault) y none ran = ran.0

-- Lists of events

-- nothing was done yet
pub each_none : {X : Type 0} (Does : X → Event → Result Bool NoMemory → X → Type 0) (x : X) → StepsEach Does x [] 0 x
each_none Does x = (refl, refl)

-- one event more
pub each_next : {X : Type 0} (Does : X → Event → Result Bool NoMemory → X → Type 0) (x y z : X) (xs : List declared.Event)
    (n : ℕ) (e : declared.Event) (b : Bool) → StepsEach Does x (events_of xs) n y → Does y (plain_event e) (Ok b) z
    → StepsEach Does x (events_of (xs ++ e ∷ [])) (n + bit b) z
each_next Does x y z xs n e b h k =
    subst (λ es. StepsEach Does x es (n + bit b) z) (sym (events_next xs e)) (y, n, b, h, k, refl)

-- memory was refused for the next, by whatever it is said
pub all_refused : {X : Type 0} (Does : X → Event → Result Bool NoMemory → X → Type 0) (x z y : X) (events : List declared.Event)
    (k : ℕ) (e : declared.Event) (count : ℕ) (r : Result ℕ NoMemory) → IsErr r → slice_get events k ≡ Some e
    → StepsEach Does x (events_of (take k events)) count z → ((fault : NoMemory) → Does z (plain_event e) (Err fault) y)
    → StepsAll Does x events r y
all_refused Does x z y events k e count (Ok n) is at did wants = absurd (true≢false (sym is))
all_refused Does x z y events k e count (Err fault) is at did wants = (k, e, count, z, at, did, wants fault)

pub run_refused : (shared : Bool) (size : ℕ) (d : PlainDevice) (events : List declared.Event) (k : ℕ) (e : declared.Event)
    (count : ℕ) (r : Result ℕ NoMemory) (d' : PlainDevice) → IsErr r → slice_get events k ≡ Some e
    → GoesOnLive shared size d (events_of (take k events)) count d' → RunsPromised shared size d events r d'
run_refused shared size d events k e count (Ok n) d' is at on = absurd (true≢false (sym is))
run_refused shared size d events k e count (Err fault) d' is at on = (k, e, count, at, on)

pub stores_refused : (wrote : List Write → Type 0) (shared : Bool) (size : ℕ) (d : PlainDevice) (events : List declared.Event)
    (k : ℕ) (e : declared.Event) (count : ℕ) (r : Result ℕ NoMemory) (d' : PlainDevice) → IsErr r
    → slice_get events k ≡ Some e → StoresAlong wrote shared size d (events_of (take k events)) count d'
    → RunStores wrote shared size d events r d'
stores_refused wrote shared size d events k e count (Ok n) d' is at on = absurd (true≢false (sym is))
stores_refused wrote shared size d events k e count (Err fault) d' is at on = (k, e, count, at, on)

pub ran_step : {X : Type 0} (stored : X → X → List Write → Type 0) (shared : Bool) (size : ℕ) (first x : PlainLive X)
    (xs : List declared.Event) (n : ℕ) (e : declared.Event) (b : Bool) (y : PlainLive X)
    → RanLive (stored first.memory x.memory) shared size first.device (events_of xs) n x.device
    → StepRan stored shared size x (plain_event e) (Ok b) y
    → RanLive (stored first.memory y.memory) shared size first.device (events_of (xs ++ e ∷ [])) (n + bit b) y.device
ran_step stored shared size first x xs n e b y ran step =
    subst (λ es. RanLive (stored first.memory y.memory) shared size first.device es (n + bit b) y.device)
    (sym (events_next xs e)) (step first (events_of xs) n ran)

-- where nothing was stored in the end, the same was
pub ran_still : {X S : Type 0} (known : X → S) (storing : S → List Store → S) (none : (s : S) → storing s [] ≡ s)
    (shared : Bool) (size : ℕ) (first d : PlainDevice) (es : List Event) (n : ℕ) (d' : PlainDevice) (x y z : X) → d' ≡ d
    → Stored known storing y z [] → RanLive (Stored known storing x y) shared size first es n d
    → RanLive (Stored known storing x z) shared size first es n d'
ran_still known storing none shared size first d es n d' x y z same still ran =
    subst (λ k. RanLive (Stored known storing x z) shared size first es n k) (sym same)
    (λ a b la lb.
    let r = ran a b la lb in
    record {
      more = r.more;
      told = r.told;
      counted = r.counted;
      runs = r.runs;
      writes = still ∙ none (known y) ∙ r.writes;
    })
