-- What an event's turn in a memory that others may write too says of the order.
use Rattle.std.proofs.Common.{◌≡◌, inl, inr, ℕ, ◌≤◌, Bool, true, false, List, Option, Some, None, Result, Ok, Err, refl, sym, ap, ◌∙◌, subst, [], ◌∷◌, arith}
use Rattle.std.specs.List.{AllByRecursion}
use Rattle.foundation.specs.declared.NoMemory.{NoMemory}
use Rattle.guest_mem.specs.Stores.{Store}
use Rattle.ring_core.specs.Writes.{Write, stores_of}
use Rattle.device_model.specs.Parts.{Completion}
use Rattle.device_model.specs.World.{PlainWorld}
use Rattle.device_model.specs.Events.{Event}
use Rattle.device_model.specs.Transitions.{Transition, event_of, completion_of}
use Rattle.device_model.specs.Happens.{MayWant}
use Rattle.device_model.specs.Applies.{Applies}
use Rattle.device_model.specs.Waking.{IsFetch}
use Rattle.device_model.specs.Order.{IsFirstOf, IsQuietOf, NoneApplies}
use Rattle.phases.specs.InMemory.{EachSeen, ByOneReading}
use Rattle.phases.specs.EventsInMemory.{SeesBy}
use Rattle.phases.proofs.Behind.{each_read}
use Rattle.device_steps.specs.Settling.{order_for, MayWantFirst}
use Rattle.device_steps.specs.Inner.Sound.{IsSound}
use Rattle.device_steps.specs.Apart.{PlainDevice, standing, FitsIn, Stored, TurnsSeen, TurnsInOrWants}
use Rattle.device_steps.specs.Inner.Apart.{TurnsIn, TurnsAlone}
use Rattle.device_steps.specs.Serving.{IsNoticedBy, TakesNoChain, ServesSeen, FollowsSeen, ServesInPhase, writes_by}
use Rattle.device_steps.specs.Inner.Cursors.{TurnsBy, TurnsFirst, StepsNext, Sees, IsNone, IsReadyIn, AtEach, FindsIn, TurnsFirstIn, TurnsFirstAlone, ServesNextIn, TurnsNextIn, FetchesOn}
use Rattle.device_steps.specs.declared.cursor.Cursor.{Cursor}
use Rattle.device_steps.specs.declared.cursor.Progress.{Progress}
use Rattle.device_steps.proofs.InMemory.{each_before, each_from, NeedsNone, alone_seen}
use Rattle.device_steps.proofs.Once.{once_from, once_behind, seen_left}
use Rattle.device_steps.proofs.Choosing.{taken}
use Rattle.device_steps.proofs.AnyMemory.{before_any}
use Rattle.device_steps.proofs.Sequences.{serves_one}

abbrev pub device_of : PlainWorld → PlainDevice
device_of w =
    record {
      inventory = w.inventory;
      queues = w.queues;
      units = w.units;
      seats = w.seats;
      workers = w.workers;
      aside = w.aside;
      woken = w.woken;
      handed_off = w.handed_off;
      limit = w.limit;
      function = w.function;
      buffers = w.buffers;
      missed = w.missed;
      waiting = w.waiting;
      tells_changes = w.tells_changes;
    }

-- One event

-- it changed something
pub did_seen : (stored : List Write → Type 0) (left seen : List ℕ) (w : PlainWorld) (e : Event) (b : Bool) (w' : PlainWorld)
    → b ≡ true → w'.memory ≡ left → TurnsSeen stored seen w e b w' → TurnsBy (Sees stored left seen) w e w'
did_seen stored left seen w e true w' on is t =
    (t.0, t.1, t.2, t.3, record { sees = subst (λ k. SeesBy (completion_of t.0) k seen) is t.4; stores = t.5 })
did_seen stored left seen w e false w' on is t = absurd (cc)

pub did_in : (shared : Bool) (before after : List ℕ → Type 0) (stored : List Write → Type 0) (d : PlainDevice) (e : Event)
    (b : Bool) (d' : PlainDevice) → b ≡ true → TurnsIn shared before after stored d e b d'
    → EachSeen shared before after
    (λ found left seen. TurnsBy (Sees stored left seen) (standing shared found d) e (standing shared left d'))
did_in shared before after stored d e true d' on t =
    each_from shared before after
    (λ found left seen. TurnsSeen stored seen (standing shared found d) e true (standing shared left d'))
    (λ found left seen. TurnsBy (Sees stored left seen) (standing shared found d) e (standing shared left d'))
    (λ found left seen was h. (h.0, h.1, h.2, h.3, record { sees = h.4; stores = h.5 })) t
did_in shared before after stored d e false d' on t = absurd (cc)

-- or it didn't apply, whatever memory may be
pub idle_in : (shared : Bool) (before after : List ℕ → Type 0) (stored : List Write → Type 0) (d : PlainDevice) (e : Event)
    (b : Bool) (d' : PlainDevice) → b ≡ false → ((m : List ℕ) × after m) → TurnsIn shared before after stored d e b d'
    → (d' ≡ d) × FindsIn shared before after (λ w. Applies w e → ⊥) d × stored []
idle_in shared before after stored d e true d' off some t = absurd (cc)
idle_in shared before after stored d e false d' off some t =
    let (found, was, rest) = t some.0 some.1 in
    let (left, is, turn) = rest in (
      ap device_of turn.0,
      λ m may.
          let (found, was, rest) = t m may in
          let (left, is, turn) = rest in (
            subst before (sym turn.2) was,
            subst (λ k. Applies (standing shared k d) e → ⊥) (sym turn.2) turn.1,
          ),
      turn.3,
    )

-- or memory was refused for it
pub wants_in : (shared : Bool) (before after : List ℕ → Type 0) (stored : List Write → Type 0) (d : PlainDevice) (e : Event)
    (x : NoMemory) (d' : PlainDevice) → ((m : List ℕ) × after m) → TurnsInOrWants shared before after stored d e (Err x) d'
    → (d' ≡ d) × FindsIn shared before after (λ w. MayWant e w) d × stored []
wants_in shared before after stored d e x d' some t =
    let (found, was, rest) = t some.0 some.1 in
    let (left, is, turn) = rest in (
      ap device_of turn.1,
      λ m may.
          let (found, was, rest) = t m may in
          let (left, is, turn) = rest in (
            subst before (sym turn.2) was,
            subst (λ k. MayWant e (standing shared k d)) (sym turn.2) turn.0,
          ),
      turn.3,
    )

-- An event that needs no memory, where nothing was changed before it

pub alone_did : (shared : Bool) (m : List ℕ) (d v : PlainDevice) (e : Event) (b : Bool) (d' : PlainDevice) → b ≡ true → v ≡ d
    → NeedsNone e → IsSound (standing shared m d) → TurnsAlone v e b d'
    → TurnsBy (Sees IsNone m m) (standing shared m d) e (standing shared m d')
alone_did shared m d v e false d' on same none sound t = absurd (cc)
alone_did shared m d v e true d' on same none sound t =
    let u : TurnsAlone d e true d' = subst (λ z. TurnsAlone z e true d') same t in
    let seen = alone_seen IsNone (standing shared m d) e true (standing shared m d') refl none (u shared m sound) in
    (seen.0, seen.1, seen.2, seen.3, record { sees = seen.4; stores = seen.5 })

-- where nothing was stored, that is so of what is known of any memory
pub sees_any : (stored : List Write → Type 0) (left seen : List ℕ) (w : PlainWorld) (e : Event) (w' : PlainWorld) → stored []
    → TurnsBy (Sees IsNone left seen) w e w' → TurnsBy (Sees stored left seen) w e w'
sees_any stored left seen w e w' nothing t =
    let q = t.4 in
    (t.0, t.1, t.2, t.3, record { sees = q.sees; stores = subst stored (sym q.stores) nothing })

first_any : (stored : List Write → Type 0) (left seen : List ℕ) (xs : List Event) (w w' : PlainWorld) → stored []
    → TurnsFirst (Sees IsNone left seen) xs w w' → TurnsFirst (Sees stored left seen) xs w w'
first_any stored left seen xs w w' nothing t =
    let q = t.4 in
    (t.0, t.1, t.2, t.3, record { sees = q.sees; stores = subst stored (sym q.stores) nothing })

pub alone_idle : (shared : Bool) (m : List ℕ) (d v : PlainDevice) (e : Event) (b : Bool) (d' : PlainDevice) → b ≡ false → v ≡ d
    → IsSound (standing shared m d) → TurnsAlone v e b d' → (d' ≡ d) × (Applies (standing shared m d) e → ⊥)
alone_idle shared m d v e true d' off same sound t = absurd (cc)
alone_idle shared m d v e false d' off same sound t =
    let u : TurnsAlone d e false d' = subst (λ z. TurnsAlone z e false d') same t in
    let h = u shared m sound in (ap device_of h.0, h.1)

-- What was found

pub finds_map : (shared : Bool) (before after : List ℕ → Type 0) (P Q : PlainWorld → Type 0) (d : PlainDevice)
    → ((m : List ℕ) → before m → P (standing shared m d) → Q (standing shared m d)) → FindsIn shared before after P d
    → FindsIn shared before after Q d
finds_map shared before after P Q d follows finds = λ m may. let f = finds m may in (f.0, follows m f.0 f.1)

-- of what may be there behind a look, what held before holds still
pub still_at : (shared : Bool) (before after : List ℕ → Type 0) (P : PlainWorld → Type 0) (d : PlainDevice)
    → ((m : List ℕ) → after m → before m) → AtEach shared before P d → AtEach shared after P d
still_at shared before after P d stays all = λ m may. all m (stays m may)

-- what a turn rests on is there behind a look
pub still_ready : (reading reading' : Type 0) (shared : Bool) (before after : List ℕ → Type 0) (size size' : ℕ) (d v : PlainDevice)
    → IsReadyIn reading shared before size d → v ≡ d → size' ≡ size → reading' → ((m : List ℕ) × after m)
    → ((m : List ℕ) → after m → before m) → IsReadyIn reading' shared after size' v
still_ready reading reading' shared before after size size' d v ready same long reads some stays =
    subst (λ z. IsReadyIn reading' shared after size' z) (sym same)
    (record {
      reading = reads;
      some = some;
      whole = λ m may. ready.whole m (stays m may);
      sound = λ m may. ready.sound m (stays m may);
      fits = subst (λ n. FitsIn n d) (sym long) ready.fits;
      few = ready.few;
    })

-- The first of some events

-- the event was done, where it is the first of these
pub first_in : (shared : Bool) (before middle after : List ℕ → Type 0) (stored : List Write → Type 0) (xs : List Event) (e : Event) (d v : PlainDevice)
    (d' : PlainDevice) → v ≡ d → FindsIn shared before middle (λ w. Applies w e → IsFirstOf w xs e) d
    → EachSeen shared middle after
    (λ found left seen. TurnsBy (Sees stored left seen) (standing shared found v) e (standing shared left d'))
    → TurnsFirstIn shared before after stored xs d true d'
first_in shared before middle after stored xs e d v d' same first t =
    each_before shared before middle after
    (λ found left seen. TurnsFirst (Sees stored left seen) xs (standing shared found d) (standing shared left d'))
    (λ m may. (first m may).0)
    (each_from shared middle after
    (λ found left seen. TurnsBy (Sees stored left seen) (standing shared found v) e (standing shared left d'))
    (λ found left seen. TurnsFirst (Sees stored left seen) xs (standing shared found d) (standing shared left d'))
    (λ found left seen was u.
    taken (Sees stored left seen) xs e (standing shared found d) (standing shared left d') (first found was).1
    (subst (λ z. TurnsBy (Sees stored left seen) (standing shared found z) e (standing shared left d')) same u)) t)

-- an event that needs no memory was done, where it is the first of these; or it doesn't apply, nor do the others
pub alone_first : (shared : Bool) (before middle : List ℕ → Type 0) (stored : List Write → Type 0) (xs : List Event) (e : Event) (d v : PlainDevice) (b : Bool)
    (d' : PlainDevice) → stored [] → v ≡ d → NeedsNone e → ((m : List ℕ) × middle m)
    → ((m : List ℕ) → before m → IsSound (standing shared m d))
    → FindsIn shared before middle (λ w. (Applies w e → IsFirstOf w xs e) × ((Applies w e → ⊥) → NoneApplies w xs)) d
    → TurnsAlone v e b d' → TurnsFirstIn shared before middle stored xs d b d'
alone_first shared before middle stored xs e d v true d' nothing same none some sound first t =
    first_in shared before middle middle stored xs e d d d' refl
    (λ m may. let f = first m may in (f.0, f.1.0))
    (each_read shared middle middle
    (λ found left seen. TurnsBy (Sees stored left seen) (standing shared found d) e (standing shared left d')) (λ m may. may)
    (λ m may.
    sees_any stored m m (standing shared m d) e (standing shared m d') nothing
    (alone_did shared m d v e true d' refl same none (sound m (first m may).0) t)))
alone_first shared before middle stored xs e d v false d' nothing same none some sound first t =
    let at = first some.0 some.1 in
    let idle = alone_idle shared some.0 d v e false d' refl same (sound some.0 at.0) t in (
      idle.0,
      λ m may.
          let f = first m may in
          (f.0, f.1.1 (alone_idle shared m d v e false d' refl same (sound m f.0) t).1),
      nothing,
    )

-- an event that needs no memory changed something, where it is the first of these
pub alone_true : (shared : Bool) (before middle : List ℕ → Type 0) (stored : List Write → Type 0) (xs : List Event) (e : Event) (d v : PlainDevice) (b : Bool)
    (d' : PlainDevice) → stored [] → b ≡ true → v ≡ d → NeedsNone e → ((m : List ℕ) → before m → IsSound (standing shared m d))
    → FindsIn shared before middle (λ w. Applies w e → IsFirstOf w xs e) d → TurnsAlone v e b d'
    → TurnsFirstIn shared before middle stored xs d true d'
alone_true shared before middle stored xs e d v b d' nothing on same none sound first t =
    first_in shared before middle middle stored xs e d d d' refl first
    (each_read shared middle middle
    (λ found left seen. TurnsBy (Sees stored left seen) (standing shared found d) e (standing shared left d')) (λ m may. may)
    (λ m may.
    sees_any stored m m (standing shared m d) e (standing shared m d') nothing
    (alone_did shared m d v e b d' on same none (sound m (first m may).0) t)))

-- whatever stands in memory
pub alone_by : (xs : List Event) (e : Event) (d v : PlainDevice) (b : Bool) (d' : PlainDevice) → v ≡ d → NeedsNone e
    → ((shared : Bool) (m : List ℕ) → IsSound (standing shared m d)
    → (Applies (standing shared m d) e → IsFirstOf (standing shared m d) xs e)
    × ((Applies (standing shared m d) e → ⊥) → NoneApplies (standing shared m d) xs))
    → TurnsAlone v e b d' → TurnsFirstAlone xs d b d'
alone_by xs e d v true d' same none first t =
    λ shared m sound.
    taken (Sees IsNone m m) xs e (standing shared m d) (standing shared m d') (first shared m sound).0
    (alone_did shared m d v e true d' refl same none sound t)
alone_by xs e d v false d' same none first t =
    λ shared m sound.
    let idle = alone_idle shared m d v e false d' refl same sound t in
    (ap (λ (k : PlainDevice). standing shared m k) idle.0, (first shared m sound).1 idle.1)

pub alone_taken : (xs : List Event) (e : Event) (d v : PlainDevice) (b : Bool) (d' : PlainDevice) → b ≡ true → v ≡ d
    → NeedsNone e
    → ((shared : Bool) (m : List ℕ) → IsSound (standing shared m d) → Applies (standing shared m d) e
    → IsFirstOf (standing shared m d) xs e) → TurnsAlone v e b d' → TurnsFirstAlone xs d true d'
alone_taken xs e d v b d' on same none first t =
    λ shared m sound.
    taken (Sees IsNone m m) xs e (standing shared m d) (standing shared m d') (first shared m sound)
    (alone_did shared m d v e b d' on same none sound t)

-- and so in any memory
pub alone_anywhere : (shared : Bool) (before : List ℕ → Type 0) (stored : List Write → Type 0) (xs : List Event) (d : PlainDevice) (b : Bool) (d' : PlainDevice)
    → stored [] → ((m : List ℕ) × before m) → ((m : List ℕ) → before m → IsSound (standing shared m d))
    → TurnsFirstAlone xs d b d'
    → TurnsFirstIn shared before before stored xs d b d'
alone_anywhere shared before stored xs d true d' nothing some sound t =
    each_read shared before before
    (λ found left seen. TurnsFirst (Sees stored left seen) xs (standing shared found d) (standing shared left d')) (λ m may. may)
    (λ m may. first_any stored m m xs (standing shared m d) (standing shared m d') nothing (t shared m (sound m may)))
alone_anywhere shared before stored xs d false d' nothing some sound t = (
  ap device_of (t shared some.0 (sound some.0 some.1)).0,
  λ m may. (may, (t shared m (sound m may)).1),
  nothing,
)

-- an event that applies is done, where it is the first of these
pub first_by : (shared : Bool) (before after : List ℕ → Type 0) (stored : List Write → Type 0) (xs : List Event) (e : Event)
    (d : PlainDevice) (b : Bool) (d' : PlainDevice) → ((m : List ℕ) × after m)
    → ((m : List ℕ) → before m → Applies (standing shared m d) e × IsFirstOf (standing shared m d) xs e)
    → TurnsIn shared before after stored d e b d' → TurnsFirstIn shared before after stored xs d b d'
first_by shared before after stored xs e d true d' some first t =
    first_in shared before before after stored xs e d d d' refl (λ m may. (may, λ a. (first m may).1))
    (did_in shared before after stored d e true d' refl t)
first_by shared before after stored xs e d false d' some first t =
    let idle = (idle_in shared before after stored d e false d' refl some t).1 some.0 some.1 in
    absurd (idle.1 (first some.0 idle.0).0)

-- it was one of these events
pub firsts_in : (shared : Bool) (before after : List ℕ → Type 0) (stored : List Write → Type 0) (xs : List Event) (d : PlainDevice) (b : Bool) (d' : PlainDevice)
    → b ≡ true → TurnsFirstIn shared before after stored xs d b d' → TurnsFirstIn shared before after stored xs d true d'
firsts_in shared before after stored xs d true d' on t = t
firsts_in shared before after stored xs d false d' on t = absurd (cc)

-- where nothing was stored before
pub first_known : {X S : Type 0} (known : X → S) (storing : S → List Store → S) (x z y : X) (shared : Bool)
    (before after : List ℕ → Type 0) (xs : List Event) (d : PlainDevice) (b : Bool) (d' : PlainDevice) → known z ≡ known x
    → TurnsFirstIn shared before after (Stored known storing z y) xs d b d'
    → TurnsFirstIn shared before after (Stored known storing x y) xs d b d'
first_known {X} {S} known storing x z y shared before after xs d b d' same t =
    subst (λ (s : S). TurnsFirstIn shared before after (λ ws. known y ≡ storing s (stores_of ws)) xs d b d') same t

pub none_in : (shared : Bool) (before after : List ℕ → Type 0) (stored : List Write → Type 0) (xs : List Event) (d : PlainDevice) (b : Bool) (d' : PlainDevice)
    → b ≡ false → TurnsFirstIn shared before after stored xs d b d' → (d' ≡ d) × FindsIn shared before after (λ w. NoneApplies w xs) d × stored []
none_in shared before after stored xs d true d' off t = absurd (cc)
none_in shared before after stored xs d false d' off t = t

-- One event of the order

pub noticed : (left seen : List ℕ) (o : Option Completion) → SeesBy o left seen → IsNoticedBy seen o
noticed left seen (Some xs) h = h
noticed left seen None h = tt

pub one_seen : (asked : ℕ → Bool) (stored : List Write → Type 0) (w : PlainWorld) (c : Cursor) (w' : PlainWorld) (seen : List ℕ)
    → StepsNext asked (Sees stored w'.memory seen) w c w' → ServesSeen asked stored seen w 1 w'
one_seen asked stored w c w' seen t =
    let q = t.5 in
    record {
      serves = serves_one asked (Sees stored w'.memory seen) w c w' t;
      notices = record {
        each = (noticed w'.memory seen (completion_of t.0) q.sees, tt);
        none = λ h. seen_left w'.memory seen (completion_of t.0) q.sees h.0;
      };
      stores = q.stores;
    }

-- An event that takes no chain

pub record SeenToo (stored : List Write → Type 0) (left seen : List ℕ) (t : Transition) : Type 0 where
  pub sees : Sees stored left seen t
  pub no_chain : TakesNoChain t

pub by_other : (stored : List Write → Type 0) (left seen : List ℕ) (w : PlainWorld) (e : Event) (w' : PlainWorld)
    → (IsFetch e → ⊥) → TurnsBy (Sees stored left seen) w e w' → TurnsBy (SeenToo stored left seen) w e w'
by_other stored left seen w e w' none t =
    (t.0, t.1, t.2, t.3, record { sees = t.4; no_chain = subst (λ k. IsFetch k → ⊥) (sym t.1) none })

among : (w : PlainWorld) (xs : List Event) (e : Event) → AllByRecursion (λ x. IsFetch x → ⊥) xs → IsFirstOf w xs e → IsFetch e → ⊥
among w [] e none is = absurd is
among w (x ∷ xs) e none (inl is) = subst (λ k. IsFetch k → ⊥) is.1 none.0
among w (x ∷ xs) e none (inr is) = among w xs e none.1 is.1

pub first_other : (stored : List Write → Type 0) (left seen : List ℕ) (xs : List Event) (w w' : PlainWorld)
    → AllByRecursion (λ x. IsFetch x → ⊥) xs → TurnsFirst (Sees stored left seen) xs w w'
    → TurnsFirst (SeenToo stored left seen) xs w w'
first_other stored left seen xs w w' none t =
    (t.0, t.1, t.2, t.3, record { sees = t.4; no_chain = among w xs (event_of t.0) none t.2 })

one_follows : (asked : ℕ → Bool) (stored : List Write → Type 0) (w : PlainWorld) (c : Cursor) (w' : PlainWorld) (seen : List ℕ)
    → StepsNext asked (SeenToo stored w'.memory seen) w c w' → FollowsSeen asked stored seen w 1 w'
one_follows asked stored w c w' seen t =
    let q = t.5 in
    record {
      serves = serves_one asked (SeenToo stored w'.memory seen) w c w' t;
      notices = record {
        each = (noticed w'.memory seen (completion_of t.0) q.sees.sees, tt);
        none = λ h. seen_left w'.memory seen (completion_of t.0) q.sees.sees h.0;
      };
      stores = q.sees.stores;
      no_chain = (q.no_chain, tt);
    }

pub one_in : {X : Type 0} (shared : Bool) (may_be : X → List ℕ → Type 0)
    (stored : X → X → List Write → Type 0) (asked : ℕ → Bool) (most : ℕ) (x : X) (d : PlainDevice)
    (c : Cursor) (s : Progress) (y : X) (d' : PlainDevice) → 1 ≤ most → s ≡ record { next = c; steps = 1 }
    → ((m : List ℕ) × may_be y m)
    → EachSeen shared (may_be x) (may_be y)
    (λ found left seen. StepsNext asked (SeenToo (stored x y) left seen) (standing shared found d) c (standing shared left d'))
    → ServesNextIn shared may_be stored asked most x d s y d'
one_in shared may_be stored asked most x d c s y d' few is some t =
    subst (λ z. ServesNextIn shared may_be stored asked most x d z y d') (sym is)
    (record {
      some = omega arith;
      few = few;
      serves = inl (
        refl,
        each_from shared (may_be x) (may_be y)
            (λ found left seen. StepsNext asked (SeenToo (stored x y) left seen) (standing shared found d) c (standing shared left d'))
            (λ found left seen. FollowsSeen asked (stored x y) seen (standing shared found d) 1 (standing shared left d'))
            (λ found left seen was u. one_follows asked (stored x y) (standing shared found d) c (standing shared left d') seen u) t,
      );
      before = λ m.
          let (found, was, rest) = t some.0 some.1 in
          let (left, so, u) = rest in before_any shared left m d' c u.4;
    })

-- A chain that is taken

pub one_fetch : {X : Type 0} (shared : Bool) (may_be : X → List ℕ → Type 0)
    (stored : X → X → List Write → Type 0) (asked : ℕ → Bool) (most : ℕ) (x : X) (d : PlainDevice)
    (c : Cursor) (s : Progress) (y : X) (d' : PlainDevice) → 1 ≤ most → s ≡ record { next = c; steps = 1 }
    → ((m : List ℕ) × may_be y m)
    → ByOneReading shared may_be x y
    (λ found left seen. StepsNext asked (Sees (stored x y) left seen) (standing shared found d) c (standing shared left d'))
    → ServesNextIn shared may_be stored asked most x d s y d'
one_fetch shared may_be stored asked most x d c s y d' few is some t =
    subst (λ z. ServesNextIn shared may_be stored asked most x d z y d') (sym is)
    (record {
      some = omega arith;
      few = few;
      serves = inr (inl (
        refl,
        once_from shared may_be x y
            (λ found left seen. StepsNext asked (Sees (stored x y) left seen) (standing shared found d) c (standing shared left d'))
            (λ found left seen. ServesSeen asked (stored x y) seen (standing shared found d) 1 (standing shared left d'))
            (λ found left seen was u. one_seen asked (stored x y) (standing shared found d) c (standing shared left d') seen u) t,
      ));
      before = λ m.
          let (found, was, rest) = t.each_seen some.0 some.1 in
          let (left, so, u) = rest in before_any shared left m d' c u.4;
    })

-- Behind a look that changed nothing

-- what was stored behind it was stored in all
each_seen_on : (asked : ℕ → Bool) (shared : Bool) (before after : List ℕ → Type 0) (P Q : List Write → Type 0)
    (d d' : PlainDevice) → ((ws : List Write) → P ws → Q ws)
    → EachSeen shared before after
    (λ found left seen. ServesSeen asked P seen (standing shared found d) 1 (standing shared left d'))
    → EachSeen shared before after
    (λ found left seen. ServesSeen asked Q seen (standing shared found d) 1 (standing shared left d'))
each_seen_on asked shared before after P Q d d' on t =
    each_from shared before after
    (λ found left seen. ServesSeen asked P seen (standing shared found d) 1 (standing shared left d'))
    (λ found left seen. ServesSeen asked Q seen (standing shared found d) 1 (standing shared left d'))
    (λ found left seen was h.
    record { serves = h.serves; notices = h.notices; stores = on (writes_by h.serves.transitions) h.stores }) t

-- what was done in the phase behind it was done in the whole phase
pub phase_before : {X : Type 0} (shared : Bool) (may_be : X → List ℕ → Type 0)
    (stored : X → X → List Write → Type 0) (asked : ℕ → Bool) (x z : X) (d : PlainDevice)
    (count : ℕ) (y : X) (d' : PlainDevice) → ((m : List ℕ) → may_be z m → may_be x m)
    → ((k : X) (ws : List Write) → stored z k ws → stored x k ws) → ServesInPhase shared may_be stored asked z d count y d'
    → ServesInPhase shared may_be stored asked x d count y d'
phase_before shared may_be stored asked x z d count y d' stays on (inl p) = inl (
  p.0,
  each_before shared (may_be x) (may_be z) (may_be y)
      (λ found left seen. FollowsSeen asked (stored x y) seen (standing shared found d) 1 (standing shared left d')) stays
      (each_from shared (may_be z) (may_be y)
      (λ found left seen. FollowsSeen asked (stored z y) seen (standing shared found d) 1 (standing shared left d'))
      (λ found left seen. FollowsSeen asked (stored x y) seen (standing shared found d) 1 (standing shared left d'))
      (λ found left seen was h.
      record {
        serves = h.serves;
        notices = h.notices;
        stores = on y (writes_by h.serves.transitions) h.stores;
        no_chain = h.no_chain;
      }) p.1),
)
phase_before shared may_be stored asked x z d count y d' stays on (inr (inl p)) = inr (inl (
  p.0,
  once_behind shared may_be x z y
      (λ found left seen. ServesSeen asked (stored x y) seen (standing shared found d) 1 (standing shared left d')) stays
      (once_from shared may_be z y
      (λ found left seen. ServesSeen asked (stored z y) seen (standing shared found d) 1 (standing shared left d'))
      (λ found left seen. ServesSeen asked (stored x y) seen (standing shared found d) 1 (standing shared left d'))
      (λ found left seen was h.
      record { serves = h.serves; notices = h.notices; stores = on y (writes_by h.serves.transitions) h.stores }) p.1),
))
phase_before shared may_be stored asked x z d count y d' stays on (inr (inr p)) =
    inr (inr (record {
      read = p.read;
      taken = p.taken;
      later = p.later;
      counted = p.counted;
      stays = λ m may. stays m (p.stays m may);
      takes = each_before shared (may_be x) (may_be z) (may_be p.read)
          (λ found left seen.
          ServesSeen asked (stored x p.read) seen (standing shared found d) 1 (standing shared left p.taken)) stays
          (each_seen_on asked shared (may_be z) (may_be p.read) (stored z p.read) (stored x p.read) d p.taken (on p.read)
          p.takes);
      follows = p.follows;
    }))

pub serves_before : {X : Type 0} (shared : Bool) (may_be : X → List ℕ → Type 0)
    (stored : X → X → List Write → Type 0) (asked : ℕ → Bool) (most : ℕ) (x z : X)
    (d v : PlainDevice) (s : Progress) (y : X) (d' : PlainDevice) → v ≡ d → ((m : List ℕ) → may_be z m → may_be x m)
    → ((k : X) (ws : List Write) → stored z k ws → stored x k ws) → ServesNextIn shared may_be stored asked most z v s y d' → ServesNextIn shared may_be stored asked most x d s y d'
serves_before shared may_be stored asked most x z d v s y d' same stays on h =
    subst (λ k. ServesNextIn shared may_be stored asked most x k s y d') same
    (record {
      some = h.some;
      few = h.few;
      serves = phase_before shared may_be stored asked x z v s.steps y d' stays on h.serves;
      before = h.before;
    })

pub turns_before : {X : Type 0} (shared : Bool) (may_be : X → List ℕ → Type 0)
    (stored : X → X → List Write → Type 0) (asked : ℕ → Bool) (most : ℕ) (x z : X)
    (d v : PlainDevice) (r : Result (Option Progress) NoMemory) (y : X) (d' : PlainDevice) → v ≡ d
    → ((m : List ℕ) → may_be z m → may_be x m) → ((k : X) (ws : List Write) → stored z k ws → stored x k ws)
    → TurnsNextIn shared may_be stored asked most z v r y d'
    → TurnsNextIn shared may_be stored asked most x d r y d'
turns_before shared may_be stored asked most x z d v (Ok (Some s)) y d' same stays on h =
    serves_before shared may_be stored asked most x z d v s y d' same stays on h
turns_before shared may_be stored asked most x z d v (Ok None) y d' same stays on h = (
  h.0 ∙ same,
  λ m may. (stays m (h.1 m may).0, subst (λ k. IsQuietOf asked (standing shared m k)) same (h.1 m may).1),
  on y [] h.2,
)
turns_before shared may_be stored asked most x z d v (Err e) y d' same stays on h = (
  h.0 ∙ same,
  λ m may. (
    stays m (h.1 m may).0,
    subst (λ k. MayWantFirst (standing shared m k) (order_for asked (standing shared m k))) same (h.1 m may).1,
  ),
  on y [] h.2,
)

pub fetches_before : {X : Type 0} (shared : Bool) (may_be : X → List ℕ → Type 0)
    (stored : X → X → List Write → Type 0) (asked : ℕ → Bool) (most i : ℕ) (x z : X)
    (d : PlainDevice) (r : Result (Option Progress) NoMemory) (y : X) (d' : PlainDevice)
    → ((m : List ℕ) → may_be z m → may_be x m) → ((k : X) (ws : List Write) → stored z k ws → stored x k ws)
    → FetchesOn shared may_be stored asked most i z d r y d'
    → FetchesOn shared may_be stored asked most i x d r y d'
fetches_before shared may_be stored asked most i x z d (Ok (Some s)) y d' stays on h =
    serves_before shared may_be stored asked most x z d d s y d' refl stays on h
fetches_before shared may_be stored asked most i x z d (Ok None) y d' stays on h =
    (h.0, (λ m may. (stays m (h.1 m may).0, (h.1 m may).1)), on y [] h.2)
fetches_before shared may_be stored asked most i x z d (Err e) y d' stays on h =
    (h.0, (λ m may. (stays m (h.1 m may).0, (h.1 m may).1)), on y [] h.2)
