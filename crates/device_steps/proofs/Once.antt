-- What is done by one reading of a memory that others may write too.
use Rattle.std.proofs.Common.{◌≡◌, ℕ, Bool, true, false, List, [], Option, None, Result, Ok, Err, refl, sym, ◌∙◌, subst}
use Rattle.foundation.specs.declared.NoMemory.{NoMemory}
use Rattle.guest_mem.specs.Stores.{Store}
use Rattle.ring_core.specs.Writes.{Write, stores_of}
use Rattle.device_model.specs.Parts.{Completion, IsSeen}
use Rattle.device_model.specs.World.{PlainWorld}
use Rattle.device_model.specs.Events.{Event}
use Rattle.device_model.specs.Transitions.{completion_of}
use Rattle.device_model.specs.Applies.{Applies}
use Rattle.phases.specs.InMemory.{ByOneReading}
use Rattle.phases.specs.EventsInMemory.{SeesBy}
use Rattle.phases.proofs.Behind.{read_once}
use Rattle.device_steps.specs.Apart.{PlainDevice, standing, Stored, TurnsSeenOrWants, TurnsInOrWants, FetchesOnce}
use Rattle.device_steps.proofs.InMemory.{each_from, unseen, completes_none}

-- what follows for each that may have been found
pub once_from : {X : Type 0} (shared : Bool) (may_be : X → List ℕ → Type 0) (x y : X) (P Q : List ℕ → List ℕ → List ℕ → Type 0)
    → ((found left seen : List ℕ) → may_be x found → P found left seen → Q found left seen)
    → ByOneReading shared may_be x y P → ByOneReading shared may_be x y Q
once_from shared may_be x y P Q follows once =
    record {
      read = once.read;
      stays = once.stays;
      each_seen = each_from shared (may_be once.read) (may_be y) P Q
          (λ found left seen was p. follows found left seen (once.stays found was) p) once.each_seen;
      each_found = λ found was.
          let h = once.each_found found was in
          (h.0, h.1, h.2, follows found h.0 h.1 (once.stays found was) h.3);
    }

-- behind a look it is a reading of the whole phase
pub once_behind : {X : Type 0} (shared : Bool) (may_be : X → List ℕ → Type 0) (x z y : X) (Does : List ℕ → List ℕ → List ℕ → Type 0)
    → ((m : List ℕ) → may_be z m → may_be x m) → ByOneReading shared may_be z y Does → ByOneReading shared may_be x y Does
once_behind shared may_be x z y Does stays once =
    record {
      read = once.read;
      stays = λ m was. stays m (once.stays m was);
      each_seen = once.each_seen;
      each_found = once.each_found;
    }

-- Fetches

pub seen_left : (left seen : List ℕ) (o : Option Completion) → SeesBy o left seen → o ≡ None → seen ≡ left
seen_left left seen o h e = subst (λ z. SeesBy z left seen) e h

-- where nothing may be completed memory is seen as it was found
seen_found : (stored : List Write → Type 0) (seen : List ℕ) (w : PlainWorld) (i : ℕ) (r : Result Bool NoMemory) (w' : PlainWorld)
    → (i ≡ 1 → ⊥) → TurnsSeenOrWants stored seen w (Event.Fetch i) r w' → seen ≡ w.memory
seen_found stored seen w i (Ok true) w' other t =
    let none = completes_none w i t.0 other t.1 t.2 in
    seen_left w'.memory seen (completion_of t.0) t.4 none
    ∙ sym (seen_left w'.memory w.memory (completion_of t.0) (unseen w w' i t.0 other t.1 t.2 t.3) none)
seen_found stored seen w i (Ok false) w' other t = t.2
seen_found stored seen w i (Err x) w' other t = t.2

-- so a fetch of any queue but the event queue is by one reading
pub other_once : {X : Type 0} (shared : Bool) (may_be : X → List ℕ → Type 0) (stored : List Write → Type 0) (x : X)
    (d : PlainDevice) (i : ℕ) (r : Result Bool NoMemory) (y : X) (d' : PlainDevice) → (i ≡ 1 → ⊥)
    → ((m : List ℕ) → may_be y m → may_be x m)
    → TurnsInOrWants shared (may_be x) (may_be y) stored d (Event.Fetch i) r d'
    → FetchesOnce shared may_be stored x d (Event.Fetch i) r y d'
other_once shared may_be stored x d i r y d' other stays turns =
    let here : (m : List ℕ) → may_be y m → (left : List ℕ) × IsSeen shared left m
    × TurnsSeenOrWants stored m (standing shared m d) (Event.Fetch i) r (standing shared left d') =
    λ m may.
    let (found, was, rest) = turns m may in
    let (left, is, turn) = rest in
    let same : found ≡ m = sym (seen_found stored m (standing shared found d) i r (standing shared left d') other turn) in (
      left,
      is,
      subst (λ k. TurnsSeenOrWants stored m (standing shared k d) (Event.Fetch i) r (standing shared left d')) same turn,
    ) in
    record {
      read = y;
      stays = stays;
      each_seen = λ seen may. (seen, may, here seen may);
      each_found = λ m may. let h = here m may in (h.0, m, h.1, h.2);
    }

-- and so is a look that found nothing
pub idle_once : {X : Type 0} (shared : Bool) (may_be : X → List ℕ → Type 0) (stored : List Write → Type 0) (x : X)
    (d : PlainDevice) (i : ℕ) (y : X) → stored [] → ((m : List ℕ) → may_be y m → may_be x m)
    → ((m : List ℕ) → may_be y m → Applies (standing shared m d) (Event.Fetch i) → ⊥)
    → FetchesOnce shared may_be stored x d (Event.Fetch i) (Ok false) y d
idle_once shared may_be stored x d i y nothing stays idle =
    read_once shared may_be x y
    (λ found left seen. TurnsSeenOrWants stored seen (standing shared found d) (Event.Fetch i) (Ok false) (standing shared left d))
    stays (λ m may. (refl, idle m may, refl, nothing))

-- where nothing was stored before
pub fetch_known : {X S : Type 0} (known : X → S) (storing : S → List Store → S) (x z y : X) (shared : Bool)
    (may_be : X → List ℕ → Type 0) (begun : X) (d : PlainDevice) (e : Event) (r : Result Bool NoMemory) (d' : PlainDevice)
    → known z ≡ known x → FetchesOnce shared may_be (Stored known storing z y) begun d e r y d'
    → FetchesOnce shared may_be (Stored known storing x y) begun d e r y d'
fetch_known {X} {S} known storing x z y shared may_be begun d e r d' same once =
    subst (λ (s : S). FetchesOnce shared may_be (λ ws. known y ≡ storing s (stores_of ws)) begun d e r y d') same once

-- and behind a look
pub fetch_behind : {X S : Type 0} (known : X → S) (storing : S → List Store → S) (x z y : X) (shared : Bool)
    (may_be : X → List ℕ → Type 0) (d : PlainDevice) (i : ℕ) (r : Result Bool NoMemory) (d' : PlainDevice)
    → known z ≡ known x → ((m : List ℕ) → may_be z m → may_be x m)
    → FetchesOnce shared may_be (Stored known storing z y) z d (Event.Fetch i) r y d'
    → FetchesOnce shared may_be (Stored known storing x y) x d (Event.Fetch i) r y d'
fetch_behind known storing x z y shared may_be d i r d' same stays once =
    once_behind shared may_be x z y
    (λ found left seen.
    TurnsSeenOrWants (Stored known storing x y) seen (standing shared found d) (Event.Fetch i) r (standing shared left d')) stays
    (fetch_known known storing x z y shared may_be z d (Event.Fetch i) r d' same once)
