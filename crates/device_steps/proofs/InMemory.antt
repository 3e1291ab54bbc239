-- An event in a memory that others may write too, and in one of the device's own.
use Rattle.std.proofs.Common.{◌≡◌, ℕ, Bool, true, false, List, [], ◌∷◌, ◌++◌, length, None, Result, Ok, Err, refl, sym, ap, ◌∙◌, subst, append_assoc}
use Rattle.std.specs.Prelude.{⊤}
use Rattle.foundation.specs.declared.NoMemory.{NoMemory}
use Rattle.guest_mem.specs.Stores.{Store, stores_at}
use Rattle.ring_core.specs.Writes.{Write, stores_of}
use Rattle.device_model.specs.World.{PlainWorld}
use Rattle.device_model.specs.Events.{Event}
use Rattle.device_model.specs.Transitions.{Transition, event_of, action_of, completion_of}
use Rattle.device_model.specs.After.{after}
use Rattle.device_model.specs.Happens.{Happens}
use Rattle.device_model.specs.Turns.{Turns}
use Rattle.phases.specs.InMemory.{EachSeen}
use Rattle.phases.specs.EventsInMemory.{SeesBy}
use Rattle.phases.proofs.Behind.{each_own, each_read}
use Rattle.device_steps.specs.Inner.Steps.{TurnsOrWants}
use Rattle.device_steps.specs.Sound.{AreFew}
use Rattle.device_steps.specs.Inner.Sound.{IsSound}
use Rattle.device_steps.specs.Apart.{PlainDevice, standing, FitsIn, Stored, TurnsSeen, TurnsSeenOrWants, TurnsInOrWants}
use Rattle.device_steps.specs.Inner.Apart.{HasFew, IsSoundIn, TurnsIn, TurnsAlone, TurnsAloneOrWants}

-- what is seen of a turn is one
pub turned : (stored : List Write → Type 0) (n : List ℕ) (w : PlainWorld) (e : Event) (b : Bool) (w' : PlainWorld)
    → TurnsSeen stored n w e b w' → Turns w e b w'
turned stored n w e true w' t = (t.0, t.1, t.2, t.3)
turned stored n w e false w' t = (t.0, t.1)

pub turned_or : (stored : List Write → Type 0) (n : List ℕ) (w : PlainWorld) (e : Event) (r : Result Bool NoMemory)
    (w' : PlainWorld) → TurnsSeenOrWants stored n w e r w' → TurnsOrWants w e r w'
turned_or stored n w e (Ok b) w' t = turned stored n w e b w' t
turned_or stored n w e (Err x) w' t = (t.0, t.1)

-- In a memory of the device's own the event takes its turn on what stood there

pub turns_own : (stored : List Write → Type 0) (old new : List ℕ) (d : PlainDevice) (e : Event) (b : Bool) (d' : PlainDevice)
    → TurnsIn false (λ m. m ≡ old) (λ m. m ≡ new) stored d e b d'
    → Turns (standing false old d) e b (standing false new d')
turns_own stored old new d e b d' t =
    turned stored new (standing false old d) e b (standing false new d')
    (each_own old new (λ found left seen. TurnsSeen stored seen (standing false found d) e b (standing false left d')) t)

pub turns_own_or : (stored : List Write → Type 0) (old new : List ℕ) (d : PlainDevice) (e : Event) (r : Result Bool NoMemory)
    (d' : PlainDevice) → TurnsInOrWants false (λ m. m ≡ old) (λ m. m ≡ new) stored d e r d'
    → TurnsOrWants (standing false old d) e r (standing false new d')
turns_own_or stored old new d e r d' t =
    turned_or stored new (standing false old d) e r (standing false new d')
    (each_own old new (λ found left seen. TurnsSeenOrWants stored seen (standing false found d) e r (standing false left d')) t)

-- Whatever may be seen

-- what is said of memory that was found holds of what may have been found before
pub each_before : (shared : Bool) (first before after : List ℕ → Type 0) (Does : List ℕ → List ℕ → List ℕ → Type 0)
    → ((m : List ℕ) → before m → first m) → EachSeen shared before after Does → EachSeen shared first after Does
each_before shared first before after Does stays each =
    λ seen may.
    let (found, was, rest) = each seen may in (found, stays found was, rest)

-- the few parts are few whatever stands in memory
pub few_in : (shared : Bool) (m : List ℕ) (d : PlainDevice) → HasFew d → AreFew (standing shared m d)
few_in shared m d few =
    record {
      several = few.several;
      queues = few.queues;
      seats = few.seats;
      units = few.units;
      sizes = few.sizes;
      luns = few.luns;
    }

pub has_few : (shared : Bool) (m : List ℕ) (d : PlainDevice) → AreFew (standing shared m d) → HasFew d
has_few shared m d few =
    record {
      several = few.several;
      queues = few.queues;
      seats = few.seats;
      units = few.units;
      sizes = few.sizes;
      luns = few.luns;
    }

-- an event of one kind is none of another
no_direct : {k i : ℕ} → Event.Direct k ≡ Event.Fetch i → ⊥
no_direct e = cc

no_answer : {k i : ℕ} → Event.Answer k ≡ Event.Fetch i → ⊥
no_answer e = cc

no_respond : {i : ℕ} → Event.AnswerTmf ≡ Event.Fetch i → ⊥
no_respond e = cc

no_raise : {i : ℕ} → Event.Raise ≡ Event.Fetch i → ⊥
no_raise e = cc

no_poke : {x : Write} {i : ℕ} → Event.Poke x ≡ Event.Fetch i → ⊥
no_poke e = cc

abbrev number_of : Event → ℕ
number_of (Event.Fetch i) = i
number_of e = 0

-- no fetch but the event queue's completes a chain or writes
pub unseen : (w w' : PlainWorld) (i : ℕ) (t : Transition) → (i ≡ 1 → ⊥) → event_of t ≡ Event.Fetch i → Happens t w
    → w' ≡ after t w → SeesBy (completion_of t) w'.memory w.memory
unseen w w' i (Transition.UseBuffer f xs) other is h next = absurd (other (sym (ap number_of is) ∙ h.event))
unseen w w' i (Transition.Direct c o xs) other is h next = absurd (no_direct is)
unseen w w' i (Transition.Answer k x o xs) other is h next = absurd (no_answer is)
unseen w w' i (Transition.Respond c r xs) other is h next = absurd (no_respond is)
unseen w w' i (Transition.Give r c xs) other is h next = absurd (no_raise is)
unseen w w' i (Transition.Poke x) other is h next = absurd (no_poke is)
unseen w w' i t other is h next = sym (ap (λ (z : PlainWorld). z.memory) next)

pub completes_none : (w : PlainWorld) (i : ℕ) (t : Transition) → (i ≡ 1 → ⊥) → event_of t ≡ Event.Fetch i → Happens t w
    → completion_of t ≡ None
completes_none w i (Transition.UseBuffer f xs) other is h = absurd (other (sym (ap number_of is) ∙ h.event))
completes_none w i (Transition.Direct c o xs) other is h = absurd (no_direct is)
completes_none w i (Transition.Answer k x o xs) other is h = absurd (no_answer is)
completes_none w i (Transition.Respond c r xs) other is h = absurd (no_respond is)
completes_none w i (Transition.Give r c xs) other is h = absurd (no_raise is)
completes_none w i t other is h = refl

unwritten : (w : PlainWorld) (i : ℕ) (t : Transition) → (i ≡ 1 → ⊥) → event_of t ≡ Event.Fetch i → Happens t w
    → (action_of t).writes ≡ []
unwritten w i (Transition.UseBuffer f xs) other is h = absurd (other (sym (ap number_of is) ∙ h.event))
unwritten w i (Transition.Direct c o xs) other is h = absurd (no_direct is)
unwritten w i (Transition.Answer k x o xs) other is h = absurd (no_answer is)
unwritten w i (Transition.Respond c r xs) other is h = absurd (no_respond is)
unwritten w i (Transition.Give r c xs) other is h = absurd (no_raise is)
unwritten w i (Transition.Poke x) other is h = absurd (no_poke is)
unwritten w i t other is h = refl

-- so its turn is seen as any, where nothing was stored
pub fetch_seen : (stored : List Write → Type 0) (w : PlainWorld) (i : ℕ) (r : Result Bool NoMemory) (w' : PlainWorld)
    → stored [] → (i ≡ 1 → ⊥) → TurnsOrWants w (Event.Fetch i) r w'
    → TurnsSeenOrWants stored w.memory w (Event.Fetch i) r w'
fetch_seen stored w i (Ok true) w' none other t = (
  t.0,
  t.1,
  t.2,
  t.3,
  unseen w w' i t.0 other t.1 t.2 t.3,
  subst stored (sym (unwritten w i t.0 other t.1 t.2)) none,
)
fetch_seen stored w i (Ok false) w' none other t = (t.0, t.1, refl, none)
fetch_seen stored w i (Err x) w' none other t = (t.0, t.1, refl, none)

-- what follows for each that may have been found
pub each_from : (shared : Bool) (before after : List ℕ → Type 0) (P Q : List ℕ → List ℕ → List ℕ → Type 0)
    → ((found left seen : List ℕ) → before found → P found left seen → Q found left seen) → EachSeen shared before after P
    → EachSeen shared before after Q
each_from shared before after P Q follows each =
    λ seen may.
    let (found, was, rest) = each seen may in
    let (left, is, p) = rest in (found, was, (left, is, follows found left seen was p))

-- In a memory of the device's own one list of bytes is all that it may be
pub sound_own : (m : List ℕ) (d : PlainDevice) → IsSound (standing false m d) → IsSoundIn false (λ k. k ≡ m) d
sound_own m d sound k is = subst (λ z. IsSound (standing false z d)) (sym is) sound

-- rings of one size fit a memory of that size
pub fits_at : (size : ℕ) (m : List ℕ) (v d : PlainDevice) → v ≡ d → length m ≡ size → FitsIn size d → FitsIn (length m) v
fits_at size m v d is e fits = subst (λ z. FitsIn (length m) z) (sym is) (subst (λ n. FitsIn n d) (sym e) fits)

-- The events that need no memory

abbrev pub NeedsNone : Event → Type 0
NeedsNone (Event.Poke x) = ⊥
NeedsNone (Event.Fetch i) = ⊥
NeedsNone (Event.Direct i) = ⊥
NeedsNone (Event.Answer k) = ⊥
NeedsNone Event.AnswerTmf = ⊥
NeedsNone Event.Raise = ⊥
NeedsNone e = ⊤

-- complete nothing, and leave memory as it was
unseen_alone : (w w' : PlainWorld) (t : Transition) → NeedsNone (event_of t) → w' ≡ after t w
    → SeesBy (completion_of t) w'.memory w.memory
unseen_alone w w' (Transition.UseBuffer f xs) none next = absurd none
unseen_alone w w' (Transition.Direct c o xs) none next = absurd none
unseen_alone w w' (Transition.Answer k x o xs) none next = absurd none
unseen_alone w w' (Transition.Respond c r xs) none next = absurd none
unseen_alone w w' (Transition.Give r c xs) none next = absurd none
unseen_alone w w' (Transition.Poke x) none next = absurd none
unseen_alone w w' t none next = sym (ap (λ (z : PlainWorld). z.memory) next)

unwritten_alone : (t : Transition) → NeedsNone (event_of t) → (action_of t).writes ≡ []
unwritten_alone (Transition.UseBuffer f xs) none = absurd none
unwritten_alone (Transition.Direct c o xs) none = absurd none
unwritten_alone (Transition.Answer k x o xs) none = absurd none
unwritten_alone (Transition.Respond c r xs) none = absurd none
unwritten_alone (Transition.Give r c xs) none = absurd none
unwritten_alone (Transition.Poke x) none = absurd none
unwritten_alone t none = refl

pub alone_seen : (stored : List Write → Type 0) (w : PlainWorld) (e : Event) (b : Bool) (w' : PlainWorld) → stored []
    → NeedsNone e → Turns w e b w' → TurnsSeen stored w.memory w e b w'
alone_seen stored w e true w' nothing none t =
    let free = subst NeedsNone (sym t.1) none in (
      t.0,
      t.1,
      t.2,
      t.3,
      unseen_alone w w' t.0 free t.3,
      subst stored (sym (unwritten_alone t.0 free)) nothing,
    )
alone_seen stored w e false w' nothing none t = (t.0, t.1, refl, nothing)

-- so they take their turn in any memory, where nothing was stored
pub alone_in : (shared : Bool) (may_be : List ℕ → Type 0) (stored : List Write → Type 0) (d : PlainDevice) (e : Event) (b : Bool)
    (d' : PlainDevice) → stored [] → NeedsNone e → IsSoundIn shared may_be d → TurnsAlone d e b d'
    → TurnsIn shared may_be may_be stored d e b d'
alone_in shared may_be stored d e b d' nothing none sound t =
    each_read shared may_be may_be
    (λ m left seen. TurnsSeen stored seen (standing shared m d) e b (standing shared left d')) (λ m may. may)
    (λ m may.
    alone_seen stored (standing shared m d) e b (standing shared m d') nothing none (t shared m (sound m may)))

pub alone_in_or : (shared : Bool) (may_be : List ℕ → Type 0) (stored : List Write → Type 0) (d : PlainDevice) (e : Event)
    (r : Result Bool NoMemory) (d' : PlainDevice) → stored [] → NeedsNone e → IsSoundIn shared may_be d → HasFew d
    → TurnsAloneOrWants d e r d' → TurnsInOrWants shared may_be may_be stored d e r d'
alone_in_or shared may_be stored d e (Ok b) d' nothing none sound few t =
    each_read shared may_be may_be
    (λ m left seen. TurnsSeen stored seen (standing shared m d) e b (standing shared left d')) (λ m may. may)
    (λ m may.
    alone_seen stored (standing shared m d) e b (standing shared m d') nothing none
    (t shared m (sound m may) (few_in shared m d few)))
alone_in_or shared may_be stored d e (Err x) d' nothing none sound few t =
    each_read shared may_be may_be
    (λ m left seen. TurnsSeenOrWants stored seen (standing shared m d) e (Err x) (standing shared left d')) (λ m may. may)
    (λ m may. let wants = t shared m (sound m may) (few_in shared m d few) in (wants.0, wants.1, refl, nothing))

-- Where a memory is as it was, nothing was stored
pub none_known : {X S : Type 0} (known : X → S) (storing : S → List Store → S) → ((s : S) → storing s [] ≡ s) → (x y : X)
    → known y ≡ known x → Stored known storing x y []
none_known known storing none x y same = same ∙ sym (none (known x))

-- and where a phase began meanwhile
pub turns_begun : {X S : Type 0} (known : X → S) (storing : S → List Store → S) (x z y : X) (shared : Bool)
    (before after : List ℕ → Type 0) (d : PlainDevice) (e : Event) (r : Result Bool NoMemory) (d' : PlainDevice)
    → known z ≡ known x → TurnsInOrWants shared before after (Stored known storing z y) d e r d'
    → TurnsInOrWants shared before after (Stored known storing x y) d e r d'
turns_begun {X} {S} known storing x z y shared before after d e r d' same t =
    subst (λ (s : S). TurnsInOrWants shared before after (λ ws. known y ≡ storing s (stores_of ws)) d e r d') same t

-- what is known then is what was known
pub still_known : {X S : Type 0} (known : X → S) (storing : S → List Store → S) → ((s : S) → storing s [] ≡ s) → (x y : X)
    → Stored known storing x y [] → known y ≡ known x
still_known known storing none x y h = h ∙ none (known x)

-- and what was stored behind it was stored
pub on_known : {X S : Type 0} (known : X → S) (storing : S → List Store → S) (x z : X) → known z ≡ known x → (y : X)
    (ws : List Write) → Stored known storing z y ws → Stored known storing x y ws
on_known {X} {S} known storing x z same y ws h = h ∙ ap (λ (s : S). storing s (stores_of ws)) same

pub turn_known : {X S : Type 0} (known : X → S) (storing : S → List Store → S) (x z y : X) (shared : Bool)
    (before after : List ℕ → Type 0) (d : PlainDevice) (e : Event) (b : Bool) (d' : PlainDevice)
    → known z ≡ known x → TurnsIn shared before after (Stored known storing z y) d e b d'
    → TurnsIn shared before after (Stored known storing x y) d e b d'
turn_known {X} {S} known storing x z y shared before after d e b d' same t =
    subst (λ (s : S). TurnsIn shared before after (λ ws. known y ≡ storing s (stores_of ws)) d e b d') same t

-- Writes behind others were stored as all of them in order

stores_both : (a b : List Write) → stores_of a ++ stores_of b ≡ stores_of (a ++ b)
stores_both [] b = refl
stores_both (w ∷ a) b =
    append_assoc (stores_at w.addr w.bytes) (stores_of a) (stores_of b)
    ∙ ap (λ (ss : List Store). stores_at w.addr w.bytes ++ ss) (stores_both a b)

pub both_known : {X S : Type 0} (known : X → S) (storing : S → List Store → S)
    → ((s : S) (a b : List Store) → storing (storing s a) b ≡ storing s (a ++ b)) → (x y z : X) (us ws : List Write)
    → Stored known storing x y us → Stored known storing y z ws → Stored known storing x z (us ++ ws)
both_known {X} {S} known storing both x y z us ws first then =
    then ∙ ap (λ (s : S). storing s (stores_of ws)) first ∙ both (known x) (stores_of us) (stores_of ws)
    ∙ ap (λ (ss : List Store). storing (known x) ss) (stores_both us ws)
