-- A device that was reached goes on to be.
use Rattle.std.proofs.Common.{ℕ, ◌≡◌, Bool, true, false, List, [], ◌∷◌, length, Option, Some, None, Result, Ok, Err, refl, sym, ap, ◌∙◌, subst}
use Rattle.foundation.specs.declared.NoMemory.{NoMemory}
use Rattle.std.specs.Prelude.{map, slice_get}
use Rattle.device_model.specs.World.{PlainWorld}
use Rattle.device_model.specs.Events.{Event}
use Rattle.device_model.specs.Transitions.{Transition, event_of}
use Rattle.device_model.specs.After.{after}
use Rattle.device_model.specs.Happens.{world_of}
use Rattle.device_model.specs.Settling.{SettlesOf}
use Rattle.device_steps.specs.Settling.{ServesBy}
use Rattle.device_model.specs.Turns.{Turns}
use Rattle.device_model.proofs.Turning.{step_of}
use Rattle.device_steps.specs.Apart.{PlainDevice, standing}
use Rattle.device_steps.specs.Inner.Apart.{TurnsAlone, TurnsAloneOrWants}
use Rattle.device_steps.specs.Sound.{AreFew, AreFitting, IsSteady, IsWhole}
use Rattle.device_steps.specs.Inner.Sound.{IsSound}
use Rattle.world.specs.Steps.{Steps}
use Rattle.device_steps.specs.Inner.Steps.{TurnsOrWants}
use Rattle.device_steps.specs.Inner.Cursors.{TurnsNext}
use Rattle.device_steps.specs.declared.cursor.Progress.{Progress}
use Rattle.device_steps.proofs.Keeping.{room_of, rooms_stay}
use Rattle.device_steps.proofs.Reached.{whole_by}
use Rattle.device_steps.proofs.Setting.{map_get, each_image}

-- by transitions, each of the first event that applied
whole_by_transitions : (asked : ℕ → Bool) (w : PlainWorld) (ds : List Transition) → IsWhole w → SettlesOf asked w ds → IsWhole (world_of w ds)
whole_by_transitions asked w [] h s = h
whole_by_transitions asked w (d ∷ ds) h s =
    whole_by (world_of w ds) (event_of d) true (after d (world_of w ds)) (whole_by_transitions asked w ds h s.0) (d, refl, s.1, refl)

-- by what was served
pub whole_by_serving : (asked : ℕ → Bool) (w : PlainWorld) (n : ℕ) (w' : PlainWorld) → IsWhole w → ServesBy asked w n w' → IsWhole w'
whole_by_serving asked w n w' h s = subst IsWhole (sym s.is) (whole_by_transitions asked w s.transitions h s.settles)

-- by what was first in the order, or where nothing was left, or memory was refused
pub whole_by_next : (asked : ℕ → Bool) (most : ℕ) (w : PlainWorld) (r : Result (Option Progress) NoMemory) (w' : PlainWorld) → IsWhole w
    → TurnsNext asked most w r w' → IsWhole w'
whole_by_next asked most w (Ok (Some s)) w' h t = whole_by_serving asked w s.steps w' h t.serves
whole_by_next asked most w (Ok None) w' h t = subst IsWhole (sym t.0) h
whole_by_next asked most w (Err x) w' h t = subst IsWhole (sym t.0) h

-- a turn of an event, or want of memory, is a step
pub steps_by_result : (w : PlainWorld) (e : Event) (r : Result Bool NoMemory) (w' : PlainWorld) → TurnsOrWants w e r w'
    → Steps w e r w'
steps_by_result w e (Ok b) w' t = step_of w e b w' t
steps_by_result w e (Err x) w' t = t

-- a turn of an event that can't want memory
pub steps_by : (w : PlainWorld) (e : Event) (b : Bool) (w' : PlainWorld) → Turns w e b w' → Steps w e (Ok b) w'
steps_by w e b w' t = step_of w e b w' t

-- Each ring keeps the size of its memory

pub rooms_along : (w : PlainWorld) (ds : List Transition) → map room_of (world_of w ds).queues ≡ map room_of w.queues
rooms_along w [] = refl
rooms_along w (d ∷ ds) = rooms_stay d (world_of w ds) ∙ rooms_along w ds

-- so it fits a memory that is as long as before
pub fits_by : (w w' : PlainWorld) → map room_of w'.queues ≡ map room_of w.queues → length w'.memory ≡ length w.memory
    → AreFitting w → AreFitting w'
fits_by w w' rooms size fits i q at =
    let all = each_image room_of (λ n. n ≡ length w.memory) w.queues fits in
    all i (room_of q) (ap (λ ns. slice_get ns i) (sym rooms) ∙ map_get room_of i w'.queues q at) ∙ sym size

-- by a turn that leaves memory as long as it was
pub steady_by : (w : PlainWorld) (e : Event) (b : Bool) (w' : PlainWorld) → length w'.memory ≡ length w.memory
    → IsSteady w → Turns w e b w' → IsSteady w'
steady_by w e true w' size h t =
    record {
      whole = whole_by w e true w' h.whole t;
      fits = fits_by w w' (ap (λ (z : PlainWorld). map room_of z.queues) t.3 ∙ rooms_stay t.0 w) size h.fits;
    }
steady_by w e false w' size h t = subst IsSteady (sym t.0) h

-- or where memory was refused
pub steady_by_result : (w : PlainWorld) (e : Event) (r : Result Bool NoMemory) (w' : PlainWorld)
    → length w'.memory ≡ length w.memory → IsSteady w → TurnsOrWants w e r w' → IsSteady w'
steady_by_result w e (Ok b) w' size h t = steady_by w e b w' size h t
steady_by_result w e (Err x) w' size h t = subst IsSteady (sym t.1) h

-- and by what was first in the order
pub steady_by_next : (asked : ℕ → Bool) (most : ℕ) (w : PlainWorld) (r : Result (Option Progress) NoMemory) (w' : PlainWorld)
    → length w'.memory ≡ length w.memory → IsSteady w → TurnsNext asked most w r w' → IsSteady w'
steady_by_next asked most w (Ok (Some s)) w' size h t =
    record {
      whole = whole_by_next asked most w (Ok (Some s)) w' h.whole t;
      fits = fits_by w w'
          (ap (λ (z : PlainWorld). map room_of z.queues) t.serves.is ∙ rooms_along w t.serves.transitions) size h.fits;
    }
steady_by_next asked most w (Ok None) w' size h t = subst IsSteady (sym t.0) h
steady_by_next asked most w (Err x) w' size h t = subst IsSteady (sym t.0) h

-- The device alone, whatever stands in memory

pub alone_steady : (m : List ℕ) (d : PlainDevice) (e : Event) (b : Bool) (d' : PlainDevice) → IsSound (standing false m d)
    → IsSteady (standing false m d) → TurnsAlone d e b d' → IsSteady (standing false m d')
alone_steady m d e b d' sound h t = steady_by (standing false m d) e b (standing false m d') refl h (t false m sound)

pub alone_steps : (m : List ℕ) (d : PlainDevice) (e : Event) (b : Bool) (d' : PlainDevice) → IsSound (standing false m d)
    → TurnsAlone d e b d' → Steps (standing false m d) e (Ok b) (standing false m d')
alone_steps m d e b d' sound t = steps_by (standing false m d) e b (standing false m d') (t false m sound)

pub alone_steady_result : (m : List ℕ) (d : PlainDevice) (e : Event) (r : Result Bool NoMemory) (d' : PlainDevice)
    → IsSound (standing false m d) → AreFew (standing false m d) → IsSteady (standing false m d)
    → TurnsAloneOrWants d e r d' → IsSteady (standing false m d')
alone_steady_result m d e r d' sound few h t =
    steady_by_result (standing false m d) e r (standing false m d') refl h (t false m sound few)

pub alone_steps_result : (m : List ℕ) (d : PlainDevice) (e : Event) (r : Result Bool NoMemory) (d' : PlainDevice)
    → IsSound (standing false m d) → AreFew (standing false m d) → TurnsAloneOrWants d e r d'
    → Steps (standing false m d) e r (standing false m d')
alone_steps_result m d e r d' sound few t =
    steps_by_result (standing false m d) e r (standing false m d') (t false m sound few)
