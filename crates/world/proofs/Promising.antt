-- What a run of the device promises.
use Rattle.std.proofs.Common.{◌≡◌, ℕ, ◌+◌, Bool, arith, List, [], ◌∷◌, ◌++◌, map, if◌then◌else◌, Result, Ok, Err, refl, sym, ap, ◌∙◌, subst}
use Rattle.foundation.specs.declared.NoMemory.{NoMemory}
use Rattle.device_model.specs.World.{PlainWorld}
use Rattle.device_model.specs.Events.{Event}
use Rattle.device_model.specs.Transitions.{Transition, event_of}
use Rattle.device_model.specs.Happens.{Occurrence, Runs, Reached, occurrence_of}
use Rattle.device_model.specs.Turns.{count_changes}
use Rattle.device_model.specs.Promise.{IsPromised}
use Rattle.device_model.proofs.Runs.{settles_of_run, each_changes_of}
use Rattle.world.specs.Steps.{Steps}
use Rattle.device_steps.specs.Settling.{ServesBy}
use Rattle.world.specs.Promise.{GoesOn, GoesOnInOrder, StepsAsPromised}

-- the promise is kept by every trace
abbrev pub AllArePromised : Type 0
AllArePromised = (old : PlainWorld) (trace : List Occurrence) (w : PlainWorld) (r : Reached old trace w) → IsPromised old trace w r

-- and every run goes on
abbrev pub AllGoOn : Type 0
AllGoOn =
    (old : PlainWorld) (past more : List Occurrence) (w after : PlainWorld) → Reached old past w → Runs w more after
    → Reached old (more ++ past) after

pub goes_on : AllArePromised → AllGoOn → (w w' : PlainWorld) (more : List Occurrence) (events : List Event) (count : ℕ)
    → Runs w more w' → map (λ (o : Occurrence). o.event) more ≡ events → count_changes more ≡ count
    → GoesOn w events count w'
goes_on p g w w' more events count r e n =
    record {
      more = more;
      told = e;
      counted = n;
      reaches = λ old past h. g old past more w w' h r;
      kept = λ old past h. p old (more ++ past) w' (g old past more w w' h r);
    }

one_changes : (a b : Bool) → a ≡ b → (if a then 1 else 0) + 0 ≡ (if b then 1 else 0)
one_changes a b e = subst (λ z. (if a then 1 else 0) + 0 ≡ (if z then 1 else 0)) e (omega arith)

pub steps_promised : AllArePromised → AllGoOn → (w : PlainWorld) (e : Event) (r : Result Bool NoMemory) (w' : PlainWorld)
    → Steps w e r w' → StepsAsPromised w e r w'
steps_promised p g w e (Ok changed) w' h =
    goes_on p g w w' (record { event = e; action = h.action } ∷ []) (e ∷ []) (if changed then 1 else 0)
    (w, refl, h.step) refl (one_changes h.action.changed changed h.told)
steps_promised p g w e (Err x) w' h = h

-- the events of transitions
told : (ds : List Transition) → map (λ (o : Occurrence). o.event) (map occurrence_of ds) ≡ map event_of ds
told [] = refl
told (d ∷ ds) = ap (λ xs. event_of d ∷ xs) (told ds)

pub served : AllArePromised → AllGoOn → (asked : ℕ → Bool) (w : PlainWorld) (count : ℕ) (w' : PlainWorld)
    → ServesBy asked w count w' → GoesOnInOrder asked w count w'
served p g asked w count w' h =
    let more = map occurrence_of h.transitions in
    let r : Runs w more w' = subst (λ v. Runs w more v) (sym h.is) (settles_of_run asked w h.transitions h.settles) in
    record {
      serves = h;
      goes_on = goes_on p g w w' more (map event_of h.transitions) count r (told h.transitions)
          (each_changes_of asked w h.transitions h.settles ∙ h.counted);
    }
