-- A run is its transitions, and goes on.
use Rattle.std.proofs.Common.{◌≡◌, List, [], ◌∷◌, ◌++◌, refl, sym, ◌∙◌, ap, subst}
use Rattle.std.specs.Prelude.{map}
use Rattle.ring_core.specs.Writes.{all_written}
use Rattle.device_model.specs.World.{PlainWorld}
use Rattle.device_model.specs.Events.{Event}
use Rattle.device_model.specs.Transitions.{Transition, Action, event_of, action_of}
use Rattle.device_model.specs.After.{after}
use Rattle.device_model.specs.Happens.{Occurrence, MayHappen, Runs, transitions_of, occurrence_of, world_of, Leads}
use Rattle.device_model.specs.Phases.{bytes_after}
use Rattle.device_model.specs.Laws.{memory_after}

pub runs_on : (old m w : PlainWorld) (past more : List Occurrence) → Runs old past m → Runs m more w
    → Runs old (more ++ past) w
runs_on old m w past [] r s = let P : PlainWorld → Type 0 = λ v. Runs old past v in subst P (sym s) r
runs_on old m w past (o ∷ more) r s = (s.0, runs_on old m s.0 past more r s.1, s.2)

pub run_world : (old : PlainWorld) (trace : List Occurrence) (w : PlainWorld) (r : Runs old trace w)
    → w ≡ world_of old (transitions_of old trace w r)
run_world old [] w r = r
run_world old (e ∷ past) w r = r.2.is ∙ ap (after r.2.transition) (run_world old past r.0 r.1)

pub run_leads : (old : PlainWorld) (trace : List Occurrence) (w : PlainWorld) (r : Runs old trace w)
    → Leads old (transitions_of old trace w r)
run_leads old [] w r = tt
run_leads old (e ∷ past) w r =
    (run_leads old past r.0 r.1, subst (MayHappen r.2.transition) (run_world old past r.0 r.1) r.2.may)

abbrev both : Event → Action → Occurrence
both e a = record { event = e; action = a }

joined : (e f : Event) (a b : Action) → f ≡ e → b ≡ a → both e a ≡ both f b
joined e f a b p q = cc

occurrence_is : (e : Occurrence) (d : Transition) → event_of d ≡ e.event → action_of d ≡ e.action → e ≡ occurrence_of d
occurrence_is e d p q = joined e.event (event_of d) e.action (action_of d) p q

pub run_told : (old : PlainWorld) (trace : List Occurrence) (w : PlainWorld) (r : Runs old trace w)
    → trace ≡ map occurrence_of (transitions_of old trace w r)
run_told old [] w r = refl
run_told old (e ∷ past) w r =
    let a = occurrence_is e r.2.transition r.2.event r.2.action in
    let b = run_told old past r.0 r.1 in
    cc

-- the transition's writes are what it does to memory
pub writes : (d : Transition) (w : PlainWorld) → (after d w).memory ≡ bytes_after d w.memory
writes (Transition.Poke x) w = refl
writes (Transition.UseBuffer f xs) w = refl
writes (Transition.Direct c o xs) w = refl
writes (Transition.Answer k x o xs) w = refl
writes (Transition.Respond c r xs) w = refl
writes (Transition.Give e c xs) w = refl
writes (Transition.Idle e) w = refl
writes d w = refl

pub run_memory : (old : PlainWorld) (trace : List Occurrence) (w : PlainWorld) → Runs old trace w
    → w.memory ≡ memory_after old.memory trace
run_memory old [] w r = ap (λ (v : PlainWorld). v.memory) r
run_memory old (e ∷ past) w r =
    ap (λ (v : PlainWorld). v.memory) r.2.is ∙ writes r.2.transition r.0
    ∙ ap (λ l. all_written l (action_of r.2.transition).writes) (run_memory old past r.0 r.1)
    ∙ ap (λ (a : Action). all_written (memory_after old.memory past) a.writes) r.2.action
