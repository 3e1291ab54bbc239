-- Steps that serve a guest leave the storages of disks as they are.
use Rattle.std.proofs.Common.{◌≡◌, ℕ, Bool, true, false, eqb, List, [], ◌∷◌, ◌++◌, length, if◌then◌else◌, Some, refl, sym, ◌∙◌, ap, subst, zero, suc, inl, inr}
use Rattle.std.specs.Prelude.{slice_get, ◌⊎◌, ⊤}
use Rattle.unit_model.specs.Steps.{Step}
use Rattle.unit_model.specs.Contents.{capacity_of}
use Rattle.unit_model.specs.Unit.{PlainUnit, after as stepped, parking, dealing}
use Rattle.task_mgmt.specs.Functions.{step_by}
use Rattle.task_mgmt.specs.declared.kind.MarkBy.TheVariants.{Abort, Reset}
use Rattle.device_model.specs.World.{PlainWorld, change}
use Rattle.device_model.specs.Events.{Event}
use Rattle.device_model.specs.Transitions.{Transition, event_of}
use Rattle.device_model.specs.Event.Hard.{hard_code}
use Rattle.device_model.specs.After.{after}
use Rattle.device_model.specs.Happens.{world_of, WorldStep}
use Rattle.device_model.specs.Applies.{Applies}
use Rattle.device_model.specs.Order.{each, of_seat, fetch_of, order_by, IsFirstOf}
use Rattle.device_model.specs.Settling.{SettlesOf}
use Rattle.device_model.specs.Turns.{Turns, IsStep}
use Rattle.device_model.proofs.Lists.{at_other}
use Rattle.stored_world.specs.Keeping.{is_served, HasDiskOf, KeepsDisks}

pub same_disk : (u : PlainUnit) → HasDiskOf u u
same_disk u = record { storage = refl; capacity = refl }

pub keeps_all : (w : PlainWorld) → KeepsDisks w w
keeps_all w k v at = (v, at, same_disk v)

pub keeps_on : (w m n : PlainWorld) → KeepsDisks w m → KeepsDisks m n → KeepsDisks w n
keeps_on w m n first second k v at =
    let s = second k v at in
    let f = first k s.0 s.1 in
    (f.0, f.1, record { storage = s.2.storage ∙ f.2.storage; capacity = s.2.capacity ∙ f.2.capacity })

-- a change of one unit that leaves its disk
changed : (g : PlainUnit → PlainUnit) (i : ℕ) (us : List PlainUnit) → ((u : PlainUnit) → HasDiskOf u (g u)) → (k : ℕ) (v : PlainUnit)
    → slice_get (change g i us) k ≡ Some v → (u : PlainUnit) × (slice_get us k ≡ Some u) × HasDiskOf u v
changed g i us keeps k v at =
    let o = at_other g i us k v at in (
      o.0,
      o.1,
      elim o.2 [
        | inl here ↦ subst (λ x. HasDiskOf o.0 x) (sym here.1) (keeps o.0)
        | inr beside ↦ subst (λ x. HasDiskOf o.0 x) (sym beside.1) (same_disk o.0)
      ],
    )

plainly : {u v : PlainUnit} → v.storage ≡ u.storage → capacity_of v.opening v.steps ≡ capacity_of u.opening u.steps → HasDiskOf u v
plainly s c = record { storage = s; capacity = c }

pub transition_keeps : (d : Transition) (w : PlainWorld) → is_served (event_of d) ≡ true → KeepsDisks w (after d w)
transition_keeps (Transition.Run x) w served k v at =
    changed (stepped (Step.Enter x.entry)) x.unit w.units (λ u. plainly refl refl) k v at
transition_keeps (Transition.Park x) w served k v at = changed (parking x) x.unit w.units (λ u. plainly refl refl) k v at
transition_keeps (Transition.EnterFull x) w served k v at =
    changed (stepped (Step.Full x.entry.ticket)) x.unit w.units (λ u. plainly refl refl) k v at
transition_keeps (Transition.Commit i x r) w served k v at =
    changed (stepped (Step.Commit x.entry.ticket r)) x.unit w.units (λ u. plainly refl refl) k v at
transition_keeps (Transition.Withhold i x r) w served k v at =
    changed (stepped (Step.Commit x.entry.ticket r)) x.unit w.units (λ u. plainly refl refl) k v at
transition_keeps (Transition.CommitBusy i x) w served k v at =
    changed (stepped (Step.Busy x.entry.ticket)) x.unit w.units (λ u. plainly refl refl) k v at
transition_keeps (Transition.Leave i p t jobs) w served k v at =
    changed (stepped (Step.Leave t)) p w.units (λ u. plainly refl refl) k v at
transition_keeps (Transition.Mark t p (Abort rule) jobs) w served k v at =
    changed (stepped (step_by (Abort rule))) p.unit w.units (λ u. plainly refl refl) k v at
transition_keeps (Transition.Mark t p (Reset c) jobs) w served k v at =
    changed (stepped (step_by (Reset c))) p.unit w.units (λ u. plainly refl refl) k v at
transition_keeps (Transition.Hard p jobs) w served k v at =
    changed (stepped (Step.Reset hard_code)) p.unit w.units (λ u. plainly refl refl) k v at
transition_keeps (Transition.Resize p blocks) w served k v at = let no : false ≡ true = served in cc
transition_keeps (Transition.Deal p x) w served k v at = let no : false ≡ true = served in cc
transition_keeps d w served k v at = (v, at, same_disk v)

-- each event of the order is one that serves
abbrev AllServed : List Event → Type 0
AllServed [] = ⊤
AllServed (e ∷ es) = (is_served e ≡ true) × AllServed es

both : (es fs : List Event) → AllServed es → AllServed fs → AllServed (es ++ fs)
both [] fs h g = g
both (e ∷ es) fs h g = (h.0, both es fs h.1 g)

each_served : (f : ℕ → List Event) → ((i : ℕ) → AllServed (f i)) → (n : ℕ) → AllServed (each f n)
each_served f h zero = tt
each_served f h (suc n) = both (each f n) (f n) (each_served f h n) (h n)

fetch_served : (asked : ℕ → Bool) (q : ℕ) → AllServed (fetch_of asked q)
fetch_served asked q = elim (asked q) as (λ t. AllServed (if t then Event.Fetch q ∷ [] else [])) [ true ↦ (refl, tt) | false ↦ tt ]

order_served : (asked : ℕ → Bool) (queues seats : ℕ) → AllServed (order_by asked queues seats)
unfolding order_by
order_served asked queues seats =
    both (Event.AnswerTmf ∷ Event.Check ∷ Event.Mark ∷ Event.Raise ∷ each (λ q. Event.Direct q ∷ []) queues)
    (each of_seat seats ++ (each (λ q. Event.Enter q ∷ []) queues ++ each (fetch_of asked) queues))
    (refl, (refl, (refl, (refl, each_served (λ q. Event.Direct q ∷ []) (λ q. (refl, tt)) queues))))
    (both (each of_seat seats) (each (λ q. Event.Enter q ∷ []) queues ++ each (fetch_of asked) queues)
    (each_served of_seat (λ k. (refl, (refl, (refl, (refl, (refl, (refl, tt))))))) seats)
    (both (each (λ q. Event.Enter q ∷ []) queues) (each (fetch_of asked) queues)
    (each_served (λ q. Event.Enter q ∷ []) (λ q. (refl, tt)) queues) (each_served (fetch_of asked) (fetch_served asked) queues)))

first_served : (w : PlainWorld) (es : List Event) (e : Event) → AllServed es → IsFirstOf w es e → is_served e ≡ true
first_served w [] e h f = absurd f
first_served w (x ∷ xs) e h (inl here) = ap is_served (sym here.1) ∙ h.0
first_served w (x ∷ xs) e h (inr later) = first_served w xs e h.1 later.1

-- what is done in the order keeps them
pub serving_keeps : (asked : ℕ → Bool) (w : PlainWorld) (ds : List Transition) → SettlesOf asked w ds → KeepsDisks w (world_of w ds)
serving_keeps asked w [] settles = keeps_all w
serving_keeps asked w (d ∷ past) (before, happens, next) =
    let m = world_of w past in
    let served = first_served m (order_by asked (length m.queues) (length m.seats)) (event_of d) (order_served asked (length m.queues) (length m.seats)) next in
    keeps_on w m (after d m) (serving_keeps asked w past before) (transition_keeps d m served)

-- one step keeps them
pub step_keeps : (w w' : PlainWorld) (e : Event) (changed : Bool) → is_served e ≡ true → IsStep w e changed w' → KeepsDisks w w'
step_keeps w w' e told served s =
    let t = s.step in
    subst (λ x. KeepsDisks w x) (sym t.is) (transition_keeps t.transition w (ap is_served t.event ∙ served))

pub turn_keeps : (w w' : PlainWorld) (e : Event) (changed : Bool) → is_served e ≡ true → Turns w e changed w' → KeepsDisks w w'
turn_keeps w w' e true served (d, event, happens, is) =
    subst (λ x. KeepsDisks w x) (sym is) (transition_keeps d w (ap is_served event ∙ served))
turn_keeps w w' e false served (is, never) = subst (λ x. KeepsDisks w x) (sym is) (keeps_all w)
