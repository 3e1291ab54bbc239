-- What a unit's log says of its base after each step, and what it may forget.
use Rattle.std.proofs.Common.{◌≡◌, ℕ, ◌+◌, ◌-◌, ◌<◌, ◌≤◌, Bool, true, false, not, ◌&&◌, ◌||◌, cond, nat_lt, max, List, [], ◌∷◌, ◌++◌, map, length, Option, Some, None, ◌⊎◌, inl, inr, refl, sym, ◌∙◌, ap, subst, arith}
use Rattle.std.proofs.lemmas.Bool.{ltb-true, ltb-false}
use Rattle.ring_core.specs.declared.log.Ticket.{Ticket}
use Rattle.unit_model.specs.declared.rule.Rule.TheVariants as rules
use Rattle.unit_model.specs.declared.rule.Rule.{Rule}
use Rattle.unit_model.specs.Tasks.{same_ticket, meets}
use Rattle.unit_model.specs.Steps.{Step}
use Rattle.unit_model.specs.Base.{folds, base_of}
use Rattle.unit_model.specs.Clearing.{rule_at, is_clear}
use Rattle.unit_model.specs.Contents.{Opening, capacity_of}
use Rattle.unit_model.specs.Lawful.{IsLawful}
use Rattle.unit_model.proofs.Waiting.{clear_is, clear_none}
use Rattle.unit_model.specs.Seen.{Seen, any_before, tasks_of, others}
use Rattle.unit_model.specs.Jobs.{PlainJob}
use Rattle.task_set.specs.Tasks.{PlainTask}
use Rattle.task_set.specs.Inner.Tasks.{seen_of, moved, without, entering}
use Rattle.logical_unit.specs.Inner.Performing.{PlainPerformed, step_for}
use Rattle.logical_unit.specs.Inner.Parts.{AreBehind, AreClear, AreBased}
use Rattle.logical_unit.proofs.KeepingSet.{seen_moved, seen_without, seen_push}

-- the place of its Enter stays
abbrev pub StaysThere : (Seen → Seen) → Type 0
StaysThere f = (s : Seen) → (f s).place ≡ s.place

behind_map : (f : Seen → Seen) (n : ℕ) (tasks : List Seen) → StaysThere f → AreBehind n tasks → AreBehind n (map f tasks)
behind_map f n [] same b = tt
behind_map f n (s ∷ tasks) same b = (let h = b.0 in let k = same s in omega (arith, h, k), behind_map f n tasks same b.1)

behind_others : (t : Ticket) (n : ℕ) (tasks : List Seen) → AreBehind n tasks → AreBehind n (others t tasks)
behind_others t n [] b = tt
behind_others t n (s ∷ tasks) b =
    elim (same_ticket s.entry.ticket t) as (λ x. AreBehind n (cond x tasks (s ∷ others t tasks))) [
      | true ↦ b.1
      | false ↦ (b.0, behind_others t n tasks b.1)
    ]

behind_push : (n : ℕ) (tasks : List Seen) (s : Seen) → AreBehind n tasks → n ≤ s.place + 1 → AreBehind n (tasks ++ s ∷ [])
behind_push n [] s b le = (le, tt)
behind_push n (x ∷ tasks) s b le = (b.0, behind_push n tasks s b.1 le)

pub behind_moved : (f : Seen → Seen) (n : ℕ) (tasks : List PlainTask) → StaysThere f → AreBehind n (seen_of tasks) → AreBehind n (seen_of (map (moved f) tasks))
behind_moved f n tasks same b = subst (AreBehind n) (sym (seen_moved f tasks)) (behind_map f n (seen_of tasks) same b)

pub behind_without : (t : Ticket) (n : ℕ) (tasks : List PlainTask) → AreBehind n (seen_of tasks) → AreBehind n (seen_of (without t tasks))
behind_without t n tasks b = subst (AreBehind n) (sym (seen_without t tasks)) (behind_others t n (seen_of tasks) b)

pub behind_entering : (place n : ℕ) (tasks : List PlainTask) (j : PlainJob) → n ≤ place → AreBehind n (seen_of tasks)
    → AreBehind n (seen_of (tasks ++ entering place tasks j ∷ []))
behind_entering place n tasks j le b =
    subst (AreBehind n) (sym (seen_push tasks (entering place tasks j)))
    (behind_push n (seen_of tasks) (entering place tasks j).seen b (omega (arith, le)))

-- where no task entered before a place, what the steps up to it met may be forgotten
none_before : (s : Seen) (place : ℕ) (more : Bool) → ((nat_lt s.place place && true) || more) ≡ false → (place ≤ s.place) × (more ≡ false)
none_before s place more e =
    (elim (nat_lt s.place place) as (λ b. nat_lt s.place place ≡ b → ((b && true) || more) ≡ false → (place ≤ s.place) × (more ≡ false)) [
      | true ↦ λ k h. absurd (cc)
      | false ↦ λ k h. (ltb-false s.place place k, h)
    ]) refl e

behind_forgotten : (n place : ℕ) (tasks : List Seen) → AreBehind n tasks → any_before place rules.All tasks ≡ false → AreBehind (max n (place + 1)) tasks
behind_forgotten n place [] b none = tt
behind_forgotten n place (s ∷ tasks) b none =
    let h = none_before s place (any_before place rules.All tasks) none in
    (let le = b.0 in let at = h.0 in omega (arith, le, at), behind_forgotten n place tasks b.1 h.1)

pub clear_forgotten : (n n' place : ℕ) (steps : List Step) (tasks : List Seen) → n' ≡ max n (place + 1) → place < length steps
    → any_before place rules.All tasks ≡ false → AreClear n steps tasks → AreClear n' steps tasks
clear_forgotten n n' place steps tasks is below none c =
    subst (λ k. AreClear k steps tasks) (sym is) (let le = c.0 in omega (arith, le, below), behind_forgotten n place tasks c.1 none)

-- no task that entered before a place that is forgotten is met
pub none_met : (n place : ℕ) (rule : Rule) (tasks : List Seen) → AreBehind n tasks → place < n → any_before place rule tasks ≡ false
none_met n place rule [] b below = refl
none_met n place rule (s ∷ tasks) b below =
    let rest = none_met n place rule tasks b.1 below in
    (elim (nat_lt s.place place) as (λ x. nat_lt s.place place ≡ x → ((x && meets rule s.entry) || any_before place rule tasks) ≡ false) [
      | true ↦ λ k. absurd (let at = ltb-true s.place place k in let le = b.0 in omega (arith, at, le, below))
      | false ↦ λ k. rest
    ]) refl

-- after a step that brings more, for which way was made
pub based_way : (base' n n' : ℕ) (s : Step) (past steps' : List Step) (tasks tasks' : List Seen) → folds s ≡ true → base' ≡ length past - 4095 → n' ≡ n
    → steps' ≡ s ∷ past → (n ≤ length past → AreBehind n tasks → AreBehind n tasks') → AreClear n past tasks → AreBased base' n' steps' tasks'
based_way base' n n' s past steps' tasks tasks' brings is same steps on c =
    subst (λ w. AreBased base' n' w tasks') (sym steps) (subst (λ k. AreBased base' k (s ∷ past) tasks') (sym same) (record {
      based = is ∙ sym (ap (λ b. cond b (length past - 4095) (base_of past)) brings);
      clear = (let le = c.0 in omega (arith, le), on c.0 c.1);
    }))

-- after another
pub based_on : (base base' n n' : ℕ) (s : Step) (past steps' : List Step) (tasks tasks' : List Seen) → AreBased base n past tasks → folds s ≡ false → base' ≡ base → n' ≡ n
    → steps' ≡ s ∷ past → (AreBehind n tasks → AreBehind n tasks') → AreBased base' n' steps' tasks'
based_on base base' n n' s past steps' tasks tasks' k brings is same steps on =
    subst (λ w. AreBased base' n' w tasks') (sym steps) (subst (λ m. AreBased base' m (s ∷ past) tasks') (sym same) (record {
      based = is ∙ k.based ∙ sym (ap (λ b. cond b (length past - 4095) (base_of past)) brings);
      clear = (let le = k.clear.0 in omega (arith, le), on k.clear.1);
    }))

pub ran_folds : (t : Ticket) (p : Option PlainPerformed) → folds (step_for t p) ≡ false
ran_folds t None = refl
ran_folds t (Some p) = refl

-- a command leaves the capacity
pub ran_sized : (o : Opening) (t : Ticket) (p : Option PlainPerformed) (past steps : List Step) → steps ≡ step_for t p ∷ past → capacity_of o steps ≡ capacity_of o past
ran_sized o t None past steps is = ap (λ w. capacity_of o w) is
ran_sized o t (Some p) past steps is = ap (λ w. capacity_of o w) is

-- a place is clear where no Abort and no Reset stands, and where what these met is forgotten
pub clear_forgotten_place : (o : Opening) (n place : ℕ) (steps : List Step) → IsLawful o steps → AreBehind n (tasks_of steps)
    → (rule_at place steps ≡ None) ⊎ (place < n) → is_clear place steps ≡ true
clear_forgotten_place o n place steps lawful behind (inl none) = clear_none place steps none
clear_forgotten_place o n place steps lawful behind (inr below) =
    (elim (rule_at place steps) as (λ r. rule_at place steps ≡ r → is_clear place steps ≡ true) [
      | None ↦ λ e. clear_none place steps e
      | Some rule ↦ λ e. clear_is o place rule steps lawful e ∙ ap not (none_met n place rule (tasks_of steps) behind below)
    ]) refl
