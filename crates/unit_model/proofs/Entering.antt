-- The parked tasks after an Enter.
use Rattle.std.proofs.Common.{◌≡◌, ℕ, ◌+◌, Bool, true, false, not, ◌||◌, ◌&&◌, cond, List, [], ◌∷◌, ◌++◌, Option, refl, ◌∙◌, ap, arith, is_some}
use Rattle.std.specs.List.{AllByRecursion}
use Rattle.ring_core.specs.declared.log.Ticket.{Ticket}
use Rattle.unit_model.specs.declared.reason.Reason.{Reason}
use Rattle.unit_model.specs.Tasks.{Entry, same_ticket, task_of, is_blocked}
use Rattle.unit_model.specs.Steps.{Step, alive, has_entered}
use Rattle.unit_model.specs.Marks.{marked}
use Rattle.unit_model.specs.Enabling.{enabled, is_parked}
use Rattle.unit_model.specs.Weights.{weigh, parked_count}
use Rattle.unit_model.proofs.Tickets.{apart}
use Rattle.unit_model.proofs.Fresh.{Others, fresh, fresh_unmarked}
use Rattle.unit_model.proofs.Blocking.{blocked_more, enabled_entering}
use Rattle.unit_model.proofs.Clearing.{Each, all_found}
use Rattle.unit_model.proofs.Weight.{weigh_append, weigh_same}

stays : (a n b c : Bool) → (b ≡ true → c ≡ true) → ((a || (n && not b)) || (n && not c)) ≡ (a || (n && not b))
stays true n b c h = refl
stays false false b c h = refl
stays false true false c h = refl
stays false true true c h = ap not (h refl)

-- another task that enters leaves a task enabled, or not
pub enabled_other : (e f : Entry) (s : Step) (past : List Step) → same_ticket e.ticket f.ticket ≡ false → is_some (task_of f.ticket (alive (s ∷ past))) ≡ true
    → enabled f (Step.Enter e ∷ s ∷ past) ≡ enabled f (s ∷ past)
enabled_other e f s past ne found =
    let h = s ∷ past in
    ap (λ b. enabled f h || ((b || has_entered f.ticket h) && not (is_blocked f (alive h ++ e ∷ [])))) ne
    ∙ stays (enabled f past) (has_entered f.ticket h) (is_blocked f (alive h)) (is_blocked f (alive h ++ e ∷ [])) (blocked_more f (alive h) (e ∷ []) found)

-- another task that enters leaves a parked task parked
parked_other : (e f : Entry) (s : Step) (past : List Step) → same_ticket e.ticket f.ticket ≡ false → is_some (task_of f.ticket (alive (s ∷ past))) ≡ true
    → is_parked (Step.Enter e ∷ s ∷ past) f ≡ is_parked (s ∷ past) f
parked_other e f s past ne found = ap (λ b. not b && not (marked f.ticket (s ∷ past))) (enabled_other e f s past ne found)

same_enter : (e : Entry) (s : Step) (past : List Step) (es : List Entry) → Each (λ f. is_some (task_of f.ticket (alive (s ∷ past))) ≡ true) es → Others e.ticket es
    → AllByRecursion (λ f. is_parked (Step.Enter e ∷ s ∷ past) f ≡ is_parked (s ∷ past) f) es
same_enter e s past [] found h = tt
same_enter e s past (f ∷ es) found h = (
  parked_other e f s past (apart f.ticket e.ticket h.0) found.0,
  same_enter e s past es found.1 h.1,
)

old_same : (p : Ticket → ℕ) (e : Entry) (h : List Step) → has_entered e.ticket h ≡ false → weigh p (is_parked (Step.Enter e ∷ h)) (alive h) ≡ weigh p (is_parked h) (alive h)
old_same p e [] n = refl
old_same p e (s ∷ past) n =
    weigh_same p (is_parked (Step.Enter e ∷ s ∷ past)) (is_parked (s ∷ past)) (alive (s ∷ past)) (same_enter e s past (alive (s ∷ past)) (all_found (alive (s ∷ past))) (fresh e.ticket (s ∷ past) n))

its_own : (b : Bool) → (not (not b) && not false) ≡ b
its_own true = refl
its_own false = refl

new_parked : (e : Entry) (h : List Step) → has_entered e.ticket h ≡ false → is_parked (Step.Enter e ∷ h) e ≡ is_blocked e (alive h ++ e ∷ [])
new_parked e h n =
    ap (λ b. not b && not (marked e.ticket h)) (enabled_entering e h n)
    ∙ ap (λ (m : Option Reason). not (not (is_blocked e (alive h ++ e ∷ []))) && not (is_some m)) (fresh_unmarked e.ticket h n)
    ∙ its_own (is_blocked e (alive h ++ e ∷ []))

-- a task that enters is parked where the others block it
pub parked_enter : (p : Ticket → ℕ) (e : Entry) (h : List Step) → has_entered e.ticket h ≡ false
    → parked_count p (Step.Enter e ∷ h) ≡ parked_count p h + cond (is_blocked e (alive h ++ e ∷ [])) (p e.ticket) 0
parked_enter p e h n =
    let new = ap (λ b. cond b (p e.ticket) 0) (new_parked e h n) in
    let old = old_same p e h n in
    let both = weigh_append p (is_parked (Step.Enter e ∷ h)) (alive h) (e ∷ []) in
    omega (arith, new, old, both)
