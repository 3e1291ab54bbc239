-- Since when a task might run, and where it entered.
use Rattle.std.proofs.Common.{◌≡◌, ◌≤◌, ◌<◌, ◌+◌, ◌-◌, ℕ, Bool, true, false, cond, List, [], ◌∷◌, ◌++◌, length, Option, Some, None, refl, ap, sym, subst, ◌∙◌, arith}
use Rattle.std.specs.Prelude.{unwrap_or}
use Rattle.ring_core.specs.declared.log.Ticket.{Ticket}
use Rattle.unit_model.specs.Tasks.{Entry, same_ticket, task_of, without}
use Rattle.unit_model.specs.Steps.{Step, alive, as_of}
use Rattle.unit_model.specs.Seen.{entered_at}
use Rattle.unit_model.specs.Enabling.{enabled}
use Rattle.unit_model.specs.Contents.{Opening}
use Rattle.unit_model.specs.Lawful.{IsLawful}
use Rattle.unit_model.proofs.Past.{as_of-more, as_of-now}
use Rattle.unit_model.proofs.Tickets.{same-true}
use Rattle.unit_model.proofs.Fresh.{fresh, none_of, above_fresh}
use Rattle.unit_model.proofs.Distinct.{task_push_other, task_without_other, alive_distinct, without_none}
use Rattle.logical_unit.specs.Inner.Flushes.{EnteredAs, Might}

-- A task that might run may run from then on

pub enabled_more : (e : Entry) (since : ℕ) (s : Step) (steps : List Step) → since ≤ length steps → enabled e (as_of since steps) ≡ true
    → enabled e (as_of since (s ∷ steps)) ≡ true
enabled_more e since s steps le is = ap (λ w. enabled e w) (as_of-more since s steps le) ∙ is

-- Where a task entered

pub entered_more : (e : Entry) (place : ℕ) (s : Step) (steps : List Step) → place < length steps → EnteredAs e place steps
    → EnteredAs e place (s ∷ steps)
entered_more e place s steps lt is =
    as_of-more (place + 1) s steps (omega (arith, lt)) ∙ is
    ∙ ap (λ w. Step.Enter e ∷ w) (sym (as_of-more place s steps (omega (arith, lt))))

entered_less : (e : Entry) (place : ℕ) (s : Step) (steps : List Step) → place < length steps → EnteredAs e place (s ∷ steps)
    → EnteredAs e place steps
entered_less e place s steps lt is =
    sym (as_of-more (place + 1) s steps (omega (arith, lt))) ∙ is
    ∙ ap (λ w. Step.Enter e ∷ w) (as_of-more place s steps (omega (arith, lt)))

pub might_more : (place since : ℕ) (s : Step) (steps : List Step) → place < length steps → since ≤ length steps → Might place since steps
    → Might place since (s ∷ steps)
might_more place since s steps lt le might e at = enabled_more e since s steps le (might e (entered_less e place s steps lt at))

abbrev entry_in : Entry → List Step → Entry
entry_in e (Step.Enter f ∷ past) = f
entry_in e steps = e

-- one task entered there
only_entry : (e f : Entry) (place : ℕ) (steps : List Step) → EnteredAs e place steps → EnteredAs f place steps → e ≡ f
only_entry e f place steps one two = ap (λ w. entry_in e w) (sym one ∙ two)

-- so it might run, where it may
pub might_now : (e : Entry) (place : ℕ) (steps : List Step) → EnteredAs e place steps → enabled e steps ≡ true → Might place (length steps) steps
might_now e place steps at is f there =
    subst (λ x. enabled x (as_of (length steps) steps) ≡ true) (only_entry e f place steps at there)
    (ap (λ w. enabled e w) (as_of-now (length steps) steps (omega arith)) ∙ is)

-- The task of a ticket entered where the ticket did

some_only : (d e : Entry) → Some d ≡ Some e → d ≡ e
some_only d e is = ap (λ (x : Option Entry). unwrap_or x d) is

task_push : (t : Ticket) (f e : Entry) (es : List Entry) → same_ticket f.ticket t ≡ true → task_of t es ≡ None
    → task_of t (es ++ f ∷ []) ≡ Some e → f ≡ e
task_push t f e [] same none at = some_only f e (sym (ap (λ b. cond b (Some f) None) same) ∙ at)
task_push t f e (x ∷ es) same none at =
    elim (same_ticket x.ticket t) as (λ b. cond b (Some x) (task_of t es) ≡ None → cond b (Some x) (task_of t (es ++ f ∷ [])) ≡ Some e → f ≡ e) [
      | true ↦ λ none at. absurd (cc)
      | false ↦ λ none at. task_push t f e es same none at
    ] none at

pub record StandsAs (e : Entry) (place : ℕ) (steps : List Step) : Type 0 where
  pub before : place < length steps
  pub entered : EnteredAs e place steps

stands_more : (e : Entry) (place : ℕ) (s : Step) (steps : List Step) → StandsAs e place steps → StandsAs e place (s ∷ steps)
stands_more e place s steps was =
    record { before = (let lt = was.before in omega (arith, lt)); entered = entered_more e place s steps was.before was.entered }

stands_now : (e : Entry) (past : List Step) → StandsAs e (length past) (Step.Enter e ∷ past)
stands_now e past =
    record {
      before = omega arith;
      entered = as_of-now (length past + 1) (Step.Enter e ∷ past) (omega arith)
          ∙ ap (λ w. Step.Enter e ∷ w) (sym (as_of-more (length past) (Step.Enter e) past (omega arith) ∙ as_of-now (length past) past (omega arith)));
    }

pub entered_as : (o : Opening) (t : Ticket) (e : Entry) (h : List Step) → IsLawful o h → task_of t (alive h) ≡ Some e
    → StandsAs e (entered_at t h) h
entered_as o t e [] l at = absurd (cc)
entered_as o t e (Step.Enter f ∷ past) l at =
    by_test (same_ticket f.ticket t) refl (λ other. entered_as o t e past l.0 (sym (task_push_other t f (alive past) other) ∙ at))
  where
    by_test : (b : Bool) → same_ticket f.ticket t ≡ b → (same_ticket f.ticket t ≡ false → StandsAs e (entered_at t past) past)
        → StandsAs e (cond b (length past) (entered_at t past)) (Step.Enter f ∷ past)
    by_test true same was =
        let own : f.ticket ≡ t = same-true f.ticket t same in
        let none = none_of f.ticket (alive past) (fresh f.ticket past (above_fresh o f.ticket past l.0 l.1.1)) in
        let is : f ≡ e = task_push t f e (alive past) same (subst (λ n. task_of n (alive past) ≡ None) own none) at in
        subst (λ x. StandsAs x (length past) (Step.Enter f ∷ past)) is (stands_now f past)
    by_test false other was = stands_more e (entered_at t past) (Step.Enter f) past (was other)
entered_as o t e (Step.Leave u ∷ past) l at =
    by_test (same_ticket u t) refl (λ other. entered_as o t e past l.0 (sym (task_without_other t u (alive past) other) ∙ at))
  where
    by_test : (b : Bool) → same_ticket u t ≡ b → (same_ticket u t ≡ false → StandsAs e (entered_at t past) past)
        → StandsAs e (entered_at t past) (Step.Leave u ∷ past)
    by_test true same was =
        let own : u ≡ t = same-true u t same in
        let none = subst (λ n. task_of n (without u (alive past)) ≡ None) own (without_none u (alive past) (alive_distinct o past l.0)) in
        let never : None ≡ Some e = sym none ∙ at in
        absurd (cc)
    by_test false other was = stands_more e (entered_at t past) (Step.Leave u) past (was other)
entered_as o t e (Step.Full u ∷ past) l at = stands_more e (entered_at t past) (Step.Full u) past (entered_as o t e past l.0 at)
entered_as o t e (Step.Commit u r ∷ past) l at = stands_more e (entered_at t past) (Step.Commit u r) past (entered_as o t e past l.0 at)
entered_as o t e (Step.Busy u ∷ past) l at = stands_more e (entered_at t past) (Step.Busy u) past (entered_as o t e past l.0 at)
entered_as o t e (Step.Abort rule ∷ past) l at = stands_more e (entered_at t past) (Step.Abort rule) past (entered_as o t e past l.0 at)
entered_as o t e (Step.Reset c ∷ past) l at = stands_more e (entered_at t past) (Step.Reset c) past (entered_as o t e past l.0 at)
entered_as o t e (Step.Resize n ∷ past) l at = stands_more e (entered_at t past) (Step.Resize n) past (entered_as o t e past l.0 at)
