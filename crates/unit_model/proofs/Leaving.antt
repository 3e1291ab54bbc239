-- A task that leaves was handed out.
use Rattle.std.proofs.Common.{◌≡◌, ℕ, ◌+◌, Bool, true, false, not, ◌||◌, ◌&&◌, cond, List, [], ◌∷◌, Some, None, refl, sym, ◌∙◌, ap}
use Rattle.ring_core.specs.declared.log.Ticket.{Ticket}
use Rattle.unit_model.specs.Tasks.{Entry, same_ticket, task_of, without, is_blocked}
use Rattle.unit_model.specs.Steps.{Step, alive, has_entered, done}
use Rattle.unit_model.specs.Marks.{marked}
use Rattle.unit_model.specs.Enabling.{enabled, is_parked, newly_enabled}
use Rattle.unit_model.specs.Contents.{Opening}
use Rattle.unit_model.specs.Lawful.{IsLawful}
use Rattle.unit_model.specs.Weights.{weight, parked_count}
use Rattle.unit_model.proofs.Tickets.{same-true, clash}
use Rattle.unit_model.proofs.Fresh.{above_fresh, fresh_undone}
use Rattle.unit_model.proofs.Distinct.{task_push_other, task_without_other, alive_distinct, without_none}
use Rattle.unit_model.proofs.Parked.{parked_leave}

nothing : {X : Type 0} {x : X} → None ≡ Some x → ⊥
nothing e = cc

enabled_on : (e : Entry) (s : Step) (past : List Step) → enabled e past ≡ true → enabled e (s ∷ past) ≡ true
enabled_on e s past h = ap (λ b. b || (has_entered e.ticket (s ∷ past) && not (is_blocked e (alive (s ∷ past))))) h

committed_on : (u : Ticket) (e f : Entry) (past : List Step) → same_ticket u e.ticket ≡ true → task_of u (alive past) ≡ Some f → enabled f past ≡ true → task_of e.ticket (alive past) ≡ Some e → enabled e past ≡ true
committed_on u e f past q there on at =
    let both : Some f ≡ Some e = sym there ∙ ap (λ n. task_of n (alive past)) (same-true u e.ticket q) ∙ at in
    let same : f ≡ e = cc in ap (λ w. enabled w past) (sym same) ∙ on

-- what is alive and done was enabled
pub done_enabled : (o : Opening) (h : List Step) (e : Entry) → IsLawful o h → task_of e.ticket (alive h) ≡ Some e → done e.ticket h ≡ true → enabled e h ≡ true
done_enabled o [] e l at d = absurd (nothing at)
done_enabled o (Step.Enter f ∷ past) e l at d =
    (elim (same_ticket f.ticket e.ticket) as (λ b. (same_ticket f.ticket e.ticket ≡ b) → enabled e (Step.Enter f ∷ past) ≡ true) [
      | true ↦ λ k. absurd (clash (sym d ∙ ap (λ n. done n past) (sym (same-true f.ticket e.ticket k)) ∙ fresh_undone o f.ticket past l.0 (above_fresh o f.ticket past l.0 l.1.1)))
      | false ↦ λ k. enabled_on e (Step.Enter f) past (done_enabled o past e l.0 (sym (task_push_other e.ticket f (alive past) k) ∙ at) d)
    ]) refl
done_enabled o (Step.Commit u r ∷ past) e l at d =
    (elim (same_ticket u e.ticket) as (λ b. (same_ticket u e.ticket ≡ b) → (b || done e.ticket past) ≡ true → enabled e (Step.Commit u r ∷ past) ≡ true) [
      | true ↦ λ k q. enabled_on e (Step.Commit u r) past (committed_on u e l.1.0 past k l.1.1.is_there l.1.1.is_enabled at)
      | false ↦ λ k q. enabled_on e (Step.Commit u r) past (done_enabled o past e l.0 at q)
    ]) refl d
done_enabled o (Step.Busy u ∷ past) e l at d =
    (elim (same_ticket u e.ticket) as (λ b. (same_ticket u e.ticket ≡ b) → (b || done e.ticket past) ≡ true → enabled e (Step.Busy u ∷ past) ≡ true) [
      | true ↦ λ k q. enabled_on e (Step.Busy u) past (committed_on u e l.1.0 past k l.1.1.is_there l.1.1.is_enabled at)
      | false ↦ λ k q. enabled_on e (Step.Busy u) past (done_enabled o past e l.0 at q)
    ]) refl d
done_enabled o (Step.Full t ∷ past) e l at d = enabled_on e (Step.Full t) past (done_enabled o past e l.0 at d)
done_enabled o (Step.Resize blocks ∷ past) e l at d = enabled_on e (Step.Resize blocks) past (done_enabled o past e l.0 at d)
done_enabled o (Step.Abort rule ∷ past) e l at d = enabled_on e (Step.Abort rule) past (done_enabled o past e l.0 at d)
done_enabled o (Step.Reset c ∷ past) e l at d = enabled_on e (Step.Reset c) past (done_enabled o past e l.0 at d)
done_enabled o (Step.Leave u ∷ past) e l at d =
    (elim (same_ticket u e.ticket) as (λ b. (same_ticket u e.ticket ≡ b) → enabled e (Step.Leave u ∷ past) ≡ true) [
      | true ↦ λ k. absurd (nothing (sym (without_none u (alive past) (alive_distinct o past l.0)) ∙ ap (λ n. task_of n (without u (alive past))) (same-true u e.ticket k) ∙ at))
      | false ↦ λ k. enabled_on e (Step.Leave u) past (done_enabled o past e l.0 (sym (task_without_other e.ticket u (alive past) k) ∙ at) d)
    ]) refl

handed : (d a m : Bool) → (d || m) ≡ true → (d ≡ true → a ≡ true) → (not a && not m) ≡ false
handed true a m p q = ap (λ b. not b && not m) (q refl)
handed false true m p q = refl
handed false false true p q = refl
handed false false false p q = cc

pub task_ticket : (t : Ticket) (es : List Entry) (e : Entry) → task_of t es ≡ Some e → t ≡ e.ticket
task_ticket t [] e h = absurd (nothing h)
task_ticket t (x ∷ es) e h =
    (elim (same_ticket x.ticket t) as (λ b. (same_ticket x.ticket t ≡ b) → cond b (Some x) (task_of t es) ≡ Some e → t ≡ e.ticket) [
      | true ↦ λ k q. let same : x ≡ e = cc in sym (same-true x.ticket t k) ∙ ap (λ (w : Entry). w.ticket) same
      | false ↦ λ k q. task_ticket t es e q
    ]) refl h

-- what may leave isn't parked
pub leaves_handed : (o : Opening) (h : List Step) (t : Ticket) (e : Entry) → IsLawful o h → task_of t (alive h) ≡ Some e → (done t h || marked t h) ≡ true → is_parked h e ≡ false
leaves_handed o h t e l at ended =
    let same = task_ticket t (alive h) e at in
    let at' : task_of e.ticket (alive h) ≡ Some e = ap (λ n. task_of n (alive h)) (sym same) ∙ at in
    handed (done e.ticket h) (enabled e h) (marked e.ticket h) (ap (λ n. done n h || marked n h) (sym same) ∙ ended) (λ d. done_enabled o h e l at' d)

-- a Leave hands out what was parked
pub leaving : (o : Opening) (p : Ticket → ℕ) (t : Ticket) (past : List Step) → IsLawful o (Step.Leave t ∷ past)
    → parked_count p past ≡ parked_count p (Step.Leave t ∷ past) + weight p (newly_enabled t past)
leaving o p t past l = parked_leave p t l.1.0 past l.1.1 (leaves_handed o past t l.1.0 l.0 l.1.1 l.1.2)
