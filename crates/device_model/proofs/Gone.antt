-- The tasks that a mark met stay gone.
use Rattle.std.proofs.Common.{◌≡◌, ℕ, ◌<◌, true, false, ◌||◌, eqb, cond, List, [], ◌∷◌, length, Option, Some, None, refl, sym, ap, subst, arith, inl, inr, eq-eqb}
use Rattle.std.proofs.lemmas.Bool.{eqb-true}
use Rattle.ring_core.specs.declared.log.Ticket.{Ticket}
use Rattle.unit_model.specs.Tasks.{same_ticket}
use Rattle.unit_model.specs.Steps.{Step, has_left}
use Rattle.unit_model.specs.Clearing.{met_by, met_at, AreGone}
use Rattle.unit_model.proofs.Tickets.{same-true, or_right}
use Rattle.unit_model.proofs.Clearing.{Each, each_map}
use Rattle.device_model.specs.Histories.{pushed, Stands}

left_on : (s : Step) (t : Ticket) (past : List Step) → has_left t past ≡ true → has_left t (s ∷ past) ≡ true
left_on (Step.Leave u) t past h = or_right (same_ticket u t) (has_left t past) h
left_on (Step.Enter e) t past h = h
left_on (Step.Full u) t past h = h
left_on (Step.Resize blocks) t past h = h
left_on (Step.Commit u r) t past h = h
left_on (Step.Busy u) t past h = h
left_on (Step.Abort rule) t past h = h
left_on (Step.Reset c) t past h = h

not_here : (m n : ℕ) → n < m → eqb m n ≡ false
not_here m n lt =
    (elim (eqb m n) as (λ b. eqb m n ≡ b → b ≡ false) [
      | true ↦ λ e. let same = eqb-true m n e in absurd (omega (arith, same, lt))
      | false ↦ λ e. refl
    ]) refl

-- the step at a place before the last one stays the same
met_same : (place : ℕ) (s : Step) (past : List Step) → place < length past → met_at place (s ∷ past) ≡ met_at place past
met_same place s past lt = ap (λ b. cond b (met_by s past) (met_at place past)) (not_here (length past) place lt)

pub met_on : (place : ℕ) (o : Option Step) (h : List Step) → place < length h
    → met_at place (pushed o h) ≡ met_at place h
met_on place None h lt = refl
met_on place (Some s) h lt = met_same place s h lt

-- the last step is at its place
pub met_new : (place : ℕ) (s : Step) (past : List Step) → place ≡ length past
    → met_at place (s ∷ past) ≡ met_by s past
met_new place s past e =
    ap (λ b. cond b (met_by s past) (met_at place past)) (eq-eqb (length past) place (sym e))

pub gone_on : (place : ℕ) (o : Option Step) (h : List Step) → place < length h → AreGone place h
    → AreGone place (pushed o h)
gone_on place None h lt g = g
gone_on place (Some s) h lt g =
    let on = each_map (λ e. has_left e.ticket h ≡ true) (λ e. has_left e.ticket (s ∷ h) ≡ true) (met_at place h)
    (λ e p. left_on s e.ticket h p) g in
    subst (Each (λ e. has_left e.ticket (s ∷ h) ≡ true)) (sym (met_same place s h lt)) on

-- who has left has a Leave
pub left_stands : (t : Ticket) (h : List Step) → has_left t h ≡ true → Stands (Step.Leave t) h
left_stands t [] e = absurd (cc)
left_stands t (Step.Leave u ∷ past) e =
    (elim (same_ticket u t) as (λ b. same_ticket u t ≡ b → (b || has_left t past) ≡ true
    → Stands (Step.Leave t) (Step.Leave u ∷ past)) [
      | true ↦ λ k q. inl (ap (λ z. Step.Leave z) (same-true u t k))
      | false ↦ λ k q. inr (left_stands t past q)
    ]) refl e
left_stands t (Step.Enter x ∷ past) e = inr (left_stands t past e)
left_stands t (Step.Full u ∷ past) e = inr (left_stands t past e)
left_stands t (Step.Resize blocks ∷ past) e = inr (left_stands t past e)
left_stands t (Step.Commit u r ∷ past) e = inr (left_stands t past e)
left_stands t (Step.Busy u ∷ past) e = inr (left_stands t past e)
left_stands t (Step.Abort rule ∷ past) e = inr (left_stands t past e)
left_stands t (Step.Reset c ∷ past) e = inr (left_stands t past e)
