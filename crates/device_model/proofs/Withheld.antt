-- Tasks whose replies are withheld, over the steps of their unit.
use Rattle.std.proofs.Common.{◌≡◌, ℕ, ◌<◌, true, false, ◌||◌, List, [], ◌∷◌, length, Option, Some, None, is_some, refl, sym, ◌∙◌, ap, subst, arith, inl, inr, zero, suc}
use Rattle.std.specs.Prelude.{◌⊎◌, Contains, slice_index_or, min}
use Rattle.std.specs.Option.{option_map}
use Rattle.block_store.specs.Storage.{Dealing, and_then}
use Rattle.command_model.specs.PlainReply.{PlainReply}
use Rattle.ring_core.specs.declared.log.Ticket.{Ticket}
use Rattle.unit_model.specs.Tasks.{Entry, task_of}
use Rattle.unit_model.specs.Steps.{Step, alive, done}
use Rattle.unit_model.specs.Marks.{marked}
use Rattle.unit_model.specs.Enabling.{enabled}
use Rattle.unit_model.specs.Contents.{capacity_of}
use Rattle.unit_model.specs.Unit.{PlainUnit, IsWithheld, is_backed, waits_behind, after as stepped, dealing}
use Rattle.unit_model.proofs.Tickets.{itself}
use Rattle.unit_model.proofs.Blocking.{enabled_lasts}
use Rattle.unit_model.proofs.Marking.{done_on, marked_lasts}
use Rattle.device_model.proofs.Handed.{IsOpen, Spares, alive_on, undone_on, either}

-- whose replies wait at one unit wait at the other
abbrev pub WaitsAlike : PlainUnit → PlainUnit → Type 0
WaitsAlike u v = (e : Entry) (status : ℕ) → waits_behind v e status ≡ waits_behind u e status

-- a unit once a step was taken, whatever it parks
pub record Follows (s : Step) (u v : PlainUnit) : Type 0 where
  pub steps : v.steps ≡ s ∷ u.steps
  pub waits : WaitsAlike u v

pub some_still : {X Y : Type 0} (f : X → Y) (o : Option X) → is_some (option_map f o) ≡ is_some o
some_still f None = refl
some_still f (Some x) = refl

pub step_backed : (s : Step) (u : PlainUnit) → is_backed (stepped s u) ≡ is_backed u
step_backed (Step.Resize blocks) u = some_still (and_then (Dealing.Cut (min (capacity_of u.opening u.steps) blocks))) u.storage
step_backed (Step.Enter e) u = refl
step_backed (Step.Full t) u = refl
step_backed (Step.Commit t r) u = refl
step_backed (Step.Busy t) u = refl
step_backed (Step.Leave t) u = refl
step_backed (Step.Abort rule) u = refl
step_backed (Step.Reset c) u = refl

alike : (u v : PlainUnit) → v.opening ≡ u.opening → is_backed v ≡ is_backed u → WaitsAlike u v
alike u v o b e n = cc

pub follows : (s : Step) (u : PlainUnit) → Follows s u (stepped s u)
follows s u = record { steps = refl; waits = alike u (stepped s u) refl (step_backed s u) }

pub deal_alike : (d : Dealing) (u : PlainUnit) → WaitsAlike u (dealing d u)
deal_alike d u = alike u (dealing d u) refl (some_still (and_then d) u.storage)

-- the task is alive as it entered, may run or was marked, and isn't done or its reply is withheld
abbrev pub IsTaken : Entry → PlainUnit → Type 0
IsTaken e u =
    (task_of e.ticket (alive u.steps) ≡ Some e) × ((enabled e u.steps || marked e.ticket u.steps) ≡ true)
    × ((done e.ticket u.steps ≡ false) ⊎ ((r : PlainReply) × IsWithheld u e.ticket e r))

pub open_taken : (e : Entry) (u : PlainUnit) → IsOpen e u.steps → IsTaken e u
open_taken e u h = (h.0, h.1, inl h.2)

contains_on : (s r : Step) (past : List Step) → Contains past r → Contains (s ∷ past) r
contains_on s r past h = let lt = h.1 in (suc h.0, omega (arith, lt), h.2)

pub ran_done : (t : Ticket) (r : PlainReply) (past : List Step) → Contains past (Step.Commit t r) → done t past ≡ true
ran_done t r past h = ran_at t r past h.0 h.1 h.2
  where
    ran_at : (t : Ticket) (r : PlainReply) (past : List Step) (k : ℕ) → k < length past
        → slice_index_or past k (Step.Commit t r) ≡ Step.Commit t r → done t past ≡ true
    ran_at t r [] k lt e = absurd (omega (arith, lt))
    ran_at t r (s ∷ past) zero lt e =
        subst (λ z. done t (z ∷ past) ≡ true) (sym e) (ap (λ b. b || done t past) (itself t))
    ran_at t r (s ∷ past) (suc k) lt e = done_on s t past (ran_at t r past k (omega (arith, lt)) e)

-- a reply goes on to be withheld where the step spares its task
pub withheld_on : (s : Step) (t : Ticket) (e : Entry) (r : PlainReply) (u v : PlainUnit) → Follows s u v → Spares s t
    → IsWithheld u t e r → IsWithheld v t e r
withheld_on s t e r u v f sp h =
    record {
      is_there = ap (λ past. task_of t (alive past)) f.steps ∙ alive_on s t u.steps e sp h.is_there;
      ran = subst (λ past. Contains past (Step.Commit t r)) (sym f.steps) (contains_on s (Step.Commit t r) u.steps h.ran);
      waits = f.waits e r.status ∙ h.waits;
    }

handed_on : (s : Step) (e : Entry) (past : List Step) → (enabled e past || marked e.ticket past) ≡ true
    → (enabled e (s ∷ past) || marked e.ticket (s ∷ past)) ≡ true
handed_on s e past h =
    either (enabled e past) (marked e.ticket past) (enabled e (s ∷ past)) (marked e.ticket (s ∷ past))
    (enabled_lasts e (s ∷ []) past) (marked_lasts e.ticket (s ∷ []) past) h

-- a task that the step spares stays as it is
pub taken_on : (s : Step) (e : Entry) (u v : PlainUnit) → Follows s u v → Spares s e.ticket → IsTaken e u → IsTaken e v
taken_on s e u v f sp h = (
  ap (λ past. task_of e.ticket (alive past)) f.steps ∙ alive_on s e.ticket u.steps e sp h.0,
  ap (λ past. enabled e past || marked e.ticket past) f.steps ∙ handed_on s e u.steps h.1,
  elim h.2 [
    | inl n ↦ inl (ap (λ past. done e.ticket past) f.steps ∙ undone_on s e.ticket u.steps sp n)
    | inr q ↦ inr (q.0, withheld_on s e.ticket e q.0 u v f sp q.1)
  ],
)

pub withheld_alike : (t : Ticket) (e : Entry) (r : PlainReply) (u v : PlainUnit) → v.steps ≡ u.steps → WaitsAlike u v
    → IsWithheld u t e r → IsWithheld v t e r
withheld_alike t e r u v same w h =
    record {
      is_there = ap (λ past. task_of t (alive past)) same ∙ h.is_there;
      ran = subst (λ past. Contains past (Step.Commit t r)) (sym same) h.ran;
      waits = w e r.status ∙ h.waits;
    }

-- the unit stays but for what its storage has
pub taken_alike : (e : Entry) (u v : PlainUnit) → v.steps ≡ u.steps → WaitsAlike u v → IsTaken e u → IsTaken e v
taken_alike e u v same w h = (
  ap (λ past. task_of e.ticket (alive past)) same ∙ h.0,
  ap (λ past. enabled e past || marked e.ticket past) same ∙ h.1,
  elim h.2 [
    | inl n ↦ inl (ap (λ past. done e.ticket past) same ∙ n)
    | inr q ↦ inr (q.0, withheld_alike e.ticket e q.0 u v same w q.1)
  ],
)

-- its command runs, and its reply waits
pub withheld_now : (e : Entry) (r : PlainReply) (u : PlainUnit) → IsTaken e u → waits_behind u e r.status ≡ true
    → IsTaken e (stepped (Step.Commit e.ticket r) u)
withheld_now e r u h w = (
  h.0,
  handed_on (Step.Commit e.ticket r) e u.steps h.1,
  inr (r, record { is_there = h.0; ran = (0, omega arith, refl); waits = w }),
)
