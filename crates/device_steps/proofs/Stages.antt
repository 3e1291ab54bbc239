-- What the stage of a seat says of its events.
use Rattle.std.proofs.Common.{◌≡◌, inl, inr, ℕ, List, [], ◌∷◌, None, refl, sym, ap, ◌∙◌}
use Rattle.std.specs.Prelude.{slice_get}
use Rattle.unit_model.specs.Jobs.{PlainJob}
use Rattle.device_model.specs.Parts.{Hand}
use Rattle.device_model.specs.World.{PlainWorld, Seat}
use Rattle.device_model.specs.Events.{Event}
use Rattle.device_model.specs.Applies.{Applies}
use Rattle.device_model.specs.Found.{HasHand}
use Rattle.device_model.proofs.Lists.{same, nothing}
use Rattle.device_model.specs.Order.{of_seat, IsFirstOf, NoneApplies}
use Rattle.device_steps.specs.Inner.Stages.{stage_of}
use Rattle.device_steps.specs.declared.seat.Stage.{Stage}
use Rattle.device_steps.specs.declared.seat.Stage.TheVariants as stage

abbrev Never : PlainWorld → Event → Type 0
Never w e = Applies w e → ⊥

no_job : {x : PlainJob} {xs : List PlainJob} → [] ≡ x ∷ xs → ⊥
no_job e = cc

-- where no job is to be tried again, no seat takes one
pub none_resumes : (w : PlainWorld) (k : ℕ) → w.woken ≡ [] → Never w (Event.Resume k)
none_resumes w k e h = no_job (sym e ∙ h.first)

-- where none waits, none is woken
pub none_wakes : (w : PlainWorld) → w.aside ≡ [] → Never w Event.Wake
none_wakes w e h = no_job (sym e ∙ h.waits)

-- a seat that isn't there has no event
pub absent : (w : PlainWorld) (k : ℕ) → slice_get w.seats k ≡ None → NoneApplies w (of_seat k)
absent w k none = (
  (λ a. nothing (sym none ∙ a.2.1)),
  (
    (λ a. nothing (sym none ∙ a.2.1)),
    (
      (λ a. nothing (sym none ∙ a.1.1)),
      (
        (λ m. nothing (sym none ∙ m.seat)),
        ((λ m. nothing (sym none ∙ m.free.1)), ((λ m. nothing (sym none ∙ m.seat)), tt)),
      ),
    ),
  ),
)

module _ (w : PlainWorld) (k : ℕ) (h : Hand) (there : HasHand w k h) where
  -- what is in hand is one
  one_hand : (g : Hand) → HasHand w k g → h ≡ g
  one_hand g at = ap (λ (s : Seat). s.hand) (same (sym there.1 ∙ at.1))

  leaving : Applies w (Event.Leave k) → stage_of h ≡ stage.Answered
  leaving a = ap stage_of (one_hand (Hand.Answered a.0 a.1) a.2)

  answering : Applies w (Event.Answer k) → stage_of h ≡ stage.Done
  answering a = ap stage_of (one_hand (Hand.Done a.0 a.1) a.2)

  committing : Applies w (Event.Commit k) → stage_of h ≡ stage.Taken
  committing a = ap stage_of (one_hand (Hand.Taken a.0) a.1)

  no_leave : (s : Stage) → stage_of h ≡ s → (s ≡ stage.Answered → ⊥) → Never w (Event.Leave k)
  no_leave s is other a = other (sym is ∙ leaving a)

  no_answer : (s : Stage) → stage_of h ≡ s → (s ≡ stage.Done → ⊥) → Never w (Event.Answer k)
  no_answer s is other a = other (sym is ∙ answering a)

  no_commit : (s : Stage) → stage_of h ≡ s → (s ≡ stage.Taken → ⊥) → Never w (Event.Commit k)
  no_commit s is other a = other (sym is ∙ committing a)

answering_leaving : stage.Done ≡ stage.Answered → ⊥
answering_leaving e = cc

committing_leaving : stage.Taken ≡ stage.Answered → ⊥
committing_leaving e = cc

committing_answering : stage.Taken ≡ stage.Done → ⊥
committing_answering e = cc

free_leaving : stage.Empty ≡ stage.Answered → ⊥
free_leaving e = cc

free_answering : stage.Empty ≡ stage.Done → ⊥
free_answering e = cc

free_committing : stage.Empty ≡ stage.Taken → ⊥
free_committing e = cc

-- the event of a stage applies
pub leave_there : (w : PlainWorld) (k : ℕ) (h : Hand) → HasHand w k h → stage_of h ≡ stage.Answered
    → Applies w (Event.Leave k)
leave_there w k Hand.Empty there is = absurd (cc)
leave_there w k (Hand.Taken x) there is = absurd (cc)
leave_there w k (Hand.Done x o) there is = absurd (cc)
leave_there w k (Hand.Answered unit_index t) there is = (unit_index, t, there)

pub answer_there : (w : PlainWorld) (k : ℕ) (h : Hand) → HasHand w k h → stage_of h ≡ stage.Done
    → Applies w (Event.Answer k)
answer_there w k Hand.Empty there is = absurd (cc)
answer_there w k (Hand.Taken x) there is = absurd (cc)
answer_there w k (Hand.Done x o) there is = (x, o, there)
answer_there w k (Hand.Answered unit_index t) there is = absurd (cc)

pub commit_there : (w : PlainWorld) (k : ℕ) (h : Hand) → HasHand w k h → stage_of h ≡ stage.Taken
    → Applies w (Event.Commit k)
commit_there w k Hand.Empty there is = absurd (cc)
commit_there w k (Hand.Taken x) there is = (x, there)
commit_there w k (Hand.Done x o) there is = absurd (cc)
commit_there w k (Hand.Answered unit_index t) there is = absurd (cc)

-- and so it is first where those before it don't apply
pub leaves_first : (w : PlainWorld) (k : ℕ) (h : Hand) → HasHand w k h → stage_of h ≡ stage.Answered
    → IsFirstOf w (of_seat k) (Event.Leave k)
leaves_first w k h there is = inl (leave_there w k h there is, refl)

pub answers_first : (w : PlainWorld) (k : ℕ) (h : Hand) → HasHand w k h → stage_of h ≡ stage.Done
    → IsFirstOf w (of_seat k) (Event.Answer k)
answers_first w k h there is =
    let leave = no_leave w k h there stage.Done is answering_leaving in
    inr (leave, inl (answer_there w k h there is, refl))

pub commits_first : (w : PlainWorld) (k : ℕ) (h : Hand) → HasHand w k h → stage_of h ≡ stage.Taken
    → IsFirstOf w (of_seat k) (Event.Commit k)
commits_first w k h there is =
    let leave = no_leave w k h there stage.Taken is committing_leaving in
    let answer = no_answer w k h there stage.Taken is committing_answering in
    inr (leave, inr (answer, inl (commit_there w k h there is, refl)))

-- where nothing is in hand, no job is committed or answered, and no task leaves
pub record IsIdle (w : PlainWorld) (k : ℕ) : Type 0 where
  pub leave : Never w (Event.Leave k)
  pub answer : Never w (Event.Answer k)
  pub commit : Never w (Event.Commit k)

pub free : (w : PlainWorld) (k : ℕ) → HasHand w k Hand.Empty → IsIdle w k
free w k there = record {
  leave = no_leave w k Hand.Empty there stage.Empty refl free_leaving;
  answer = no_answer w k Hand.Empty there stage.Empty refl free_answering;
  commit = no_commit w k Hand.Empty there stage.Empty refl free_committing;
}

-- a hand of this stage is empty
pub free_hand : (w : PlainWorld) (k : ℕ) (h : Hand) → HasHand w k h → stage_of h ≡ stage.Empty → HasHand w k Hand.Empty
free_hand w k Hand.Empty there is = there
free_hand w k (Hand.Taken x) there is = absurd (cc)
free_hand w k (Hand.Done x o) there is = absurd (cc)
free_hand w k (Hand.Answered unit_index t) there is = absurd (cc)
