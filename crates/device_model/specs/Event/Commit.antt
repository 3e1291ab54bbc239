-- The command of the job in a seat's hand runs whole, or the job ends without it.
use Rattle.std.specs.Prelude.{ℕ, ◌≡◌, ◌++◌, true, [], ◌∷◌, Some}
use Rattle.unit_model.specs.declared.reason.Reason.{Reason}
use Rattle.unit_model.specs.Tasks.{Entry}
use Rattle.unit_model.specs.Steps.{Step, is_alive}
use Rattle.unit_model.specs.Marks.{mark_of}
use Rattle.unit_model.specs.Lawful as history
use Rattle.unit_model.specs.Jobs.{PlainJob}
use Rattle.unit_model.specs.Unit.{MayCommit, MayWithhold, MayConclude, after as stepped}
use Rattle.unit_model.specs.Asking.{IsOf, IsNotWithheld}
use Rattle.device_model.specs.Parts.{Outcome, Hand}
use Rattle.device_model.specs.World.{PlainWorld, change}
use Rattle.unit_model.specs.Endings.{Ending}
use Rattle.command_model.specs.PlainReply.{PlainReply}
use Rattle.device_model.specs.Found.{HandAtUnit, MayStep, MayYield}
use Rattle.device_model.specs.Changing.{with_hand}

-- it may run next, and be replied to so
pub record Commits (w : PlainWorld) (k : ℕ) (x : PlainJob) (r : PlainReply) : Type 0 where
  pub holds : HandAtUnit w k (Hand.Taken x) x.unit
  pub may : MayCommit holds.unit x.entry.ticket r

-- the reply is in the seat's hand
abbrev pub after_commit : ℕ → PlainJob → PlainReply → PlainWorld → PlainWorld
after_commit k x r w =
    record w {
      seats = change (with_hand (Hand.Done x (Outcome.Ended (Ending.Replied r)))) k w.seats;
      units = change (stepped (Step.Commit x.entry.ticket r)) x.unit w.units;
    }

-- memory was refused, which only a command that may want memory asks for, or the reply that is kept of it
pub record CommitsBusy (w : PlainWorld) (k : ℕ) (x : PlainJob) : Type 0 where
  pub holds : HandAtUnit w k (Hand.Taken x) x.unit
  pub may : MayStep holds.unit (Step.Busy x.entry.ticket)
  pub wants : MayYield holds.unit x.entry.command

-- BUSY is to be answered
abbrev pub after_commit_busy : ℕ → PlainJob → PlainWorld → PlainWorld
after_commit_busy k x w =
    record w {
      seats = change (with_hand (Hand.Done x (Outcome.Ended Ending.Busy))) k w.seats;
      units = change (stepped (Step.Busy x.entry.ticket)) x.unit w.units;
    }

-- it may run next, and be replied to so, which isn't told yet
pub record Withholds (w : PlainWorld) (k : ℕ) (x : PlainJob) (r : PlainReply) : Type 0 where
  pub holds : HandAtUnit w k (Hand.Taken x) x.unit
  pub may : MayWithhold holds.unit x.entry.ticket r

-- the hand is free, and the job waits behind those that do
abbrev pub after_withhold : ℕ → PlainJob → PlainReply → PlainWorld → PlainWorld
after_withhold k x r w =
    record w {
      seats = change (with_hand Hand.Empty) k w.seats;
      aside = w.aside ++ x ∷ [];
      units = change (stepped (Step.Commit x.entry.ticket r)) x.unit w.units;
    }

-- the reply that was withheld may be told
pub record Concludes (w : PlainWorld) (k : ℕ) (x : PlainJob) (r : PlainReply) : Type 0 where
  pub holds : HandAtUnit w k (Hand.Taken x) x.unit
  pub may : MayConclude holds.unit x.entry.ticket r

-- the reply is in the seat's hand
abbrev pub after_conclude : ℕ → PlainJob → PlainReply → PlainWorld → PlainWorld
after_conclude k x r w =
    record w { seats = change (with_hand (Hand.Done x (Outcome.Ended (Ending.Replied r)))) k w.seats }

pub record CommitsAborted (w : PlainWorld) (k : ℕ) (x : PlainJob) (why : Reason) : Type 0 where
  pub holds : HandAtUnit w k (Hand.Taken x) x.unit
  pub alive : is_alive x.entry.ticket holds.unit.steps ≡ true
  pub marked : mark_of x.entry.ticket holds.unit.steps ≡ Some why

-- the abort is to be answered
abbrev pub after_commit_aborted : ℕ → PlainJob → Reason → PlainWorld → PlainWorld
after_commit_aborted k x why w =
    record w { seats = change (with_hand (Hand.Done x (Outcome.Ended (Ending.Aborted why)))) k w.seats }

-- the unit has no task of the job that is marked, may commit, or has a reply that is withheld
pub record CommitsUnknown (w : PlainWorld) (k : ℕ) (x : PlainJob) : Type 0 where
  pub holds : HandAtUnit w k (Hand.Taken x) x.unit
  pub not_ready : (e : Entry) → IsOf x e holds.unit.steps → history.IsReady x.entry.ticket e holds.unit.steps → ⊥
  pub not_marked : (e : Entry) (why : Reason) → IsOf x e holds.unit.steps
      → mark_of x.entry.ticket holds.unit.steps ≡ Some why → ⊥
  pub not_withheld : IsNotWithheld x holds.unit

-- FAILURE is to be answered
abbrev pub after_commit_unknown : ℕ → PlainJob → PlainWorld → PlainWorld
after_commit_unknown k x w = record w { seats = change (with_hand (Hand.Done x (Outcome.Ended Ending.Lost))) k w.seats }
