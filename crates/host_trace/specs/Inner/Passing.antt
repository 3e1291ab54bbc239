-- A transition that passes from one part to another.
use Rattle.std.specs.Prelude.{ℕ, ◌≡◌, List, [], ◌∷◌, Some, None}
use Rattle.shared_trace.specs.Events.{PlainMark, events_of, count_of}
use Rattle.shared_trace.specs.Halves.{Has, Whole, part_of, latest, IsDone}
use Rattle.device_model.specs.Events.{Event}
use Rattle.device_model.specs.World.{PlainWorld}
use Rattle.device_model.specs.Transitions.{Transition}
use Rattle.device_model.specs.After.{after}
use Rattle.device_model.specs.Happens.{Happens}
use Rattle.host_trace.specs.Parts.{Part, Share, At}
use Rattle.host_trace.specs.Trace.{Agree, touches}

-- worlds that have these parts in common
abbrev pub AllAt : List Part → PlainWorld → PlainWorld → Type 0
AllAt ps w v = (p : Part) → Has ps p → At p w v

-- a share in nothing
abbrev pub no_share : PlainWorld → Share
no_share w = record { part = 0; whole = record { act = Transition.Idle Event.Mark; seen = w; last = 0; turns = [] } }

module _ (number : Part → ℕ) where
  -- what a mark knows says that its part stands as it does in that world, and that no transition is under way there
  pub record StandsAs (old : PlainWorld) (m : PlainMark Share) (w : PlainWorld) : Type 0 where
    pub first : latest (events_of part_of m.number m.own) ≡ None → Agree number m.number old w
    pub next : (f : Share) → latest (events_of part_of m.number m.own) ≡ Some f
        → IsDone m.known f × Agree number m.number (after f.whole.act f.whole.seen) w

  -- a transition that touches these two parts, of which the marks know so much
  pub record IsBetween (old : PlainWorld) (first last : PlainMark Share) (whole : Whole Transition PlainWorld) : Type 0 where
    pub of : last.number ≡ whole.last
    pub apart : first.number ≡ last.number → ⊥
    pub touched : touches number whole.act whole.seen ≡ first.number ∷ last.number ∷ []
    pub turns : whole.turns ≡ (first.number, count_of part_of first.number first.own) ∷
        (last.number, count_of part_of last.number last.own) ∷ []
    pub happens : Happens whole.act whole.seen
    pub one : StandsAs old first whole.seen
    pub other : StandsAs old last whole.seen

-- the transition is the latest at the mark's part, and is done
abbrev pub HasDone : Whole Transition PlainWorld → PlainMark Share → PlainMark Share → Type 0
HasDone whole old new =
    (new.number ≡ old.number)
    × (latest (events_of part_of new.number new.own) ≡ Some (record { part = old.number; whole = whole }))
    × IsDone new.known (record { part = old.number; whole = whole })
