-- The log of a host as a trace of the device: each transition is an event at each part that it touches.
use Rattle.std.specs.Prelude.{ℕ, ◌≡◌, List, Some, None, map}
use Rattle.shared_trace.specs.Events.{PlainMark, Each, events_of}
use Rattle.shared_trace.specs.Halves.{part_of, latest, IsDone, MayCome}
use Rattle.device_model.specs.World.{PlainWorld, Opens}
use Rattle.device_model.specs.Transitions.{Transition}
use Rattle.device_model.specs.After.{after}
use Rattle.device_model.specs.Happens.{Happens, Leads, occurrence_of, world_of}
use Rattle.device_model.specs.Promise.{IsKept}
use Rattle.host_trace.specs.Parts.{Part, Share, fixed, At, parts_of}

-- no two parts have the same number
abbrev pub AreNumbered : (Part → ℕ) → Type 0
AreNumbered number = (p q : Part) → number p ≡ number q → p ≡ q

module _ (number : Part → ℕ) where
  -- two worlds of one device have this part in common
  abbrev pub Agree : ℕ → PlainWorld → PlainWorld → Type 0
  Agree n w v = (fixed w ≡ fixed v) × ((p : Part) → number p ≡ n → At p w v)

  abbrev pub touches : Transition → PlainWorld → List ℕ
  touches d w = map number (parts_of d w)

  -- when the share of a part may come next, behind a log of a device that was opened so
  abbrev pub MayShare : PlainWorld → List Share → Share → Type 0
  MayShare old past e = MayCome after Happens touches Agree old past past e

  -- the transitions lead from the opening, each where it may happen, to a world in which each part whose latest transition
  -- is done stands as that one left it
  pub record IsTraceOf (old : PlainWorld) (log : List Share) (ds : List Transition) : Type 0 where
    pub leads : Leads old ds
    pub none : (p : Part) → latest (events_of part_of (number p) log) ≡ None → At p (world_of old ds) old
    pub some : (p : Part) (f : Share) → latest (events_of part_of (number p) log) ≡ Some f → IsDone log f
        → At p (world_of old ds) (after f.whole.act f.whole.seen)

  -- the transition of the mark's latest event is done
  abbrev pub IsSettled : PlainMark Share → Type 0
  IsSettled m = (f : Share) → latest (events_of part_of m.number m.own) ≡ Some f → IsDone m.known f

  -- how the part of a mark stands by its latest event, in a world
  pub record StandsBy (old : PlainWorld) (m : PlainMark Share) (p : Part) (w : PlainWorld) : Type 0 where
    pub none : latest (events_of part_of (number p) m.own) ≡ None → At p w old
    pub some : (f : Share) → latest (events_of part_of (number p) m.own) ≡ Some f → At p w (after f.whole.act f.whole.seen)

  -- one trace of the device, of which all holds that is promised, and at whose end each part with a mark stands as the
  -- mark's latest event left it
  pub record IsOneTrace (old : PlainWorld) (marks : List (PlainMark Share)) (ds : List Transition) : Type 0 where
    pub leads : Leads old ds
    pub kept : Opens old → IsKept old (map occurrence_of ds) (world_of old ds) ds
    pub parts : (p : Part) → Each (λ k m. number p ≡ k → StandsBy old m p (world_of old ds)) marks
