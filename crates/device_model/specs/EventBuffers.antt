-- Which event goes into which buffer (VIRTIO 1.2 §5.6.6.3).
use Rattle.std.specs.Prelude.{ℕ, ◌≡◌, ◌||◌, ◌&&◌, Bool, true, false, List, [], ◌∷◌, ◌++◌, slice_get}
use Rattle.scsi_codec.specs.declared.event_queue.Event.{Event as EventRecord}
use Rattle.scsi_codec.specs.EventQueue.{event_bytes}
use Rattle.ring_core.specs.State.{RingState, PlainChain}
use Rattle.device_model.specs.Parts.{Completion, PlainFetch, answer_writes, is_short}
use Rattle.device_model.specs.World.{PlainQueue, PlainWorld}
use Rattle.device_model.specs.Transitions.{Transition}
use Rattle.device_model.specs.Changing.{with_chain}
use Rattle.device_model.specs.Event.Hard.{reports_of}
use Rattle.device_model.specs.Event.Resize.{change_reports}
use Rattle.device_model.specs.Found.{QueueIs}
use Rattle.device_model.specs.Event.Fetch.{spent_bytes}
use Rattle.device_model.specs.Happens.{world_of}
use Rattle.device_model.specs.Happened.{IsBeginning}

-- the buffers that were held, and those that were given an event, the first one first

abbrev pub arrived_of : List Transition → List PlainChain
arrived_of [] = []
arrived_of (Transition.Hold f ∷ past) = arrived_of past ++ f.chain ∷ []
arrived_of (d ∷ past) = arrived_of past

abbrev pub given_of : List Transition → List PlainChain
given_of [] = []
given_of (Transition.Give e c xs ∷ past) = given_of past ++ c ∷ []
given_of (d ∷ past) = given_of past

-- the events that the resets and the resizes of the operator raised, and those that were given or missed, the first one first

abbrev pub raised_of : PlainWorld → List Transition → List EventRecord
raised_of old [] = []
raised_of old (Transition.Hard p jobs ∷ past) = raised_of old past ++ reports_of (slice_get old.units p.unit)
raised_of old (Transition.Resize unit_index blocks ∷ past) =
    raised_of old past ++ change_reports old.tells_changes (slice_get old.units unit_index)
raised_of old (d ∷ past) = raised_of old past

abbrev pub reported_of : List Transition → List EventRecord
reported_of [] = []
reported_of (Transition.Give e c xs ∷ past) = reported_of past ++ e ∷ []
reported_of (Transition.Miss e ∷ past) = reported_of past ++ e ∷ []
reported_of (d ∷ past) = reported_of past

-- an event was missed since the last buffer that told so
abbrev pub missed_of : List Transition → Bool
missed_of [] = false
missed_of (Transition.Miss e ∷ past) = true
missed_of (Transition.UseBuffer f xs ∷ past) = missed_of past && is_short f.chain
missed_of (d ∷ past) = missed_of past

-- the bytes are written into the chain, in its queue as it is after these transitions and this change
pub record IsWrittenIn (old : PlainWorld) (past : List Transition) (c : PlainChain) (g : RingState → RingState)
    (bytes : List ℕ) (xs : Completion) : Type 0 where
  pub queue : PlainQueue
  pub there : QueueIs (world_of old past) c.ticket.queue queue
  pub writes : xs.writes ≡ answer_writes (g queue.ring) c bytes

-- each event that is raised is given or missed, the first one first; it goes into the oldest buffer that is held; with
-- none it is missed, and the next buffer that is long enough tells so at once; a short one is used at once, with no
-- byte
pub record AreEvents (old : PlainWorld) (ds : List Transition) (w : PlainWorld) : Type 0 where
  pub in_order : given_of ds ++ w.buffers ≡ arrived_of ds
  pub reports : reported_of ds ++ w.waiting ≡ raised_of old ds
  pub missed : w.missed ≡ missed_of ds
  pub misses : (e : EventRecord) (past : List Transition) → IsBeginning (Transition.Miss e ∷ past) ds
      → given_of past ≡ arrived_of past
  pub holds : (f : PlainFetch) (past : List Transition) → IsBeginning (Transition.Hold f ∷ past) ds
      → (is_short f.chain || missed_of past) ≡ false
  pub spends : (f : PlainFetch) (xs : Completion) (past : List Transition) → IsBeginning (Transition.UseBuffer f xs ∷ past) ds
      → ((is_short f.chain || missed_of past) ≡ true)
      × IsWrittenIn old past f.chain (with_chain f.chain) (spent_bytes f.chain) xs
  pub gives : (e : EventRecord) (c : PlainChain) (xs : Completion) (past : List Transition)
      → IsBeginning (Transition.Give e c xs ∷ past) ds → IsWrittenIn old past c (λ s. s) (event_bytes e) xs
