-- The parts of the device, and what two worlds have in common at one of them.
use Rattle.std.specs.Prelude.{ℕ, ◌≡◌, Bool, zero, suc, List, [], ◌∷◌, Option, Some, None, slice_get, option_map}
use Rattle.ring_core.specs.State.{RingState}
use Rattle.request_intake.specs.Inventory.{PlainInventory}
use Rattle.unit_model.specs.Jobs.{PlainJob}
use Rattle.device_model.specs.Parts.{Slot as Held}
use Rattle.device_model.specs.World.{PlainQueue, Opened, PlainWorld, owner}
use Rattle.device_model.specs.Transitions.{Transition}
use Rattle.shared_trace.specs.Halves.{Half}

-- a queue's lock lends its ring; what a worker fetched from it and has not entered yet is the worker's
pub data Part : Type 0 where
  Memory : Part
  Ring : ℕ → Part
  Slot : ℕ → Part
  UnitAt : ℕ → Part
  SeatAt : ℕ → Part
  HandOff : Part
  Function : Part
  Buffers : Part
  Waiting : Part
  Aside : Part

-- what no transition changes
pub record Fixed : Type 0 where
  pub shared : Bool
  pub inventory : PlainInventory
  pub workers : ℕ
  pub limit : ℕ
  pub tells_changes : Bool

abbrev pub fixed : PlainWorld → Fixed
fixed w =
    record {
      shared = w.shared;
      inventory = w.inventory;
      workers = w.workers;
      limit = w.limit;
      tells_changes = w.tells_changes;
    }

pub record Lent : Type 0 where
  pub ring : RingState
  pub notices : ℕ

abbrev pub lent : PlainQueue → Lent
lent q = record { ring = q.ring; notices = q.notices }

abbrev pub lent_at : PlainWorld → ℕ → Option Lent
lent_at w i = option_map lent (slice_get w.queues i)

abbrev pub slot_at : PlainWorld → ℕ → Option Held
slot_at w i = option_map (λ (q : PlainQueue). q.slot) (slice_get w.queues i)

abbrev pub At : Part → PlainWorld → PlainWorld → Type 0
At Part.Memory w v = w.memory ≡ v.memory
At (Part.Ring i) w v = lent_at w i ≡ lent_at v i
At (Part.Slot i) w v = slot_at w i ≡ slot_at v i
At (Part.UnitAt i) w v = slice_get w.units i ≡ slice_get v.units i
At (Part.SeatAt k) w v = slice_get w.seats k ≡ slice_get v.seats k
At Part.HandOff w v = w.handed_off ≡ v.handed_off
At Part.Function w v = w.function ≡ v.function
At Part.Buffers w v = (w.buffers ≡ v.buffers) × (w.missed ≡ v.missed)
At Part.Waiting w v = w.waiting ≡ v.waiting
At Part.Aside w v = (w.aside ≡ v.aside) × (w.woken ≡ v.woken)

-- a fetch from the control queue looks whether a function is open
abbrev pub control : ℕ → List Part
control zero = Part.Function ∷ []
control (suc q) = []

-- the unit that a function marks next
abbrev pub first_of : List ℕ → List Part
first_of [] = []
first_of (unit_index ∷ later) = Part.UnitAt unit_index ∷ []

abbrev pub marked_next : Option Opened → List Part
marked_next None = []
marked_next (Some o) = first_of o.function.left

abbrev pub entering : PlainJob → PlainWorld → List Part
entering x w = Part.Slot x.chain.ticket.queue ∷ Part.UnitAt x.unit ∷ Part.SeatAt (owner w.workers x.chain.ticket.queue) ∷ []

-- the parts that a transition reads or changes
abbrev pub parts_of : Transition → PlainWorld → List Part
parts_of (Transition.Poke x) w = Part.Memory ∷ []
parts_of (Transition.Arrive f x) w = Part.Ring f.chain.ticket.queue ∷ Part.Slot f.chain.ticket.queue ∷ Part.Memory ∷ []
parts_of (Transition.Refuse f a) w =
    Part.Ring f.chain.ticket.queue ∷ Part.Slot f.chain.ticket.queue ∷ Part.Memory ∷ control f.chain.ticket.queue
parts_of (Transition.Open f g) w =
    Part.Ring f.chain.ticket.queue ∷ Part.Slot f.chain.ticket.queue ∷ Part.Memory ∷ Part.Function ∷ []
parts_of (Transition.Hold f) w =
    Part.Ring f.chain.ticket.queue ∷ Part.Slot f.chain.ticket.queue ∷ Part.Memory ∷ Part.Buffers ∷ []
parts_of (Transition.UseBuffer f xs) w =
    Part.Ring f.chain.ticket.queue ∷ Part.Slot f.chain.ticket.queue ∷ Part.Memory ∷ Part.Buffers ∷ []
parts_of (Transition.Break q n) w = Part.Ring q ∷ Part.Slot q ∷ Part.Memory ∷ control q
parts_of (Transition.Run x) w = entering x w
parts_of (Transition.Park x) w = entering x w
parts_of (Transition.EnterFull x) w = entering x w
parts_of (Transition.EnterBusy x) w = entering x w
parts_of (Transition.EnterStale x) w = entering x w
parts_of (Transition.Direct c o xs) w = Part.Ring c.ticket.queue ∷ Part.Slot c.ticket.queue ∷ Part.Memory ∷ []
parts_of (Transition.Put k x) w = Part.SeatAt k ∷ Part.HandOff ∷ []
parts_of (Transition.Keep k x) w = Part.SeatAt k ∷ Part.HandOff ∷ []
parts_of (Transition.Take k from x) w = Part.SeatAt k ∷ Part.HandOff ∷ []
parts_of (Transition.Commit k x r) w = Part.SeatAt k ∷ Part.UnitAt x.unit ∷ []
parts_of (Transition.CommitBusy k x) w = Part.SeatAt k ∷ Part.UnitAt x.unit ∷ []
parts_of (Transition.CommitAborted k x why) w = Part.SeatAt k ∷ Part.UnitAt x.unit ∷ []
parts_of (Transition.CommitUnknown k x) w = Part.SeatAt k ∷ Part.UnitAt x.unit ∷ []
parts_of (Transition.Defer k x) w = Part.SeatAt k ∷ Part.UnitAt x.unit ∷ Part.Aside ∷ []
parts_of (Transition.Withhold k x r) w = Part.SeatAt k ∷ Part.UnitAt x.unit ∷ Part.Aside ∷ []
parts_of (Transition.Conclude k x r) w = Part.SeatAt k ∷ Part.UnitAt x.unit ∷ []
parts_of Transition.Wake w = Part.Aside ∷ []
parts_of (Transition.Resume k x) w = Part.SeatAt k ∷ Part.Aside ∷ []
parts_of (Transition.Answer k x o xs) w = Part.SeatAt k ∷ Part.Ring x.chain.ticket.queue ∷ Part.Memory ∷ []
parts_of (Transition.Leave k unit_index t jobs) w = Part.SeatAt k ∷ Part.UnitAt unit_index ∷ []
parts_of (Transition.Mark t p m jobs) w = Part.Function ∷ Part.UnitAt p.unit ∷ Part.SeatAt 0 ∷ Part.Aside ∷ []
parts_of (Transition.Ask t unit_index rule b) w = Part.Function ∷ Part.UnitAt unit_index ∷ []
parts_of (Transition.MarkRefused t) w = Part.Function ∷ marked_next w.function
parts_of (Transition.Check t p) w = Part.Function ∷ Part.UnitAt p.unit ∷ []
parts_of (Transition.Respond c r xs) w = Part.Function ∷ Part.Ring c.ticket.queue ∷ Part.Memory ∷ []
parts_of (Transition.Hard p jobs) w = Part.UnitAt p.unit ∷ Part.SeatAt w.workers ∷ Part.Waiting ∷ Part.Aside ∷ []
parts_of (Transition.Resize unit_index blocks) w = Part.UnitAt unit_index ∷ Part.Waiting ∷ []
parts_of (Transition.Deal unit_index x) w = Part.UnitAt unit_index ∷ []
parts_of (Transition.Give e c xs) w = Part.Buffers ∷ Part.Waiting ∷ Part.Ring c.ticket.queue ∷ Part.Memory ∷ []
parts_of (Transition.Miss e) w = Part.Buffers ∷ Part.Waiting ∷ []
parts_of (Transition.Idle e) w = []

abbrev pub Share : Type 0
Share = Half Transition PlainWorld
