-- The operator resets a unit.
use Rattle.std.proofs.Common.{◌≡◌, ◌≤◌, ◌<◌, ◌+◌, ◌*◌, ◌++◌, ℕ, Bool, true, false, List, length, Option, Some, Result, Ok, Err, refl, sym, ap, ◌∙◌, arith}
use Rattle.std.specs.Prelude.{slice_get, slice_set, map}
use Rattle.std.proofs.lemmas.List.{length-map}
use Rattle.foundation.specs.declared.NoMemory.{NoMemory}
use Rattle.scsi_codec.specs.declared.event_queue.Event.{Event as EventRecord}
use Rattle.request_intake.specs.Inventory.{PlainInventory}
use Rattle.unit_model.specs.Steps.{Step}
use Rattle.unit_model.specs.Jobs.{Jobs}
use Rattle.unit_model.specs.Unit.{PlainUnit, after as stepped}
use Rattle.device_model.specs.World.{Seat, PlainWorld, AreAddressed}
use Rattle.device_model.specs.Events.{Event}
use Rattle.device_model.specs.Transitions.{Transition}
use Rattle.device_model.specs.Event.Hard.{hard_code, reports_of}
use Rattle.device_model.specs.Event.Wake.{after_wake}
use Rattle.device_model.specs.Found.{handed_out}
use Rattle.device_model.specs.Standing.{HaveRoom}
use Rattle.device_model.proofs.Joining.{joins}
use Rattle.phases.specs.Units.{mark_at}
use Rattle.phases.specs.declared.resetting.ResetFault.{ResetFault}
use Rattle.phases.specs.declared.resetting.ResetFault.TheVariants as fault
use Rattle.phases.specs.Resetting.{Resets}
use Rattle.device_steps.specs.Kept.{KeptSeat, seat_of}
use Rattle.device_steps.specs.Inner.Steps.{TurnsOrWants}
use Rattle.device_steps.specs.Sound.{AreFew, lun_of}
use Rattle.device_steps.proofs.Setting.{list_of, listing, unit_change, unit_still, map_get, seat_there, seat_more, seat_still, has_places}

-- the list keeps its limit
pub reset_limit : (inventory : PlainInventory) (p : ℕ) (u v : PlainUnit) (out out' : Jobs) (x y : List EventRecord)
    (r : Result Bool ResetFault) → Resets inventory p u out x r v out' y → out'.limit ≡ out.limit
reset_limit inventory p u v out out' x y (Ok true) h = ap (λ (j : Jobs). j.limit) h.2
reset_limit inventory p u v out out' x y (Ok false) h = ap (λ (j : Jobs). j.limit) h.1.jobs
reset_limit inventory p u v out out' x y (Err fault.WrongUnit) h = ap (λ (j : Jobs). j.limit) h.1.jobs
reset_limit inventory p u v out out' x y (Err fault.NoMemory) h = ap (λ (j : Jobs). j.limit) h.1.jobs

-- there is a seat of the operator
pub has_operator : (w : PlainWorld) (kept : List KeptSeat) → w.seats ≡ map seat_of kept
    → length w.seats ≡ w.workers + 1 → w.workers < length kept
has_operator w kept are many =
    let same_count : length w.seats ≡ length kept = ap (λ (l : List Seat). length l) are ∙ length-map kept seat_of in
    omega (arith, same_count, many)

-- three parts of the device
abbrev pub reset_parts : PlainWorld → List PlainUnit → List Seat → List EventRecord → PlainWorld
reset_parts w units seats waiting = record w { units = units; seats = seats; waiting = waiting }

parts_are : (w : PlainWorld) (a a' : List PlainUnit) (b b' : List Seat) (c c' : List EventRecord) → a ≡ a' → b ≡ b'
    → c ≡ c' → reset_parts w a b c ≡ reset_parts w a' b' c'
parts_are w a a' b b' c c' x y z =
    ap (λ l. reset_parts w l b c) x ∙ ap (λ l. reset_parts w a' l c) y ∙ ap (λ l. reset_parts w a' b' l) z

-- the device afterwards
abbrev pub reset_in : PlainWorld → List KeptSeat → ℕ → PlainUnit → ℕ → KeptSeat → List EventRecord → PlainWorld
reset_in w kept p v n t waiting = reset_parts w (slice_set w.units p v) (map seat_of (slice_set kept n t)) waiting

-- as it is told of the event: no unit is another than the one that is named
abbrev pub reset_as : Result Bool ResetFault → Result Bool NoMemory
reset_as (Ok changed) = Ok changed
reset_as (Err fault.WrongUnit) = Ok false
reset_as (Err fault.NoMemory) = Err (record {})

-- a reset has the jobs that wait tried again
abbrev pub woken_by : Result Bool ResetFault → PlainWorld → PlainWorld
woken_by (Ok true) w = after_wake w
woken_by r w = w

-- what a reset does is the event's turn, or memory was refused
pub resets : (w : PlainWorld) (kept : List KeptSeat) → w.seats ≡ map seat_of kept → HaveRoom w → AreAddressed w → AreFew w
    → ((k : ℕ) (z : KeptSeat) → slice_get kept k ≡ Some z → z.limit ≡ 64 * length w.units + 64)
    → (p : ℕ) (u v : PlainUnit) (s : KeptSeat) (out : Jobs) (waiting : List EventRecord) → slice_get w.units p ≡ Some u
    → slice_get kept w.workers ≡ Some s → (r : Result Bool ResetFault)
    → Resets w.inventory p u (list_of s) w.waiting r v out waiting
    → TurnsOrWants w (Event.Hard p) (reset_as r) (woken_by r (reset_in w kept p v w.workers (listing out s) waiting))
resets w kept are room addressed few limits p u v s out waiting u_at s_at (Ok true) h =
    let jobs = handed_out u (Step.Reset hard_code) in
    let d = Transition.Hard (mark_at p u) jobs in
    let does = h.1 in (
      d,
      refl,
      joins d w (seat_of s, seat_there w.seats kept are w.workers s s_at out) (u, u_at, does.asks) tt,
      ap after_wake (parts_are w _ _ _ _ _ _ (unit_change (stepped (Step.Reset hard_code)) w.units p u v u_at does.is)
          (seat_more w.seats kept are w.workers s s_at out jobs h.2)
          (h.3 ∙ ap (λ (o : Option PlainUnit). w.waiting ++ reports_of o) (sym u_at))),
    )
resets w kept are room addressed few limits p u v s out waiting u_at s_at (Ok false) h =
    let lun : u.opening.lun ≤ 16383 = few.luns p (lun_of u) (map_get lun_of p w.units u u_at) in
    absurd (h.2 (has_places w kept w.workers s are room limits s_at) (omega (arith, lun)))
resets w kept are room addressed few limits p u v s out waiting u_at s_at (Err fault.WrongUnit) h = absurd (h.0 (addressed p u u_at))
resets w kept are room addressed few limits p u v s out waiting u_at s_at (Err fault.NoMemory) h = (
  (u, u_at),
  parts_are w _ _ _ _ _ _ (unit_still w.units p u v u_at h.1.unit)
      (seat_still w.seats kept are w.workers s s_at out h.1.jobs) h.1.waiting,
)
