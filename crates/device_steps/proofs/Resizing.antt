-- The operator resizes a unit.
use Rattle.std.proofs.Common.{◌≡◌, ◌≤◌, ◌++◌, ℕ, Bool, true, false, List, Option, Some, Result, Ok, Err, refl, sym, ap, ◌∙◌, arith}
use Rattle.std.specs.Prelude.{slice_get, slice_set}
use Rattle.foundation.specs.declared.NoMemory.{NoMemory}
use Rattle.scsi_codec.specs.declared.event_queue.Event.{Event as EventRecord}
use Rattle.unit_model.specs.Steps.{Step}
use Rattle.unit_model.specs.Unit.{PlainUnit, after as stepped}
use Rattle.phases.specs.declared.resizing.ResizeFault.{ResizeFault}
use Rattle.phases.specs.declared.resizing.ResizeFault.TheVariants as fault
use Rattle.device_model.specs.World.{PlainWorld, AreAddressed}
use Rattle.device_model.specs.Events.{Event}
use Rattle.device_model.specs.Transitions.{Transition}
use Rattle.device_model.specs.Event.Resize.{change_reports}
use Rattle.device_model.proofs.Joining.{joins}
use Rattle.phases.specs.Resizing.{ResizesUnit}
use Rattle.device_steps.specs.Inner.Steps.{TurnsOrWants}
use Rattle.device_steps.specs.Sound.{AreFew, lun_of}
use Rattle.device_steps.proofs.Setting.{unit_change, unit_still, map_get}

-- two parts of the device
abbrev resize_parts : PlainWorld → List PlainUnit → List EventRecord → PlainWorld
resize_parts w units waiting = record w { units = units; waiting = waiting }

parts_are : (w : PlainWorld) (a a' : List PlainUnit) (c c' : List EventRecord) → a ≡ a' → c ≡ c'
    → resize_parts w a c ≡ resize_parts w a' c'
parts_are w a a' c c' x z = ap (λ l. resize_parts w l c) x ∙ ap (λ l. resize_parts w a' l) z

-- the device afterwards
abbrev pub resized_in : PlainWorld → ℕ → PlainUnit → List EventRecord → PlainWorld
resized_in w p v waiting = resize_parts w (slice_set w.units p v) waiting

untrue : true ≡ false → ⊥
untrue e = cc

-- as it is told of the event: a capacity that no unit may have changes nothing, and no unit is another than the one that is
-- named
abbrev pub told_as : Result Bool ResizeFault → Result Bool NoMemory
told_as (Ok changed) = Ok changed
told_as (Err fault.WrongUnit) = Ok false
told_as (Err fault.BadCapacity) = Ok false
told_as (Err fault.NoMemory) = Err (record {})

-- what a resize does is the event's turn, or memory was refused
pub resizes : (w : PlainWorld) → AreAddressed w → AreFew w → (p blocks : ℕ) (u v : PlainUnit) (waiting : List EventRecord)
    → slice_get w.units p ≡ Some u → (r : Result Bool ResizeFault)
    → ResizesUnit w.inventory p u blocks w.tells_changes w.waiting r v waiting
    → TurnsOrWants w (Event.Resize p blocks) (told_as r) (resized_in w p v waiting)
resizes w addressed few p blocks u v waiting u_at (Ok true) h =
    let d = Transition.Resize p blocks in
    let does = h.1 in (
      d,
      refl,
      joins d w tt (u, u_at, does.asks) tt,
      parts_are w _ _ _ _ (unit_change (stepped (Step.Resize blocks)) w.units p u v u_at does.is)
          (h.2 ∙ ap (λ (o : Option PlainUnit). w.waiting ++ change_reports w.tells_changes o) (sym u_at)),
    )
resizes w addressed few p blocks u v waiting u_at (Ok false) h =
    let lun : u.opening.lun ≤ 16383 = few.luns p (lun_of u) (map_get lun_of p w.units u u_at) in
    absurd (h.3 (omega (arith, lun)))
resizes w addressed few p blocks u v waiting u_at (Err fault.WrongUnit) h = absurd (h.2 (addressed p u u_at))
resizes w addressed few p blocks u v waiting u_at (Err fault.BadCapacity) h = (
  parts_are w _ _ _ _ (unit_still w.units p u v u_at h.0) h.1,
  λ a.
      let same : a.0 ≡ u = some_same a.0 u (sym a.1 ∙ u_at) in
      untrue (sym a.2 ∙ h.2.1),
)
  where
    some_same : (x y : PlainUnit) → Some x ≡ Some y → x ≡ y
    some_same x y e = cc
resizes w addressed few p blocks u v waiting u_at (Err fault.NoMemory) h =
    ((u, u_at, h.2.1), parts_are w _ _ _ _ (unit_still w.units p u v u_at h.0) h.1)
