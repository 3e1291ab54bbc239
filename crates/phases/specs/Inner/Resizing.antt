-- Rests on `specs/Resizing.antt`; no promise rests on it.
use Rattle.logical_unit.specs.declared.outcomes.ResizeFault as of_unit
use Rattle.logical_unit.specs.declared.outcomes.ResizeFault.TheVariants as unit_fault
use Rattle.phases.specs.declared.resizing.ResizeFault.{ResizeFault}
use Rattle.phases.specs.declared.resizing.ResizeFault.TheVariants as fault

-- own: why the unit itself refuses it
abbrev pub resize_fault_of : of_unit.ResizeFault → ResizeFault
resize_fault_of unit_fault.BadCapacity = fault.BadCapacity
resize_fault_of unit_fault.NoMemory = fault.NoMemory
