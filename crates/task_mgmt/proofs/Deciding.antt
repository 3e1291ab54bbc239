-- What is decided of a chain of the control queue suits it.
use Rattle.std.proofs.Common.{◌≡◌, ℕ, Bool, true, false, cond, if◌then◌else◌, ◌<◌, ◌≤◌, ◌==◌, nat_lt, List, length, Option, Some, None, Result, Ok, Err, refl, arith}
use Rattle.std.specs.Prelude.{⊤}
use Rattle.std.specs.List.{AllByRecursion}
use Rattle.std.proofs.lemmas.Bool.Decides.{nat_tests}
use Rattle.scsi_codec.specs.ControlQueue.{answer_len}
use Rattle.scsi_codec.specs.declared.lun.Address.{Address}
use Rattle.scsi_codec.specs.declared.control_queue.Control.{Control}
use Rattle.scsi_codec.specs.declared.control_queue.Control.TheVariants.{TaskManagement, AsynchronousNotification, MalformedFunction, MalformedNotification}
use Rattle.scsi_codec.specs.declared.control_queue.FunctionResponse.{FunctionResponse}
use Rattle.request_intake.specs.Inventory.{has_target, index_of}
use Rattle.task_mgmt.specs.declared.kind.Kind.{Kind}
use Rattle.task_mgmt.specs.Functions.{kind_of}
use Rattle.task_mgmt.specs.Demands.{demanded_of_unit, demanded_at, demanded_by, demanded, begun}
use Rattle.task_mgmt.specs.Control.{decided_of_function, decided_with_room}
use Rattle.task_mgmt.specs.Inner.Control.{Suits}
use Rattle.task_mgmt.proofs.Rising.{places_there}

-- the units of what is demanded are there
abbrev Below : ℕ → Result (Kind × List ℕ) FunctionResponse → Type 0
Below n (Ok (kind, indexes)) = AllByRecursion (λ k. k < n) indexes
Below n (Err response) = ⊤

found_below : (n k unit_index : ℕ) → cond (nat_lt k n) (Some k) None ≡ Some unit_index → unit_index < n
found_below n k unit_index e = grind (arith, nat_tests)

unit_below : (n : ℕ) (o : Option ℕ) (kind : Kind) → ((unit_index : ℕ) → o ≡ Some unit_index → unit_index < n) → Below n (demanded_of_unit o kind)
unit_below n None kind h = tt
unit_below n (Some unit_index) kind h = (h unit_index refl, tt)

below_either : (b : Bool) (n : ℕ) (x y : Result (Kind × List ℕ) FunctionResponse) → Below n x → Below n y → Below n (if b then x else y)
below_either true n x y h g = h
below_either false n x y h g = g

at_below : (units : List Address) (subtype : ℕ) (address : Option Address) (kind : Kind) → Below (length units) (demanded_at units subtype address kind)
at_below units subtype None kind = tt
at_below units subtype (Some a) kind =
    let one = unit_below (length units) (index_of units a) kind (λ unit_index e. found_below (length units) _ unit_index e) in
    below_either (has_target units a.target) (length units) _ _
    (below_either (subtype == 4) (length units) _ _ (places_there units a.target) one)
    tt

by_below : (o : Option Kind) (units : List Address) (subtype : ℕ) (address : Option Address) → Below (length units) (demanded_by o units subtype address)
by_below None units subtype address = tt
by_below (Some kind) units subtype address = at_below units subtype address kind

function_suits : (r : Result (Kind × List ℕ) FunctionResponse) (n writable : ℕ) → 1 ≤ writable → Below n r → Suits n writable (decided_of_function (begun r))
function_suits (Ok (kind, indexes)) n writable h there = (h, there)
function_suits (Err response) n writable h there = (omega arith, h)

pub suits_with_room : (units : List Address) (c : Control) (writable : ℕ) → answer_len c ≤ writable → Suits (length units) writable (decided_with_room units c)
suits_with_room units (TaskManagement subtype address id) writable h =
    function_suits (demanded units subtype address id) (length units) writable h (by_below (kind_of subtype id) units subtype address)
suits_with_room units AsynchronousNotification writable h = (omega arith, h)
suits_with_room units MalformedFunction writable h = (omega arith, h)
suits_with_room units MalformedNotification writable h = (omega arith, h)
