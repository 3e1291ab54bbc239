-- What is decided names no units but those that are there.
use Rattle.std.proofs.Common.{◌≡◌, ℕ, ◌<◌, ◌≤◌, Bool, true, false, cond, if◌then◌else◌, nat_lt, List, length, Option, Some, None, Result, Ok, Err, refl, subst, arith}
use Rattle.std.specs.Prelude.{⊤, []}
use Rattle.std.specs.List.{AllByRecursion}
use Rattle.std.proofs.lemmas.Bool.Decides.{nat_tests}
use Rattle.cdb.specs.declared.commands.Command.{Command}
use Rattle.scsi_codec.specs.Requests.{reading}
use Rattle.scsi_codec.specs.ControlQueue.{answer_len}
use Rattle.scsi_codec.specs.declared.lun.Address.{Address}
use Rattle.scsi_codec.specs.declared.requests.Request.{Request}
use Rattle.scsi_codec.specs.declared.requests.CodecFault.{CodecFault}
use Rattle.scsi_codec.specs.declared.requests.CodecFault.TheVariants.{ShortRequest, ShortResponse, BadAddress}
use Rattle.scsi_codec.specs.declared.responses.ResponseCode.TheVariants as code
use Rattle.scsi_codec.specs.declared.control_queue.Control.{Control}
use Rattle.scsi_codec.specs.declared.control_queue.Control.TheVariants.{TaskManagement, AsynchronousNotification, MalformedFunction, MalformedNotification}
use Rattle.scsi_codec.specs.declared.control_queue.FunctionResponse.{FunctionResponse}
use Rattle.cdb.specs.Decoding.{command}
use Rattle.request_intake.specs.Inventory.{PlainInventory, has_target, index_of, profile_of}
use Rattle.request_intake.specs.UnitRequest.{PlainRequest}
use Rattle.request_intake.specs.Decision.{attribute_of, goes_both_ways, overruns, fails, decide_unit, decide_attribute, decide_command, decide_address, decide_reading, decided}
use Rattle.request_intake.specs.declared.answer.ChainLengths.{ChainLengths}
use Rattle.request_intake.specs.declared.attribute.TaskAttribute.{TaskAttribute}
use Rattle.request_intake.specs.declared.decision.Decision.{Decision}
use Rattle.request_intake.specs.declared.decision.Decision.TheVariants as decision
use Rattle.task_mgmt.specs.Control.{decided_of_function, decided_of, decided_with_room}
use Rattle.task_mgmt.specs.Inner.Control.{Suits}
use Rattle.task_mgmt.specs.Demands.{demanded, begun}
use Rattle.task_mgmt.specs.declared.kind.Kind.{Kind}
use Rattle.task_mgmt.specs.Functions.{PlainFunction}
use Rattle.task_mgmt.specs.declared.control.ControlDecision.{ControlDecision}
use Rattle.task_mgmt.specs.declared.control.ControlDecision.TheVariants as managed
use Rattle.task_mgmt.proofs.Deciding.{suits_with_room}

-- Of a request

-- the unit that it goes to is one of so many
abbrev IsThere : ℕ → Decision → Type 0
IsThere n (decision.Direct answer) = ⊤
IsThere n (decision.Enter unit_index r) = unit_index < n

-- either way it is one of so many
there_either : (b : Bool) (n : ℕ) (x y : Decision) → IsThere n x → IsThere n y → IsThere n (if b then x else y)
there_either true n x y h g = h
there_either false n x y h g = g

-- an index that was found is within the list
found_within : (n k unit_index : ℕ) → cond (nat_lt k n) (Some k) None ≡ Some unit_index → unit_index < n
found_within n k unit_index e = grind (arith, nat_tests)

-- it goes to the unit of the address, which is there
unit_there : (o : Option ℕ) (m : ℕ) (n : ChainLengths) (bytes : List ℕ) (r : Request) (a : TaskAttribute) (c : Command)
    → ((unit_index : ℕ) → o ≡ Some unit_index → unit_index < m) → IsThere m (decide_unit o n bytes r a c)
unit_there None m n bytes r a c h = tt
unit_there (Some unit_index) m n bytes r a c h = h unit_index refl

-- whatever its task attribute
attribute_there : (o : Option TaskAttribute) (unit_index : Option ℕ) (m : ℕ) (n : ChainLengths) (bytes : List ℕ) (r : Request)
    (c : Command) → ((at : ℕ) → unit_index ≡ Some at → at < m) → IsThere m (decide_attribute o unit_index n bytes r c)
attribute_there None unit_index m n bytes r c h = tt
attribute_there (Some a) unit_index m n bytes r c h = unit_there unit_index m n bytes r a c h

-- whatever its command
command_there : (units : List Address) (n : ChainLengths) (bytes : List ℕ) (r : Request) (c : Command)
    → IsThere (length units) (decide_command (index_of units r.address) n bytes r c)
command_there units n bytes r c =
    let unit_index = index_of units r.address in
    there_either (overruns n c) (length units) (fails code.Overrun)
    (decide_attribute (attribute_of r.attribute) unit_index n bytes r c) tt
    (attribute_there (attribute_of r.attribute) unit_index (length units) n bytes r c
    (λ at e. found_within (length units) _ at e))

-- whatever its address
address_there : (units : PlainInventory) (n : ChainLengths) (bytes : List ℕ) (r : Request)
    → IsThere (length units.addresses) (decide_address units n bytes r)
address_there units n bytes r =
    let c = command (profile_of units r.address) r.cdb in
    there_either (has_target units.addresses r.address.target) (length units.addresses)
    (decide_command (index_of units.addresses r.address) n bytes r c) (fails code.BadTarget)
    (command_there units.addresses n bytes r c) tt

-- whatever was read
reading_there : (o : Result Request CodecFault) (units : PlainInventory) (n : ChainLengths) (bytes : List ℕ)
    → IsThere (length units.addresses) (decide_reading o units n bytes)
reading_there (Err ShortResponse) units n bytes = tt
reading_there (Err ShortRequest) units n bytes = tt
reading_there (Err BadAddress) units n bytes =
    there_either (goes_both_ways n) (length units.addresses) (fails code.Failure) (fails code.BadTarget) tt tt
reading_there (Ok r) units n bytes =
    there_either (goes_both_ways n) (length units.addresses) (fails code.Failure) (decide_address units n bytes r) tt
    (address_there units n bytes r)

-- the unit that a request goes to is there
pub decided_there : (units : PlainInventory) (bytes : List ℕ) (n : ChainLengths) (unit_index : ℕ) (r : PlainRequest)
    → decided units bytes n ≡ decision.Enter unit_index r → unit_index < length units.addresses
decided_there units bytes n unit_index r e =
    subst (IsThere (length units.addresses)) e (reading_there (reading bytes n.writable) units n bytes)

-- Of a function

-- its units are among so many, and it waits for no mark
abbrev OpensThere : ℕ → ControlDecision → Type 0
OpensThere n (managed.Direct answer) = ⊤
OpensThere n (managed.Opens f) = AllByRecursion (λ unit_index. unit_index < n) f.left × (f.waits ≡ [])

-- it waits for no mark
abbrev OpensNew : ControlDecision → Type 0
OpensNew (managed.Direct answer) = ⊤
OpensNew (managed.Opens f) = f.waits ≡ []

-- a function that begins waits for no mark
begun_new : (o : Result (Kind × List ℕ) FunctionResponse) → OpensNew (decided_of_function (begun o))
begun_new (Ok (kind, unit_indices)) = refl
begun_new (Err response) = tt

-- and so does what is decided with room
new_with_room : (units : List Address) (c : Control) → OpensNew (decided_with_room units c)
new_with_room units (TaskManagement subtype address id) = begun_new (demanded units subtype address id)
new_with_room units AsynchronousNotification = tt
new_with_room units MalformedFunction = tt
new_with_room units MalformedNotification = tt

-- what suits the units, and waits for no mark
suited : (n writable : ℕ) (d : ControlDecision) → Suits n writable d → OpensNew d → OpensThere n d
suited n writable (managed.Direct answer) s new = tt
suited n writable (managed.Opens f) s new = (s.1, new)

-- without room no function opens
with_room : (b : Bool) (n : ℕ) (d : ControlDecision) → (b ≡ false → OpensThere n d)
    → OpensThere n (if b then managed.Direct [] else d)
with_room true n d h = tt
with_room false n d h = h refl

-- where the answer isn't too long there is room
roomy : (m n : ℕ) → nat_lt m n ≡ false → n ≤ m
roomy m n e = grind (arith, nat_tests)

-- the units of a function that opens are there, and it waits for no mark
pub opened_there : (units : List Address) (c : Control) (writable : ℕ) (f : PlainFunction)
    → decided_of units c writable ≡ managed.Opens f
    → AllByRecursion (λ unit_index. unit_index < length units) f.left × (f.waits ≡ [])
opened_there units c writable f e =
    let n = length units in
    let d = decided_with_room units c in
    subst (OpensThere n) e
    (with_room (nat_lt writable (answer_len c)) n d (λ b.
    suited n writable d (suits_with_room units c writable (roomy writable (answer_len c) b)) (new_with_room units c)))
