-- Whether a request comes to a unit as one that asks for the medium.
use Rattle.std.proofs.Common.{◌≡◌, ℕ, Bool, true, false, List, Option, None, Some, refl, if◌then◌else◌}
use Rattle.std.specs.Prelude.{⊤}
use Rattle.cdb.specs.Decoding.{command}
use Rattle.cdb.specs.Medium.{asks_medium}
use Rattle.cdb.specs.declared.commands.Command.{Command}
use Rattle.scsi_codec.specs.declared.requests.Request.{Request}
use Rattle.scsi_codec.specs.declared.responses.ResponseCode.TheVariants as code
use Rattle.request_intake.specs.Decision.{attribute_of, decide_address, decide_attribute, decide_command, decide_unit, fails, goes_both_ways, overruns}
use Rattle.request_intake.specs.Inventory.{PlainInventory, has_target, index_of, profile_of}
use Rattle.request_intake.specs.declared.answer.ChainLengths.{ChainLengths}
use Rattle.request_intake.specs.declared.attribute.TaskAttribute.{TaskAttribute}
use Rattle.request_intake.specs.declared.decision.Decision.{Decision}
use Rattle.request_intake.specs.declared.decision.Decision.TheVariants as decision

-- a unit's request asks for the medium so, or there is none
abbrev pub Asks : Bool → Decision → Type 0
Asks asks (decision.Direct answer) = ⊤
Asks asks (decision.Enter at r) = r.asks_medium ≡ asks

either_asks : (b asks : Bool) (x y : Decision) → Asks asks x → Asks asks y → Asks asks (if b then x else y)
either_asks true asks x y h k = h
either_asks false asks x y h k = k

unit_asks : (o : Option ℕ) (n : ChainLengths) (bytes : List ℕ) (q : Request) (a : TaskAttribute) (c : Command)
    → Asks (asks_medium q.cdb) (decide_unit o n bytes q a c)
unit_asks None n bytes q a c = tt
unit_asks (Some at) n bytes q a c = refl

attribute_asks : (a : Option TaskAttribute) (o : Option ℕ) (n : ChainLengths) (bytes : List ℕ) (q : Request) (c : Command)
    → Asks (asks_medium q.cdb) (decide_attribute a o n bytes q c)
attribute_asks None o n bytes q c = tt
attribute_asks (Some a) o n bytes q c = unit_asks o n bytes q a c

pub address_asks : (units : PlainInventory) (n : ChainLengths) (bytes : List ℕ) (q : Request)
    → Asks (asks_medium q.cdb) (if goes_both_ways n then fails code.Failure else decide_address units n bytes q)
address_asks units n bytes q =
    let c = command (profile_of units q.address) q.cdb in
    let asks = asks_medium q.cdb in
    let at = index_of units.addresses q.address in
    either_asks (goes_both_ways n) asks (fails code.Failure) (decide_address units n bytes q) tt
    (either_asks (has_target units.addresses q.address.target) asks (decide_command at n bytes q c) (fails code.BadTarget)
    (either_asks (overruns n c) asks (fails code.Overrun) (decide_attribute (attribute_of q.attribute) at n bytes q c) tt
    (attribute_asks (attribute_of q.attribute) at n bytes q c)) tt)
