-- How often an act of the operator stands in the histories of units, and how often it was made.
use Rattle.std.specs.Prelude.{ℕ, Bool, true, false, ◌&&◌, ◌==◌, List, Option, Some, None, if◌then◌else◌}
use Rattle.std.specs.List.{sum_by}
use Rattle.scsi_codec.specs.declared.lun.Address.{Address}
use Rattle.unit_model.specs.Receipts.{unit_address}
use Rattle.unit_model.specs.Unit.{PlainUnit}
use Rattle.lock_scopes.specs.declared.acts.Act.{Act}
use Rattle.lock_scopes.specs.Acts.{acts_of, act_weight}

abbrev pub is_same_address : Address → Address → Bool
is_same_address a b = (a.target == b.target) && (a.lun == b.lun)

-- own: whether two acts are of one kind: hard resets, or resizes to the same number of blocks
abbrev pub is_same_kind : Option ℕ → Option ℕ → Bool
is_same_kind None None = true
is_same_kind (Some n) (Some m) = n == m
is_same_kind None (Some m) = false
is_same_kind (Some n) None = false

-- own: an act weighs 1 where it is this one, and else nothing
abbrev pub one_of : Address → Option ℕ → Address → Option ℕ → ℕ
one_of unit kind a k = if is_same_address unit a && is_same_kind kind k then 1 else 0

-- own: how often an act on the unit of an address stands in the histories
abbrev pub times_in : Address → Option ℕ → List PlainUnit → ℕ
times_in unit kind units = sum_by (λ (u : PlainUnit). sum_by (one_of unit kind (unit_address u.opening)) (acts_of u.steps)) units

-- own: how often it was made
abbrev pub times_made : Address → Option ℕ → List Act → ℕ
times_made unit kind acts = sum_by (act_weight (one_of unit kind)) acts
