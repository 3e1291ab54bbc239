-- How many Commits the units of a host have, what their acts of the operator weigh, and which blanks open its ledgers.
use Rattle.std.specs.Prelude.{ℕ, ◌≡◌, ◌≤◌, List, Option}
use Rattle.std.specs.List.{sum_by}
use Rattle.scsi_codec.specs.declared.lun.Address.{Address}
use Rattle.unit_model.specs.Receipts.{unit_address}
use Rattle.unit_model.specs.Unit.{PlainUnit}
use Rattle.lock_scopes.specs.Ledgers.{commits_of}
use Rattle.lock_scopes.specs.Acts.{weight_of}

-- own: how many Commits units have
abbrev pub commits_in : List PlainUnit → ℕ
commits_in units = sum_by (λ (u : PlainUnit). commits_of u.steps) units

-- own: what the acts of the operator weigh that stand in the histories of units, where each act on a unit has a weight
abbrev pub weight_in : (Address → Option ℕ → ℕ) → List PlainUnit → ℕ
weight_in weight units = sum_by (λ (u : PlainUnit). weight_of weight (unit_address u.opening) u.steps) units

-- own: a blank of this name and so many parts opens a ledger of that name and so many, which are as many as are needed, or
-- more
abbrev pub Opens : ℕ → ℕ → ℕ → ℕ → ℕ → Type 0
Opens name parts ledger_name ledger_parts needed = (name ≡ ledger_name) × (parts ≡ ledger_parts) × (needed ≤ parts)
