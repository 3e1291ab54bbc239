-- The acts of the operator, those that a history has, and what they weigh.
use Rattle.std.specs.Prelude.{ℕ, Bool, List, [], ◌∷◌, ◌++◌, Option, Some, None, if◌then◌else◌}
use Rattle.std.specs.List.{sum_by}
use Rattle.scsi_codec.specs.declared.lun.Address.{Address}
use Rattle.unit_attention.specs.Code.{same_code}
use Rattle.unit_model.specs.Steps.{Step}
use Rattle.device_model.specs.Event.Hard.{hard_code}
use Rattle.lock_scopes.specs.declared.acts.Act.{Act}
use Rattle.lock_scopes.specs.declared.acts.Act.TheVariants as act

-- own: the acts of the operator in a history, the newest first: a hard reset, which raises the code of power on (SPC-4
-- §4.5.6), as None, and a resize as the blocks that it gave
abbrev pub acts_of : List Step → List (Option ℕ)
acts_of [] = []
acts_of (Step.Reset c ∷ past) = if same_code c hard_code then None ∷ acts_of past else acts_of past
acts_of (Step.Resize n ∷ past) = Some n ∷ acts_of past
acts_of (step ∷ past) = acts_of past

-- own: what the acts of the operator weigh that stand in the history of the unit of an address, where each act on a unit
-- has a weight
abbrev pub weight_of : (Address → Option ℕ → ℕ) → Address → List Step → ℕ
weight_of weight unit steps = sum_by (weight unit) (acts_of steps)

-- own: what an act weighs. Whether the guest is told has no weight, as no history has that
abbrev pub act_weight : (Address → Option ℕ → ℕ) → Act → ℕ
act_weight weight (act.Reset unit) = weight unit None
act_weight weight (act.Resize unit blocks told) = weight unit (Some blocks)

-- own: what acts weigh together
abbrev pub acts_weight : (Address → Option ℕ → ℕ) → List Act → ℕ
acts_weight weight acts = sum_by (act_weight weight) acts

-- own: the reset of the unit of an address, if there is one, and its resize
abbrev pub reset_of : Option Address → Option Act
reset_of None = None
reset_of (Some a) = Some (act.Reset a)

abbrev pub resize_of : ℕ → Bool → Option Address → Option Act
resize_of blocks told None = None
resize_of blocks told (Some a) = Some (act.Resize a blocks told)

-- own: acts, and one more behind them, if it was made
abbrev pub acts_with : Option Act → List Act → List Act
acts_with None acts = acts
acts_with (Some a) acts = acts ++ a ∷ []
