-- Which transitions change what the host's storage has of a unit's disk.
use Rattle.std.specs.Prelude.{ℕ, Bool, false, ◌==◌, ◌&&◌, List, Option, option_map, unwrap_or}
use Rattle.block_store.specs.Blocks.{Blocks}
use Rattle.block_store.specs.Storage.{Ledger, Dealing, storage_by, is_lost, is_denied}
use Rattle.unit_model.specs.Unit.{PlainUnit}
use Rattle.device_model.specs.Transitions.{Transition}

-- the blocks of a unit's disk as its host was last given them, if their pages come and go
abbrev pub given_of : PlainUnit → Option Blocks
given_of u = option_map (λ (l : Ledger). (storage_by l).given) u.storage

-- and those that its storage has, as far as the host said
abbrev pub kept_of : PlainUnit → Option Blocks
kept_of u = option_map (λ (l : Ledger). (storage_by l).kept) u.storage

-- and what else that may have of each block: all that the host was given of it since it said that it wrote the page
abbrev pub unkept_of : PlainUnit → Option (ℕ → List (List ℕ))
unkept_of u = option_map (λ (l : Ledger). (storage_by l).unkept) u.storage

-- the transition gives the host a page of the unit of an index, or resizes it
abbrev pub gives : ℕ → Transition → Bool
gives unit_index (Transition.Deal k (Dealing.Give page bytes)) = k == unit_index
gives unit_index (Transition.Deal k (Dealing.Cut blocks)) = k == unit_index
gives unit_index (Transition.Resize k blocks) = k == unit_index
gives unit_index d = false

-- the transition says that the host wrote a page of the unit of an index, or resizes it
abbrev pub keeps : ℕ → Transition → Bool
keeps unit_index (Transition.Deal k (Dealing.Keep page)) = k == unit_index
keeps unit_index (Transition.Deal k (Dealing.Cut blocks)) = k == unit_index
keeps unit_index (Transition.Resize k blocks) = k == unit_index
keeps unit_index d = false

-- the host's last word of reading page p of a unit's disk is that it can't
abbrev pub lost_of : ℕ → PlainUnit → Bool
lost_of p u = unwrap_or (option_map (λ (l : Ledger). is_lost p l) u.storage) false

-- the transition says whether the host can read page p of the unit of an index: not one that it lost, but one that it handed
-- in, or wrote
abbrev pub tells : ℕ → ℕ → Transition → Bool
tells unit_index p (Transition.Deal k (Dealing.Lose page)) = k == unit_index && p == page
tells unit_index p (Transition.Deal k (Dealing.Load page)) = k == unit_index && p == page
tells unit_index p (Transition.Deal k (Dealing.Keep page)) = k == unit_index && p == page
tells unit_index p d = false

-- the host's last word of writing page p of a unit's disk is that it can't
abbrev pub denied_of : ℕ → PlainUnit → Bool
denied_of p u = unwrap_or (option_map (λ (l : Ledger). is_denied p l) u.storage) false

-- the transition says whether the host can write page p of the unit of an index: not one that it denied, but one that it wrote;
-- or it resizes the unit
abbrev pub tells_writing : ℕ → ℕ → Transition → Bool
tells_writing unit_index p (Transition.Deal k (Dealing.Deny page)) = k == unit_index && p == page
tells_writing unit_index p (Transition.Deal k (Dealing.Keep page)) = k == unit_index && p == page
tells_writing unit_index p (Transition.Deal k (Dealing.Cut blocks)) = k == unit_index
tells_writing unit_index p (Transition.Resize k blocks) = k == unit_index
tells_writing unit_index p d = false
