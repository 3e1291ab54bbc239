-- A log of events, each of one part. The newest stands first.
use Rattle.std.specs.Prelude.{ℕ, ◌<◌, ◌==◌, ⊤, List, [], ◌∷◌, length, slice_index_or, if◌then◌else◌}

-- each event may come next behind those before it
abbrev pub IsLawful : {E : Type 0} → (List E → E → Type 0) → List E → Type 0
IsLawful may [] = ⊤
IsLawful may (e ∷ past) = IsLawful may past × may past e

-- the events of one part, in their order
abbrev pub events_of : {E : Type 0} → (E → ℕ) → ℕ → List E → List E
events_of part_of k [] = []
events_of part_of k (e ∷ past) = if part_of e == k then e ∷ events_of part_of k past else events_of part_of k past

abbrev pub count_of : {E : Type 0} → (E → ℕ) → ℕ → List E → ℕ
count_of part_of k log = length (events_of part_of k log)

-- what the value of one part knows: the part's number, the log as it was with the part's latest event, and what of the log
-- was seen since
pub record PlainMark (E : Type 0) : Type 0 where
  pub number : ℕ
  pub own : List E
  pub known : List E

-- of each mark, with its index
abbrev pub Each : {E : Type 0} → (ℕ → PlainMark E → Type 0) → List (PlainMark E) → Type 0
Each {E} P marks = (k : ℕ) (other : PlainMark E) → k < length marks → P k (slice_index_or marks k other)
