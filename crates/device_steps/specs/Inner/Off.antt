-- The lists of the hand-off as the device keeps them, and what is done to them.
use Rattle.std.specs.Prelude.{ℕ, ◌≡◌, ◌<◌, ◌≤◌, List, [], ◌∷◌, drop, length, Option, Some, None, slice_get}
use Rattle.unit_model.specs.Jobs.{PlainJob, Jobs}
use Rattle.device_model.specs.World.{Everywhere, IsBefore, change}
use Rattle.device_model.specs.Changing.{with_job}
use Rattle.device_steps.specs.Off.{KeptOff}

-- each list was made with this limit
abbrev pub HaveLimit : ℕ → List Jobs → Type 0
HaveLimit limit lists = Everywhere (λ k (l : Jobs). l.limit ≡ limit) lists

abbrev pub AreBare : List (List PlainJob) → Type 0
AreBare lists = Everywhere (λ k (jobs : List PlainJob). jobs ≡ []) lists

-- a job stands behind the others of a list, which had room
pub record PutsAt (at : ℕ) (x : PlainJob) (old new : KeptOff) : Type 0 where
  pub off : List PlainJob
  pub there : slice_get old.lists at ≡ Some off
  pub room : length off < old.limit
  pub after : new ≡ record { lists = change (with_job x) at old.lists; limit = old.limit }

pub record IsFullAt (at : ℕ) (h : KeptOff) : Type 0 where
  pub off : List PlainJob
  pub there : slice_get h.lists at ≡ Some off
  pub full : h.limit ≤ length off

-- the list has a job
pub record HasJob (lists : List (List PlainJob)) (at : ℕ) : Type 0 where
  pub job : PlainJob
  pub rest : List PlainJob
  pub there : slice_get lists at ≡ Some (job ∷ rest)

-- each list from one number on, short of another, is empty
abbrev pub AreBareBetween : ℕ → ℕ → List (List PlainJob) → Type 0
AreBareBetween from to lists =
    (i : ℕ) (jobs : List PlainJob) → from ≤ i → i < to → slice_get lists i ≡ Some jobs → jobs ≡ []

-- the first list that isn't empty of those from one number on, short of another; or each is empty
abbrev pub IsFirstBetween : ℕ → ℕ → List (List PlainJob) → Option ℕ → Type 0
IsFirstBetween from to lists (Some at) = (from ≤ at) × (at < to) × HasJob lists at × AreBareBetween from at lists
IsFirstBetween from to lists None = AreBareBetween from to lists

-- the first list that isn't empty, on the way round from the own one; or each is empty
abbrev pub IsNearest : ℕ → List (List PlainJob) → Option ℕ → Type 0
IsNearest own lists (Some at) =
    HasJob lists at × ((i : ℕ) (jobs : List PlainJob) → IsBefore own i at → slice_get lists i ≡ Some jobs → jobs ≡ [])
IsNearest own lists None = AreBare lists

-- the first job of the first list that isn't empty, on the way round
pub record TakesNearest (own : ℕ) (x : PlainJob) (old new : KeptOff) : Type 0 where
  pub from : ℕ
  pub rest : List PlainJob
  pub there : slice_get old.lists from ≡ Some (x ∷ rest)
  pub first : (i : ℕ) (jobs : List PlainJob) → IsBefore own i from → slice_get old.lists i ≡ Some jobs → jobs ≡ []
  pub after : new ≡ record { lists = change (drop 1) from old.lists; limit = old.limit }

-- that, or each is empty
abbrev pub Takes : ℕ → KeptOff → Option PlainJob → KeptOff → Type 0
Takes own old (Some x) new = TakesNearest own x old new
Takes own old None new = (new ≡ old) × AreBare old.lists
