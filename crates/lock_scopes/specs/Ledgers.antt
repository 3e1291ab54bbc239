-- What the ledger of Commits counts: those of units, and the receipts that seats were given for them.
use Rattle.std.specs.Prelude.{ℕ, ◌≡◌, ◌+◌, Bool, false, List, [], ◌∷◌, if◌then◌else◌}
use Rattle.std.specs.Borrow.{MutBor}
use Rattle.std.specs.Fn.{Once}
use Rattle.unit_model.specs.Steps.{Step}
use Rattle.unit_model.specs.Unit.{PlainUnit, is_backed}
use Rattle.phases.specs.Giving.{has_receipt}
use Rattle.phases.specs.declared.hand.Hand.{Hand}
use Rattle.lock_scopes.specs.declared.joined_unit.NextJob.{NextJob}
use Rattle.lock_scopes.specs.declared.joined_unit.NextJob.TheVariants.{Listed, Taken, Committed}
use Rattle.lock_scopes.specs.Lending.{OnceAtThree}
use Rattle.lock_scopes.specs.Acts.{acts_of}

-- own: how many of these steps are Commits
abbrev pub commits_of : List Step → ℕ
commits_of [] = 0
commits_of (Step.Commit t r ∷ past) = commits_of past + 1
commits_of (step ∷ past) = commits_of past

-- own: how many Commits a unit may make. No history has more steps
abbrev pub most_commits : ℕ
most_commits = 18446744073709551615

-- own: how many receipts the hand is to give
abbrev pub receipts_due : Hand → ℕ
receipts_due h = if has_receipt h then 1 else 0

-- own: how many receipts a commit that changed something left in the hand
abbrev pub receipts_made : Bool → Hand → ℕ
receipts_made changed h = if changed then receipts_due h else 0

-- own: how many receipts a job that was run in the hold of its Enter left in the hand
abbrev pub receipts_run : NextJob → Hand → ℕ
receipts_run Listed h = 0
receipts_run Taken h = 0
receipts_run Committed h = receipts_due h

-- own: a unit's history has the acts of the operator that it had, the unit opened as it had, and its disk is of the same kind
abbrev pub KeepsActs : PlainUnit → PlainUnit → Type 0
KeepsActs u v = (acts_of v.steps ≡ acts_of u.steps) × (v.opening ≡ u.opening) × (is_backed v ≡ is_backed u)

-- own: a closure says how many Commits it made, where the unit's disk isn't backed, and it is no act of the operator
abbrev pub CountsCommits : {F S U R : Type 0}
    (g : Once F (MutBor PlainUnit × (MutBor S × (MutBor U × Unit {0})))
    ((R × ℕ) × (MutBor PlainUnit × (MutBor S × (MutBor U × Unit {0})))))
    → F → Type 0
CountsCommits {F} {S} {U} {R} g f = (u v : PlainUnit) (x x' : S) (y y' : U) (r : R × ℕ) → OnceAtThree g f u x y r v x' y'
    → is_backed u ≡ false → (commits_of v.steps ≡ commits_of u.steps + r.1) × KeepsActs u v
