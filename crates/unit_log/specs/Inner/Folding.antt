-- What is kept of folded steps.
use Rattle.std.specs.Prelude.{ℕ, ◌≡◌, ◌≤◌, ◌<◌, ◌⊎◌, ◌==◌, List, [], ◌∷◌, ◌++◌, length, map, slice_get, Bool, true, Option, Some, None, if◌then◌else◌}
use Rattle.unit_model.specs.declared.rule.Rule.{Rule}
use Rattle.unit_log.specs.declared.folding.FoldedMark.{FoldedMark}
use Rattle.unit_log.specs.declared.kind.StepKind.{StepKind}
use Rattle.unit_log.specs.declared.runs.Run.{Run}
use Rattle.unit_log.specs.Inner.Kept.{met_kind}
use Rattle.unit_log.specs.Runs.{committed}
use Rattle.unit_log.specs.Inner.Runs.{AreCommits}

-- own: which tasks a step meets, if there is one
abbrev pub met_one : Option StepKind → Option Rule
met_one None = None
met_one (Some k) = met_kind k

-- own: the rule that is kept under a place
abbrev pub mark_at : ℕ → List FoldedMark → Option Rule
mark_at p [] = None
mark_at p (m ∷ marks) = if m.place == p then Some m.rule else mark_at p marks

abbrev pub rule_if : ℕ → Option FoldedMark → Option Rule
rule_if p None = None
rule_if p (Some m) = if m.place == p then Some m.rule else None

-- own: one more mark, where a step has one; the newest first
abbrev pub with_mark : ℕ → Option Rule → List FoldedMark → List FoldedMark
with_mark place None marks = marks
with_mark place (Some rule) marks = record { place = place; rule = rule } ∷ marks

-- own: the oldest goes, where it is before a place, or none does
abbrev pub Forgets : ℕ → List FoldedMark → List FoldedMark → Type 0
Forgets place marks marks' = (marks' ≡ marks) ⊎ ((m : FoldedMark) × (m.place < place) × (marks ≡ marks' ++ m ∷ []))

-- own: what is kept of folded steps
pub record AreFolded (keeps : Bool) (len forgotten : ℕ) (marks : List FoldedMark) (commits : List (List Run))
    (kinds : List StepKind) : Type 0 where
  pub counted : len ≡ length kinds
  pub marked : (p : ℕ) → forgotten ≤ p → mark_at p marks ≡ met_one (slice_get kinds p)
  pub stand : keeps ≡ true → AreCommits (map committed kinds) commits
