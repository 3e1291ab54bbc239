-- What a chain or a job is answered with, as plain values.
use Rattle.std.specs.Prelude.{ℕ, ◌≡◌, List, length, IfSome}
use Rattle.ring_core.specs.Writes.{Wrote, scatter_writes}
use Rattle.unit_model.specs.Endings.{Ending, answer_of}
use Rattle.unit_model.specs.Jobs.{PlainJob}
use Rattle.logical_unit.specs.Endings.{ending_of}
use Rattle.device_model.specs.Parts.{lengths_of}
use Rattle.phases.specs.Outcomes.{PlainJobInHand}

-- what answers the job is written over its chain's parts, and has so many bytes
pub record WritesWholeIn (x : PlainJob) (e : Ending) (before : List ℕ → Type 0) (len : ℕ) (after : List ℕ → Type 0) : Type 0 where
  pub written : len ≡ length (answer_of (lengths_of x.chain) e)
  pub memory : Wrote before after (scatter_writes x.chain.parts 0 (answer_of (lengths_of x.chain) e))

-- the same of a job whose commit is over
abbrev pub WritesEndingIn : PlainJobInHand → (List ℕ → Type 0) → ℕ → (List ℕ → Type 0) → Type 0
WritesEndingIn h before len after = IfSome h.outcome (λ o. WritesWholeIn h.job (ending_of o) before len after)
