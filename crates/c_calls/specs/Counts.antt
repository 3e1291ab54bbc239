-- How much a unit did, as C is told.
use Rattle.std.specs.Prelude.{ℕ, ◌≡◌, Option, Some, None}
use Rattle.unit_model.specs.Unit.{PlainUnit}
use Rattle.unit_model.specs.Counts.{counts_of}
use Rattle.unit_model.specs.declared.counts.Counts.{Counts}
use Rattle.device_steps.specs.Views.{unit_at}
use Rattle.c_calls.specs.declared.answer.Answer.{Answer}
use Rattle.c_calls.specs.declared.answer.Answer.TheVariants as answer
use Rattle.c_calls.specs.declared.counts.UnitCounts.{UnitCounts}
use Rattle.c_calls.specs.declared.served.Served.{Served}

abbrev pub counts_in : UnitCounts → Counts
counts_in c = record {
  left = c.left;
  full = c.full;
  good = c.good;
  check_conditions = c.check_conditions;
  busy = c.busy;
  data_out = c.data_out;
  data_in = c.data_in;
}

-- as `UnitState::counts`
abbrev pub TellsCountsOf : Option PlainUnit → UnitCounts → Answer → UnitCounts → Type 0
TellsCountsOf None old answer.NoUnit new = new ≡ old
TellsCountsOf (Some u) old answer.Done new = counts_in new ≡ counts_of u.steps
TellsCountsOf u old a new = ⊥

abbrev pub TellsCounts : ℕ → ℕ → UnitCounts → UnitCounts → Served → Answer → Served → Type 0
TellsCounts target lun old new d a d' = TellsCountsOf (unit_at d.world target lun) old a new × (d' ≡ d)
