-- How much a unit did, by its steps.
use Rattle.std.specs.Prelude.{ℕ, ◌+◌, ◌-◌, ◌%◌, ◌^◌, ◌==◌, List, [], ◌∷◌, length, if◌then◌else◌}
use Rattle.command_model.specs.PlainReply.{PlainReply}
use Rattle.command_model.specs.Statuses.{good, check_condition}
use Rattle.unit_model.specs.Steps.{Step}
use Rattle.unit_model.specs.declared.counts.Counts.{Counts}

-- own: a number of 64 bits, which begins again at 0
abbrev pub more_by : ℕ → ℕ → ℕ
more_by more n = (n + more) % 2 ^ 64

abbrev pub one_where : ℕ → ℕ → ℕ
one_where n m = if n == m then 1 else 0

-- own: nothing was done
abbrev pub no_counts : Counts
no_counts =
    record { left = 0; full = 0; good = 0; check_conditions = 0; busy = 0; data_out = 0; data_in = 0 }

-- own: a command was answered so: its data went to the driver, and what it moved besides came from there
abbrev pub with_reply : PlainReply → Counts → Counts
with_reply r c = record c {
  good = more_by (one_where r.status good) c.good;
  check_conditions = more_by (one_where r.status check_condition) c.check_conditions;
  data_out = more_by (r.moved - length r.payload) c.data_out;
  data_in = more_by (length r.payload) c.data_in;
}

-- own: one step more
abbrev pub with_step : Step → Counts → Counts
with_step (Step.Commit t r) c = with_reply r c
with_step (Step.Busy t) c = record c { busy = more_by 1 c.busy }
with_step (Step.Full t) c = record c { full = more_by 1 c.full }
with_step (Step.Leave t) c = record c { left = more_by 1 c.left }
with_step s c = c

-- own: how much a unit did by these steps, the newest first
abbrev pub counts_of : List Step → Counts
counts_of [] = no_counts
counts_of (s ∷ past) = with_step s (counts_of past)
