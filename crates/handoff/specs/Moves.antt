-- What a seat put into one queue, or took from it.
use Rattle.std.specs.Prelude.{ℕ}
use Rattle.unit_model.specs.Jobs.{PlainJob}

-- own: a put or a take: which seat's, and of which job
pub record Move : Type 0 where
  pub seat : ℕ
  pub job : PlainJob

abbrev pub move : ℕ → PlainJob → Move
move s j = record { seat = s; job = j }
