-- What was done of a storage, with how far the latest flush is by that.
use Rattle.block_store.specs.Storage.{Ledger, Dealing, and_then}
use Rattle.block_store.specs.Progress.{Progress, progress_after}

pub record Hosted : Type 0 where
  pub ledger : Ledger
  pub progress : Progress

-- with one more
abbrev pub hosted_after : Dealing → Hosted → Hosted
hosted_after d x = record { ledger = and_then d x.ledger; progress = progress_after d x.progress }
