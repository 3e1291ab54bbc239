use Rattle.std.proofs.Common.{◌≡◌, ℕ, ◌<◌, false}
use Rattle.close_audit.specs.Inner.Tallies.{tally_at, ends_amiss}
use Rattle.close_audit.proofs.least.first_unsettled.Given as goal

abbrev pub invariant-loop-number : goal.invariant-loop-number
invariant-loop-number l =
    (n : ℕ) → n < l.number → ends_amiss l.folded (tally_at l.tables.tables.items (record { queue = l.queue_index; number = n })) ≡ false
