use Rattle.close_audit.specs.Inner.Prefix.{ConfirmsTo}
use Rattle.close_audit.proofs.confirming.first_unconfirmed.Given as goal

abbrev pub invariant-loop-receipt : goal.invariant-loop-receipt
invariant-loop-receipt l = ConfirmsTo l.units l.receipts l.receipt-index l.first
