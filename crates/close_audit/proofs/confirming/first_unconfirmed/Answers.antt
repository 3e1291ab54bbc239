use Rattle.std.proofs.Common.{◌≡◌, Bool, true, false, sym, ◌∙◌, ◌+◌, refl}
use Rattle.close_audit.specs.Inner.Prefix.{ConfirmsTo}
use Rattle.close_audit.specs.Inner.Tallies.{lesser_of}
use Rattle.close_audit.specs.Inner.Unconfirmed.{with_unconfirmed}
use Rattle.close_audit.proofs.Bools.{clash}
use Rattle.close_audit.proofs.Prefixes.{confirms_yes, confirms_no, confirms_all}
use Rattle.close_audit.proofs.confirming.first_unconfirmed.Goals as goal

-- by whether the receipt is confirmed
more : (c : goal.After-lesser-first) (b : Bool) → c.is_confirmed-confirmed.result ≡ b
    → ConfirmsTo c.args.units.now c.args.receipts.now (c.loop-receipt.receipt-index + 1) (lesser_of c.loop-receipt.first (with_unconfirmed b c.receipt-item.result.ticket))
more c true e =
    confirms_yes c.args.units.now c.args.receipts.now c.loop-receipt.receipt-index c.receipt-item.result c.loop-receipt-test.true c.receipt-item.is c.loop-receipt.first
    (c.is_confirmed-confirmed.ensures.0 e) c.loop-receipt.invariant
more c false e =
    confirms_no c.args.units.now c.args.receipts.now c.loop-receipt.receipt-index c.receipt-item.result c.loop-receipt-test.true c.receipt-item.is c.loop-receipt.first
    (λ k. clash (sym (c.is_confirmed-confirmed.ensures.1 k) ∙ e)) c.loop-receipt.invariant

pub loop-receipt-preserved : goal.loop-receipt-preserved
loop-receipt-preserved c =
    let u = c.unless.ensures in
    rw (c.lesser-first.ensures, c.unless.ensures, c.ticket.ensures) (more c c.is_confirmed-confirmed.result refl)

pub returns : goal.returns
returns c = confirms_all c.args.units.now c.args.receipts.now c.loop-receipt.receipt-index c.loop-receipt.first c.loop-receipt-test.false c.loop-receipt.invariant
