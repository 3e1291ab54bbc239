use Rattle.std.proofs.Common.{◌≡◌, ℕ, ◌%◌, List, length, set, sym, ◌∙◌, subst, arith}
use Rattle.unit_model.specs.Receipts.{Receipt}
use Rattle.close_audit.specs.Keeping.{receipts_of, KeepsReceipt}
use Rattle.close_audit.proofs.Keeping.{keeps_one}
use Rattle.close_audit.proofs.replies.keep_receipt.Goals as goal

pub returns : goal.returns
returns c =
    let cs : List Receipt = c.args.receipts.now.items in
    let rs = c.args.replies.now.items in
    let count : c.len-slot.result ≡ length cs = c.len-slot.ensures ∙ c.args.receipts.now.ok.0 in
    subst (λ (n : ℕ). KeepsReceipt (receipts_of cs rs) c.args.receipt (receipts_of c.push_reserved.new.self.items (set rs (n % 4096) c.of-bare.result.1))) (sym count)
    (subst (λ (xs : List Receipt). KeepsReceipt (receipts_of cs rs) c.args.receipt (receipts_of xs (set rs (length cs % 4096) c.of-bare.result.1))) (sym c.push_reserved.ensures.items)
    (keeps_one cs rs c.args.receipt c.shorten.new.receipt c.of-bare.result.0 c.of-bare.result.1 c.shorten.ensures c.of-bare.ensures.bare c.of-bare.ensures.reply
    (omega (arith, c.requires.slots, c.args.replies.now.ok.0))))
