use Rattle.std.proofs.Common.{◌≡◌, ◌<◌, ◌≤◌, ◌+◌, ℕ, ◌++◌, List, [], ◌∷◌, length, sym, ap, subst, ◌∙◌, arith}
use Rattle.unit_model.specs.Receipts.{Receipt}
use Rattle.close_audit.specs.Keeping.{with_replies, reply_of}
use Rattle.close_audit.proofs.Keeping.{joined_one}
use Rattle.close_audit.proofs.closing.append_receipts.Goals as goal

pub loop-receipt-preserved : goal.loop-receipt-preserved
loop-receipt-preserved c =
    let old = c.loop-receipt.invariant in
    let done : List Receipt = c.loop-receipt.receipts.items in
    let place : ℕ = c.loop-receipt.place in
    let rs = c.loop-receipt.replies.items in
    let later = c.next.new.self.rest.items in
    let rest : c.loop-receipt.receipt-iterator.rest.items ≡ c.in-Some.receipt ∷ later = c.in-Some.ensures.steps.0 in
    let count : c.len-count.result ≡ length c.args.bare.items = c.len-count.ensures ∙ c.args.bare.ok.0 in
    let reply = c.reply_out-reply.ensures in
    record {
      len = omega (arith, c.push_reserved.ensures.len, old.len);
      count = omega (arith, old.count, c.in-Some.ensures.steps.1);
      room = omega (arith, old.room, c.push_reserved.ensures.capacity);
      joined =
          ap (λ (xs : List Receipt). xs ++ with_replies (length c.args.bare.items) (place + 1) later c.reply_out-reply.new.replies.items)
          (c.push_reserved.ensures.items ∙ ap (λ (r : Receipt). done ++ r ∷ []) c.with_reply.ensures)
          ∙ joined_one done (length c.args.bare.items) place c.in-Some.receipt later rs c.reply_out-reply.new.replies.items _
          (omega (arith, old.count, c.loop-receipt.receipt-iterator.rest.ok.0, ap length rest, c.args.bare.ok.0))
          (reply.reply ∙ ap (λ (n : ℕ). reply_of n place rs) count)
          (subst (λ (n : ℕ). (k : ℕ) → place < k → k < n → reply_of n k c.reply_out-reply.new.replies.items ≡ reply_of n k rs) count reply.later)
          ∙ ap (λ (cs : List Receipt). done ++ with_replies (length c.args.bare.items) place cs rs) (sym rest)
          ∙ old.joined;
    }
