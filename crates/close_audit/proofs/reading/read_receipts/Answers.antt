use Rattle.std.proofs.Common.{◌≡◌, ◌+◌, List, get_or, is_some, ap, sym, subst, ◌∙◌, take, Option}
use Rattle.std.proofs.lemmas.List.{take_all}
use Rattle.std.specs.Option.{option_map}
use Rattle.ring_core.specs.declared.log.Ticket.{Ticket}
use Rattle.unit_model.specs.Receipts.{Receipt}
use Rattle.close_audit.specs.declared.tally.Answer.TheVariants as answer
use Rattle.close_audit.specs.declared.tally.Fact.TheVariants as fact
use Rattle.close_audit.specs.declared.tally.Tally.{Tally}
use Rattle.close_audit.specs.Closed.{IsFirst}
use Rattle.close_audit.specs.Inner.Sources.{stray, stray_one}
use Rattle.close_audit.specs.Inner.Tallies.{with_receipt, marking, tally_at, lesser_of}
use Rattle.close_audit.proofs.Folding.{fold_step, known_kept}
use Rattle.close_audit.proofs.Prefixes.{stray_step}
use Rattle.close_audit.proofs.reading.read_receipts.Goals as goal

pub loop-receipt-preserved : goal.loop-receipt-preserved
loop-receipt-preserved c =
    let xs : List Receipt = c.args.receipts.now in
    let d : Receipt = c.receipt-item.result in
    let its : c.ticket-ticket.result ≡ (get_or xs c.loop-receipt.receipt-index d).ticket = c.ticket-ticket.ensures ∙ ap (λ (z : Receipt). z.ticket) c.receipt-item.is in
    let last : c.lesser-first.result ≡ lesser_of c.loop-receipt.first (stray_one c.mark-known.result (get_or xs c.loop-receipt.receipt-index d).ticket) =
    c.lesser-first.ensures ∙ ap (lesser_of c.loop-receipt.first) (c.stray_one.ensures ∙ ap (stray_one c.mark-known.result) its) in
    let known : c.mark-known.result ≡ is_some (tally_at c.args.tables.now.tables.items (get_or xs c.loop-receipt.receipt-index d).ticket) =
    c.mark-known.ensures.known ∙ known_kept _ _ _ (c.loop-receipt.invariant.tallied c.ticket-ticket.result)
    ∙ ap (λ (z : Ticket). is_some (tally_at c.args.tables.now.tables.items z)) its in
    record {
      tallied = λ t.
          fold_step (with_receipt t) xs c.loop-receipt.receipt-index d c.loop-receipt-test.true (tally_at c.args.tables.now.tables.items t) (tally_at c.loop-receipt.tables.tables.items t) (tally_at c.mark-known.new.self.tables.items t)
          (c.loop-receipt.invariant.tallied t)
          (c.mark-known.ensures.marks t
          ∙ ap (λ (u : Ticket). option_map (marking u (fact.Answered answer.Receipt) t) (tally_at c.loop-receipt.tables.tables.items t)) c.ticket-ticket.ensures
          ∙ ap (λ (z : Receipt). option_map (λ (s : Tally). with_receipt t s z) (tally_at c.loop-receipt.tables.tables.items t)) c.receipt-item.is);
      strays =
          subst (λ (r : Option Ticket). IsFirst (stray (λ (z : Receipt). z.ticket) c.args.tables.now.tables.items (take (c.loop-receipt.receipt-index + 1) xs)) r) (sym last)
          (stray_step c.args.tables.now.tables.items (λ (z : Receipt). z.ticket) xs c.loop-receipt.receipt-index d c.loop-receipt.first c.mark-known.result c.loop-receipt-test.true known c.loop-receipt.invariant.strays);
    }

pub returns-clause-strays : goal.returns-clause-strays
returns-clause-strays c =
    subst (λ (xs : List Receipt). IsFirst (stray (λ (z : Receipt). z.ticket) c.args.tables.now.tables.items xs) c.loop-receipt.first)
    (take_all c.loop-receipt.receipt-index c.args.receipts.now c.loop-receipt-test.false) c.loop-receipt.invariant.strays
