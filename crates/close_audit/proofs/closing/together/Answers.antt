use Rattle.std.proofs.Common.{◌≡◌, ◌++◌, List, [], length, sym, ap, ◌∙◌}
use Rattle.std.proofs.lemmas.List.{append-nil, nil_from_length}
use Rattle.std.proofs.lemmas.List.Concat.{length-flat_map}
use Rattle.close_audit.specs.Keeping.{receipts_in, receipts_of_all}
use Rattle.close_audit.specs.declared.kept.Kept.{Kept}
use Rattle.close_audit.proofs.closing.together.Goals as goal

pub returns-clause-counted : goal.returns-clause-counted
returns-clause-counted c =
    let receipts = c.loop-one.receipts in
    let none : c.loop-one.one-iterator.rest.items ≡ [] = nil_from_length _ (sym c.loop-one.one-iterator.rest.ok.0 ∙ c.in-None.ensures.steps.0) in
    receipts.ok.0
    ∙ ap length
    (sym (append-nil receipts.items)
    ∙ ap (λ (left : List Kept). receipts.items ++ receipts_of_all left) (sym none)
    ∙ c.loop-one.invariant.receipts)
    ∙ length-flat_map receipts_in c.args.kept.items
