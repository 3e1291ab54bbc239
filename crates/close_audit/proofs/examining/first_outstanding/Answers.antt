use Rattle.std.proofs.Common.{subst, ap, ◌∙◌, Bool, List, Vec}
use Rattle.std.specs.List.{fold}
use Rattle.std.specs.declared.alloc.Global.{Global}
use Rattle.unit_model.specs.Receipts.{Receipt}
use Rattle.virtqueue.specs.Queue.{BareQueue}
use Rattle.phases.specs.Notes.{PlainNote}
use Rattle.close_audit.specs.declared.tally.Tally.{Tally}
use Rattle.close_audit.specs.Closed.{IsFirst}
use Rattle.unit_model.specs.Unit.{PlainUnit}
use Rattle.close_audit.specs.Settled.{is_request, any_folded}
use Rattle.close_audit.specs.Inner.Sources.{amiss_of, stray}
use Rattle.close_audit.specs.Inner.Tallies.{fresh, AreTallies, tally_at, with_receipt, with_note, with_units}
use Rattle.close_audit.proofs.Folding.{known_kept}
use Rattle.close_audit.proofs.Sourcing.{found_first, read_on}
use Rattle.close_audit.proofs.examining.first_outstanding.Goals as goal

pub returns : goal.returns
returns c =
    let r = c.args.report.now in
    let first : List (Vec Tally Global) = c.in_ok-tables.tables.tables.items in
    let second : List (Vec Tally Global) = c.read_receipts-of_receipts.new.tables.tables.items in
    let third : List (Vec Tally Global) = c.read_notes-of_notes.new.tables.tables.items in
    let last : List (Vec Tally Global) = c.read_units.new.tables.tables.items in
    let units = c.as_slice-units.ensures.value in
    let queues = c.as_slice-queues.ensures.value in
    let receipts = c.as_slice.ensures.value in
    let notes = c.as_slice-2.ensures.value in
    let opened : AreTallies r.queues.items (λ t. fresh) first = subst (λ (qs : List BareQueue). AreTallies qs (λ t. fresh) first) queues c.in_ok-tables.ensures in
    rw (c.lesser-2.ensures, c.lesser.ensures)
    (found_first r.units.items r.queues.items r.receipts.items r.notes.items c.requires.stand
    first second last c.first_of-of_queues.result c.read_receipts-of_receipts.result c.read_notes-of_notes.result
    opened
    (λ t. known_kept _ _ _ (c.read_receipts-of_receipts.ensures.tallied t))
    (λ t.
    read_on (λ s. fold (with_receipt t) s r.receipts.items) (λ s. fold (with_note t) s r.notes.items) (with_units t 0 r.units.items) (is_request r.queues.items t)
    (tally_at first t) (tally_at second t) (tally_at third t) (tally_at last t)
    (opened t)
    (rw receipts at (c.read_receipts-of_receipts.ensures.tallied t))
    (rw notes at (c.read_notes-of_notes.ensures.tallied t))
    (rw units at (c.read_units.ensures t)))
    (subst (λ (qs : List BareQueue). IsFirst (amiss_of qs (any_folded r.units.items) last) c.first_of-of_queues.result) queues
    (subst (λ (g : Bool). IsFirst (amiss_of c.as_slice-queues.result.now g last) c.first_of-of_queues.result)
    (c.are_any_folded.ensures ∙ ap (λ (us : List PlainUnit). any_folded us) units) c.first_of-of_queues.ensures))
    (subst (λ (xs : List Receipt). IsFirst (stray (λ (z : Receipt). z.ticket) first xs) c.read_receipts-of_receipts.result) receipts c.read_receipts-of_receipts.ensures.strays)
    (subst (λ (xs : List PlainNote). IsFirst (stray (λ (z : PlainNote). z.ticket) second xs) c.read_notes-of_notes.result) notes c.read_notes-of_notes.ensures.strays))
