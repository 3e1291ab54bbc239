use Rattle.std.proofs.Common.{◌≡◌, ◌+◌, List, get_or, is_some, ap, sym, subst, ◌∙◌, take, Option}
use Rattle.std.proofs.lemmas.List.{take_all}
use Rattle.std.specs.Option.{option_map}
use Rattle.ring_core.specs.declared.log.Ticket.{Ticket}
use Rattle.phases.specs.Notes.{PlainNote}
use Rattle.close_audit.specs.declared.tally.Answer.TheVariants as answer
use Rattle.close_audit.specs.declared.tally.Fact.TheVariants as fact
use Rattle.close_audit.specs.declared.tally.Tally.{Tally}
use Rattle.close_audit.specs.Closed.{IsFirst}
use Rattle.close_audit.specs.Inner.Sources.{stray, stray_one}
use Rattle.close_audit.specs.Inner.Tallies.{with_note, marking, tally_at, lesser_of}
use Rattle.close_audit.proofs.Folding.{fold_step, known_kept}
use Rattle.close_audit.proofs.Prefixes.{stray_step}
use Rattle.close_audit.proofs.reading.read_notes.Goals as goal

pub loop-note-preserved : goal.loop-note-preserved
loop-note-preserved c =
    let xs : List PlainNote = c.args.notes.now in
    let d : PlainNote = c.note-item.result in
    let its : c.ticket-ticket.result ≡ (get_or xs c.loop-note.note-index d).ticket = c.ticket-ticket.ensures ∙ ap (λ (z : PlainNote). z.ticket) c.note-item.is in
    let last : c.lesser-first.result ≡ lesser_of c.loop-note.first (stray_one c.mark-known.result (get_or xs c.loop-note.note-index d).ticket) =
    c.lesser-first.ensures ∙ ap (lesser_of c.loop-note.first) (c.stray_one.ensures ∙ ap (stray_one c.mark-known.result) its) in
    let known : c.mark-known.result ≡ is_some (tally_at c.args.tables.now.tables.items (get_or xs c.loop-note.note-index d).ticket) =
    c.mark-known.ensures.known ∙ known_kept _ _ _ (c.loop-note.invariant.tallied c.ticket-ticket.result)
    ∙ ap (λ (z : Ticket). is_some (tally_at c.args.tables.now.tables.items z)) its in
    record {
      tallied = λ t.
          fold_step (with_note t) xs c.loop-note.note-index d c.loop-note-test.true (tally_at c.args.tables.now.tables.items t) (tally_at c.loop-note.tables.tables.items t) (tally_at c.mark-known.new.self.tables.items t)
          (c.loop-note.invariant.tallied t)
          (c.mark-known.ensures.marks t
          ∙ ap (λ (u : Ticket). option_map (marking u (fact.Answered (answer.Note c.cause.result)) t) (tally_at c.loop-note.tables.tables.items t)) c.ticket-ticket.ensures
          ∙ ap (λ w. option_map (marking c.note-item.result.ticket (fact.Answered (answer.Note w)) t) (tally_at c.loop-note.tables.tables.items t)) c.cause.ensures
          ∙ ap (λ (z : PlainNote). option_map (λ (s : Tally). with_note t s z) (tally_at c.loop-note.tables.tables.items t)) c.note-item.is);
      strays =
          subst (λ (r : Option Ticket). IsFirst (stray (λ (z : PlainNote). z.ticket) c.args.tables.now.tables.items (take (c.loop-note.note-index + 1) xs)) r) (sym last)
          (stray_step c.args.tables.now.tables.items (λ (z : PlainNote). z.ticket) xs c.loop-note.note-index d c.loop-note.first c.mark-known.result c.loop-note-test.true known c.loop-note.invariant.strays);
    }

pub returns-clause-strays : goal.returns-clause-strays
returns-clause-strays c =
    subst (λ (xs : List PlainNote). IsFirst (stray (λ (z : PlainNote). z.ticket) c.args.tables.now.tables.items xs) c.loop-note.first)
    (take_all c.loop-note.note-index c.args.notes.now c.loop-note-test.false) c.loop-note.invariant.strays
