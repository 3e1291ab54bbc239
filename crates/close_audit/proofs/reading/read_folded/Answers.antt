use Rattle.std.proofs.Common.{◌≡◌, ◌-◌, ap, sym, ◌∙◌, ℕ, List, Option, length, drop, arith}
use Rattle.std.specs.Option.{option_map}
use Rattle.unit_model.specs.Base.{base_of}
use Rattle.unit_model.specs.Steps.{Step}
use Rattle.unit_model.proofs.Base.{base_within}
use Rattle.close_audit.specs.declared.tally.TicketFact.{TicketFact}
use Rattle.close_audit.specs.Inner.Tallies.{read_commits, tells, fact_of_commit, tally_at}
use Rattle.close_audit.proofs.Slots.{map_same}
use Rattle.close_audit.proofs.Folding.{none_folded, folded_step, folded_known, folded_unknown}
use Rattle.close_audit.proofs.reading.read_folded.Goals as goal

pub loop-place-init : goal.loop-place-init
loop-place-init c = λ t.
    map_same (tally_at c.args.tables.now.tables.items t)
    ∙ ap (λ (p : List Step). option_map (read_commits t c.args.index p) (tally_at c.args.tables.now.tables.items t)) (sym (none_folded c.args.unit.now.steps))

pub loop-place-preserved : goal.loop-place-preserved
loop-place-preserved c = λ t.
    let within = base_within c.args.unit.now.steps in
    folded_step t c.args.index c.args.unit.now.steps c.loop-place.place (omega (arith, within))
    (tally_at c.args.tables.now.tables.items t) (tally_at c.loop-place.tables.tables.items t) _
    (c.loop-place.invariant t)
    (c.tell.ensures t
    ∙ ap (λ (w : Option TicketFact). option_map (tells w t) (tally_at c.loop-place.tables.tables.items t)) (c.fact_of_commit.ensures ∙ ap (fact_of_commit c.args.index) c.commit_at.ensures))

pub returns-then-not-keeps_replies : goal.returns-then-not-keeps_replies
returns-then-not-keeps_replies c = λ t.
    folded_unknown t c.args.index c.args.unit.now (tally_at c.args.tables.now.tables.items t) (sym c.keeps_replies.ensures ∙ c.if-not-keeps_replies.true)

pub returns : goal.returns
returns c = λ t.
    c.loop-place.invariant t
    ∙ ap (λ (n : ℕ). option_map (read_commits t c.args.index (drop (length c.args.unit.now.steps - n) c.args.unit.now.steps)) (tally_at c.args.tables.now.tables.items t))
    (let e : c.loop-place.place ≡ base_of c.args.unit.now.steps = omega arith in e)
    ∙ folded_known t c.args.index c.args.unit.now (tally_at c.args.tables.now.tables.items t) (sym c.keeps_replies.ensures ∙ c.if-not-keeps_replies.false)
