use Rattle.std.proofs.Common.{◌≡◌, ◌<◌, List, Vec, length, get_or, sym, ◌∙◌, ap, subst}
use Rattle.std.specs.declared.alloc.Global.{Global}
use Rattle.unit_log.specs.declared.runs.Run.{Run}
use Rattle.unit_log.specs.Inner.Runs.{AreRising}
use Rattle.unit_log.proofs.Tables.{table_is}
use Rattle.unit_log.proofs.commits.Commits.stands.Goals as goal

pub is_in-requires : goal.is_in-requires
is_in-requires c =
    let l = c.in-Some.ensures.lookup in
    let queues = c.self.inside.queues.items in
    let same : c.deref.result.now ≡ queues = c.deref.ensures.value in
    subst (AreRising 0) (sym c.as_slice.ensures.value)
    (subst (AreRising 0) (table_is c.args.ticket.queue queues c.in-Some.runs.now
    (subst (λ (w : List (Vec Run Global)). c.args.ticket.queue < length w) same l.3.0)
    (l.1 ∙ ap (λ (w : List (Vec Run Global)). get_or w c.args.ticket.queue c.in-Some.runs.now) same))
    (c.self.invariant.rising c.args.ticket.queue))
