use denote.Param.{param}
use denote.Param.Send.{IsSend, Quiet-if, sendable}
use denote.Exit.{no, unseen}
use mir.Syntax.{of_param}
use Rattle.std.proofs.Common.{◌≡◌, ◌∙◌, sym, ap, subst}
use Rattle.std.specs.Arc.{arc_value}
use Rattle.handoff.specs.Seats.{Hub}
use Rattle.handoff.specs.Inner.Seats.{AreAllSeats}
use Rattle.worker_steps.proofs.Crossing.{post_sends, shared_sends, shared_syncs}
use Rattle.workers.proofs.Crossing.{tallied_sends, blank_part_sends}
use Rattle.workers.proofs.host.started.Goals as goal

pub hire-requires-clause-all : goal.hire-requires-clause-all
hire-requires-clause-all g c κs within =
    let is : (arc_value c.in_ok-shared.shared).handoff ≡ c.in_ok-handoff.handoff = ap (λ s. s.handoff) c.in_ok-shared.ensures ∙ c.new-2.ensures.handoff in
    subst (λ (h : Hub). AreAllSeats h c.in_ok-handoff.seats.items) (sym is) c.in_ok-handoff.ensures.all

pub hire-requires-send-P : goal.hire-requires-send-P
hire-requires-send-P g c κs = λ within.
    let all = post_sends (param 3 g.row.W) g.W.Ledger in
    record { owned = all.owned; leaving = λ k. Quiet-if (k (of_param 2)) _ unseen (all.leaving no) (λ x w. tt) }

pub hire-requires-send-K : goal.hire-requires-send-K
hire-requires-send-K g c κs = λ within.
    let all = tallied_sends (param 3 g.row.W) g.W.Ledger in
    record { owned = all.owned; leaving = λ k. Quiet-if (k (of_param 3)) _ unseen (all.leaving no) (λ x w. tt) }

pub hire-requires-send-S : goal.hire-requires-send-S
hire-requires-send-S g c κs = λ within.
    let all = blank_part_sends (param 3 g.row.W) g.W.Ledger in
    record { owned = all.owned; leaving = λ k. Quiet-if (k (of_param 4)) _ unseen (all.leaving no) (λ x w. tt) }

pub hire-requires-send-W : goal.hire-requires-send-W
hire-requires-send-W g c κs = λ within.
    let gate : IsSend (param 1 g.row.G) = c.type_bounds.send-G in
    let all = shared_sends (param 1 g.row.G) (param 2 g.row.C) (param 3 g.row.W) g.C.Weighing g.C.Ledger g.W.Ledger gate in
    record { owned = all.owned; leaving = λ k. Quiet-if (k (of_param 1)) _ unseen (all.leaving no) (λ x w. tt) }

pub hire-requires-sync-W : goal.hire-requires-sync-W
hire-requires-sync-W g c κs = λ within. search (sendable, shared_syncs _ (param 2 g.row.C) (param 3 g.row.W) g.C.Weighing g.C.Ledger g.W.Ledger c.type_bounds.sync-G)
