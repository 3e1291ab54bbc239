use Rattle.std.proofs.Common.{◌≡◌, ◌∙◌, ◌<◌, length, get_or, nat_lt, ap, sym, arith, ◌||◌}
use Rattle.unit_model.specs.Tasks.{is_blocked, is_ordered}
use Rattle.unit_model.specs.Seen.{freed}
use Rattle.task_set.specs.Tasks.{PlainTask}
use Rattle.task_set.specs.Inner.Tasks.{entries_of, moved, blocked_where}
use Rattle.task_set.proofs.Before.{blocked_at, ordered_more}
use Rattle.task_set.proofs.Lists.{mapped_at, mapped_more, given_out, freed_by, given_by}
use Rattle.task_set.proofs.walks.free_all.Goals as goal

pub loop-i-preserved : goal.loop-i-preserved
loop-i-preserved c =
    let d = c.index-tasks-i.result in
    let i = c.loop-i.i in
    let old = c.args.tasks.now in
    let now = c.loop-i.tasks in
    let alive = entries_of old in
    let x = get_or now i d in
    let lt : i < length old = omega arith in
    let was : x ≡ get_or old i d = mapped_at (moved (freed alive)) old now i d lt c.loop-i.invariant.tasks in
    let attribute : c.attribute-attribute.result ≡ (get_or old i d).seen.entry.attribute = c.attribute-attribute.ensures ∙ ap (λ (w : PlainTask). w.seen.entry.attribute) was in
    let blocked = c.is_blocked-blocked.result in
    let test : blocked ≡ blocked_where (get_or old i d).seen.entry.attribute c.has_head_of_queue-head_of_queue.result c.loop-i.ordered (nat_lt 0 i) =
    c.is_blocked-blocked.ensures ∙ ap (λ a. blocked_where a c.has_head_of_queue-head_of_queue.result c.loop-i.ordered (nat_lt 0 i)) attribute in
    let held : blocked ≡ is_blocked x.seen.entry alive =
    blocked_at old i d c.has_head_of_queue-head_of_queue.result c.loop-i.ordered blocked lt c.requires.distinct c.loop-i.invariant.head_of_queue c.loop-i.invariant.ordered test
    ∙ ap (λ (w : PlainTask). is_blocked w.seen.entry alive) (sym was) in
    record {
      head_of_queue = c.loop-i.invariant.head_of_queue;
      ordered = c.has_ordered-ordered.ensures ∙ ap (λ a. c.loop-i.ordered || is_ordered a) attribute ∙ ordered_more old i d c.loop-i.ordered lt c.loop-i.invariant.ordered;
      tasks = mapped_more (moved (freed alive)) old now i c.enable_unless.new.self d lt c.loop-i.invariant.tasks (freed_by alive x c.enable_unless.new.self blocked held c.enable_unless.ensures.task);
      out = given_out (freed alive) old i d x c.args.out.now c.loop-i.out c.enable_unless.new.out lt was c.loop-i.invariant.out (given_by alive x c.loop-i.out c.enable_unless.new.out blocked held c.enable_unless.ensures.out);
      room = omega arith;
    }
