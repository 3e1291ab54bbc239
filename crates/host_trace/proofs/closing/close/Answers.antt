use Rattle.std.proofs.Common.{Option, Some, None}
use Rattle.std.specs.Prelude.{IfSome}
use Rattle.shared_trace.specs.Halves.{wholes, part_of}
use Rattle.shared_trace.specs.Inner.Logs.{Closes}
use Rattle.host_trace.specs.Trace.{MayShare, IsOneTrace}
use Rattle.host_trace.proofs.Instance.{is_one_trace}
use Rattle.host_trace.proofs.closing.close.Goals as goal

through : {X : Type 0} (P Q : X → Type 0) → ((x : X) → P x → Q x) → (o : Option X) → IfSome o P → IfSome o Q
through P Q f None h = h
through P Q f (Some x) h = f x h

pub returns : goal.returns
returns g c =
    let s = g.S.Setup in
    let marks = c.args.marks.now in
    through (λ log. Closes s.parts part_of (MayShare s.number s.world) marks log)
    (λ log. IsOneTrace s.number s.world marks (wholes log))
    (λ log closed. is_one_trace s.number s.parts s.world marks log
    (c.a_log_of_shares_is_a_trace.ensures s.number s.apart s.world log closed.lawful)
    (λ opens. c.transitions_keep_the_promise.ensures s.world (wholes log) opens
    (c.a_log_of_shares_is_a_trace.ensures s.number s.apart s.world log closed.lawful).leads)
    closed c.requires.settled)
    c.close.result c.close.ensures
