use Rattle.std.proofs.Common.{sym, ap, ◌∙◌}
use Rattle.std.specs.Prelude.{Some}
use Rattle.c_calls.proofs.LiveServe.{serving}
use Rattle.c_calls.proofs.storage_calls.denied.Goals as goal

pub returns : goal.returns
returns c =
    serving _ _ _ _ _ c.deref_mut.result.now c.denied-answer.new.self
    (c.in-Some.ensures.taken ∙ ap (λ d. Some d) (sym c.deref_mut.ensures.value))
    c.put.ensures
    c.denied-answer.ensures
