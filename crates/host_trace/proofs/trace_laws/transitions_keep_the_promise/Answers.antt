use Rattle.host_trace.proofs.Instance.{promise_of}
use Rattle.host_trace.proofs.trace_laws.transitions_keep_the_promise.Goals as goal

pub returns : goal.returns
returns c = λ old ds opens h. promise_of c.the_promise_is_kept.ensures old ds opens h
