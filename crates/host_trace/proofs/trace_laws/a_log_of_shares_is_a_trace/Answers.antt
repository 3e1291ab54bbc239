use Rattle.host_trace.proofs.Instance.{is_trace}
use Rattle.host_trace.proofs.trace_laws.a_log_of_shares_is_a_trace.Goals as goal

pub returns : goal.returns
returns c = λ number apart old log h. is_trace number apart old log h
