use Rattle.std.proofs.Common.{sym, subst}
use Rattle.device_model.specs.Standing.{FunctionIsThere}
use Rattle.device_model.proofs.Staying.{run_keeps, units_listed}
use Rattle.device_model.proofs.Functions.{FindsUnits, new_finds, transition_finds}
use Rattle.device_model.proofs.Looks.{LooksFree, new_looks, transition_looks, checks_next}
use Rattle.device_model.proofs.laws.queries_are_checked_at_once.Goals as goal

pub returns : goal.returns
returns c = λ old trace w r h.
    let finds = run_keeps FindsUnits transition_finds old trace w (new_finds old r.opens) r.runs in
    let there = subst (λ n. FunctionIsThere n w.function) (sym (units_listed old trace w r.opens r.runs)) finds in
    let free = run_keeps LooksFree transition_looks old trace w (new_looks old r.opens) r.runs in
    checks_next w there free h
