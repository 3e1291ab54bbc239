use Rattle.std.proofs.Common.{sym, subst}
use Rattle.device_model.specs.Standing.{FunctionIsThere}
use Rattle.device_model.proofs.Staying.{run_keeps, units_listed}
use Rattle.device_model.proofs.Functions.{FindsUnits, new_finds, transition_finds}
use Rattle.device_model.proofs.laws.functions_find_their_units.Goals as goal

pub returns : goal.returns
returns c = λ old trace w r.
    let finds = run_keeps FindsUnits transition_finds old trace w (new_finds old r.opens) r.runs in
    subst (λ n. FunctionIsThere n w.function) (sym (units_listed old trace w r.opens r.runs)) finds
