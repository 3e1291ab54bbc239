use Rattle.std.proofs.Common.{rules, arith}
use Rattle.script_syntax.proofs.Digits.{is_number, not_number, on_err}
use Rattle.script_syntax.proofs.values.unit.Goals as goal

pub returns-in_err-target-clause-refused : goal.returns-in_err-target-clause-refused
returns-in_err-target-clause-refused c =
    on_err c.from_residual.result (λ unit is. not_number 8 256 c.args.target.now (omega arith) c.in_err-target.ensures.refused unit.target is.target_number)

pub returns-in_err-lun-clause-refused : goal.returns-in_err-lun-clause-refused
returns-in_err-lun-clause-refused c =
    on_err c.from_residual-in_err-lun.result (λ unit is. not_number 16 16384 c.args.lun.now (omega arith) c.in_err-lun.ensures.refused unit.lun is.lun_number)

pub returns-clause-taken : goal.returns-clause-taken
returns-clause-taken c =
    record {
      target_number = is_number 8 256 c.args.target.now _ c.in_ok-target.ensures.taken (search rules);
      lun_number = is_number 16 16384 c.args.lun.now _ c.in_ok-lun.ensures.taken (omega arith);
    }
