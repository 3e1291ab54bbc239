use Rattle.std.proofs.Common.{arith, ◌^◌}
use Rattle.script_syntax.proofs.Digits.{not_number, on_err}
use Rattle.script_syntax.proofs.values.ordinal.Goals as goal

pub returns-in_err-number-clause-refused : goal.returns-in_err-number-clause-refused
returns-in_err-number-clause-refused c =
    on_err c.from_residual.result (λ number is. not_number 64 (2 ^ 64) c.args.word.now (omega arith) c.in_err-number.ensures.refused number is.digits)
