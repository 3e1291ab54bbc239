use Rattle.std.proofs.Common.{arith, ◌^◌, ◌+◌}
use Rattle.script_syntax.proofs.Digits.{not_number, on_err}
use Rattle.script_syntax.proofs.values.capacity.Goals as goal

pub returns-in_err-blocks-clause-refused : goal.returns-in_err-blocks-clause-refused
returns-in_err-blocks-clause-refused c =
    on_err c.from_residual.result (λ blocks is. not_number 64 (2 ^ 40 + 1) c.args.word.now (omega arith) c.in_err-blocks.ensures.refused blocks is.number)
