use Rattle.block_commands.proofs.Passing.{Gives-no_data}
use Rattle.block_commands.proofs.wide.wide.Goals as goal

pub returns-in-Verify-clause-answer : goal.returns-in-Verify-clause-answer
returns-in-Verify-clause-answer g c =
    rw c.in-Verify.is (Gives-no_data (λ v. v.items) _ _ _ c.verify.ensures.answer c.without_data.ensures)

pub returns-in-FormatUnit-clause-answer : goal.returns-in-FormatUnit-clause-answer
returns-in-FormatUnit-clause-answer g c =
    rw c.in-FormatUnit.is (Gives-no_data (λ v. v.items) _ _ _ c.format_unit.ensures.answer c.without_data-in-FormatUnit.ensures)

pub returns-in-OrWrite-clause-answer : goal.returns-in-OrWrite-clause-answer
returns-in-OrWrite-clause-answer g c =
    rw c.in-OrWrite.is (Gives-no_data (λ v. v.items) _ _ _ c.or_write.ensures.answer c.without_data-in-OrWrite.ensures)
