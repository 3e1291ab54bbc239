use Rattle.block_commands.proofs.Passing.{Gives-no_data}
use Rattle.block_commands.proofs.execution.run.Goals as goal

pub returns-in-CompareAndWrite-clause-answer : goal.returns-in-CompareAndWrite-clause-answer
returns-in-CompareAndWrite-clause-answer g c =
    rw c.in-CompareAndWrite.is (Gives-no_data (λ v. v.items) _ _ _ c.compare_and_write.ensures.answer c.without_data-in-CompareAndWrite.ensures)
