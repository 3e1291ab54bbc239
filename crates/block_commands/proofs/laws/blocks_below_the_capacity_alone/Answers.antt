use Rattle.std.proofs.Common.{ap}
use Rattle.command_model.specs.PlainReply.{replied, sent_in}
use Rattle.command_model.specs.Attention.{met}
use Rattle.command_model.specs.Replies.{format_told, permitted, reported}
use Rattle.block_commands.proofs.Ranges.{answer_of-agree}
use Rattle.block_commands.proofs.laws.blocks_below_the_capacity_alone.Goals as goal

pub returns-clause-reply : goal.returns-clause-reply
returns-clause-reply c = λ facts command bytes p q agree.
    ap (λ a. sent_in (format_told facts) (reported (met command facts.pending) (replied command (permitted facts command a)))) (answer_of-agree facts command bytes p q agree)
