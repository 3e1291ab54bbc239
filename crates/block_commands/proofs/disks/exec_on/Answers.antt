use Rattle.block_commands.proofs.disks.exec_on.Goals as goal

pub returns-in-Whole-clause-reply : goal.returns-in-Whole-clause-reply
returns-in-Whole-clause-reply c = rw c.in-Whole.is c.exec.ensures.reply

pub returns-in-Backed-clause-reply : goal.returns-in-Backed-clause-reply
returns-in-Backed-clause-reply c = rw c.in-Backed.is c.exec-in-Backed.ensures.reply
