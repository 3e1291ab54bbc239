use Rattle.std.proofs.Common.{take, rules}
use Rattle.cdb.specs.Need.{need_of}
use Rattle.backed_store.specs.Disks as disks
use Rattle.block_commands.specs.Inner.Told.{facts_of}
use Rattle.logical_unit.specs.Inner.Performing.{performed_of}
use Rattle.logical_unit.proofs.Running.{ran, refused}
use Rattle.logical_unit.proofs.performing.perform.Goals as goal

pub returns-clause-performed : goal.returns-clause-performed
returns-clause-performed c =
    ran c.args.keeps_replies (facts_of c.args.facts.now (disks.size_of c.args.store.now)) c.args.command.now c.args.bytes.now
    (need_of c.args.command.now).out (performed_of (record { reply = c.in_ok-reply-2.reply; kept = c.in_ok-kept.kept }))
    (disks.blocks_of c.args.store.now) (disks.blocks_of c.exec_prepared.new.store)
    c.args.attentions.now c.clear_oldest.new.attentions
    c.requires.data (search rules) (search rules) (search rules) c.clear_oldest.ensures

pub returns-in_err-kept-clause-performed : goal.returns-in_err-kept-clause-performed
returns-in_err-kept-clause-performed c =
    rw c.from_residual-in_err-kept.ensures
    (refused c.args.keeps_replies (facts_of c.args.facts.now (disks.size_of c.args.store.now)) c.args.command.now
    (take (need_of c.args.command.now).out c.args.bytes.now) c.in_ok-reply-2.reply.status (disks.blocks_of c.args.store.now)
    (disks.blocks_of c.exec_prepared.new.store) c.args.attentions.now (search rules) (search rules) (search rules))
