use Rattle.std.proofs.Common.{refl, false}
use Rattle.cdb.specs.Need.{need_of}
use Rattle.command_model.specs.PlainReply.{plain_of}
use Rattle.std.proofs.Common.{None}
use Rattle.backed_store.specs.Disks as disks
use Rattle.block_commands.specs.Inner.Told.{facts_of}
use Rattle.logical_unit.proofs.Running.{ran}
use Rattle.logical_unit.proofs.performing.run_prepared.Goals as goal

pub returns-clause-performed : goal.returns-clause-performed
returns-clause-performed c =
    ran false (facts_of c.args.facts.now (disks.size_of c.args.store.now)) c.args.command.now c.args.bytes.now
    (need_of c.args.command.now).out (record { reply = plain_of c.in_ok-reply.reply; kept = None })
    (disks.blocks_of c.args.store.now) (disks.blocks_of c.exec_prepared.new.store)
    c.args.attentions.now c.clear_oldest.new.attentions
    c.requires.data c.in_ok-reply.ensures.reply refl c.in_ok-reply.ensures.blocks c.clear_oldest.ensures
