use Rattle.std.proofs.Common.{◌≡◌, refl, subst}
use Rattle.ring_core.specs.Writes.{stores_of}
use Rattle.command_model.specs.PlainReply.{PlainReply}
use Rattle.command_model.specs.Inner.PlainReply.{good_data}
use Rattle.unit_model.specs.Endings.{Ending}
use Rattle.phases.specs.Inner.Outcomes.{WritesWholeIn}
use Rattle.phases.specs.Inner.Stored.{ending_writes}
use Rattle.phases.proofs.AtOnce.{writes_whole, stores_whole, read_as}
use Rattle.phases.proofs.serving.AnswerAnswering.answer_read.Goals as goal

pub returns-clause-written : goal.returns-clause-written
returns-clause-written g c =
    let data_in = c.args.blocks in
    let before = g.M.Memory.may_be c.args.self.now.memory.now in
    let after = g.M.Memory.may_be c.write_read-len.new.memory in
    let earlier = g.M.Memory.stored c.args.self.now.memory.now in
    let later = g.M.Memory.stored c.write_read-len.new.memory in (
      refl,
      c.write_read-len.ensures.size,
      subst (λ (r : PlainReply). WritesWholeIn c.args.arrival.now (Ending.Replied r) before c.write_read-len.result.0 after)
          (read_as c.args.arrival.now.entry.command data_in c.requires.sends)
          (writes_whole c.args.arrival.now (Ending.Replied (good_data data_in)) c.lengths.result c.chain.result.now before after
          c.write_read-len.result.0 c.lengths.ensures.readable c.lengths.ensures.writable c.chain.ensures
          c.write_read-len.ensures.written c.write_read-len.ensures.memory),
      subst (λ (r : PlainReply).
          later ≡ g.M.Memory.storing earlier (stores_of (ending_writes c.args.arrival.now (Ending.Replied r))))
          (read_as c.args.arrival.now.entry.command data_in c.requires.sends)
          (stores_whole g.M.Memory.storing earlier later c.args.arrival.now (Ending.Replied (good_data data_in)) c.lengths.result
          c.chain.result.now c.lengths.ensures.readable c.lengths.ensures.writable c.chain.ensures
          c.write_read-len.ensures.stores),
    )
