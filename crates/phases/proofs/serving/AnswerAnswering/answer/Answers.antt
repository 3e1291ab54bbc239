use Rattle.std.proofs.Common.{refl}
use Rattle.logical_unit.specs.Endings.{ending_of_run, plain_run}
use Rattle.phases.proofs.AtOnce.{writes_whole, stores_whole}
use Rattle.phases.proofs.serving.AnswerAnswering.answer.Goals as goal

pub returns : goal.returns
returns g c =
    let e = ending_of_run (plain_run c.args.ran.now) in (
      refl,
      c.write_run-self.ensures.size,
      writes_whole c.args.arrival.now e c.lengths.result c.chain.result.now (g.M.Memory.may_be c.args.self.now.memory.now)
          (g.M.Memory.may_be c.write_run-self.new.memory) c.write_run-self.result c.lengths.ensures.readable
          c.lengths.ensures.writable c.chain.ensures c.write_run-self.ensures.written c.write_run-self.ensures.memory,
      stores_whole g.M.Memory.storing (g.M.Memory.stored c.args.self.now.memory.now)
          (g.M.Memory.stored c.write_run-self.new.memory) c.args.arrival.now e c.lengths.result c.chain.result.now
          c.lengths.ensures.readable c.lengths.ensures.writable c.chain.ensures c.write_run-self.ensures.stores,
    )
