use Rattle.device_steps.specs.Apart.{standing}
use Rattle.device_steps.proofs.Pokes.{poke_turns}
use Rattle.device_steps.proofs.steps.poke.Goals as goal

pub returns-clause-turns : goal.returns-clause-turns
returns-clause-turns c shared d =
    poke_turns (standing shared c.args.memory.now d) (record { addr = c.args.addr; bytes = c.args.bytes.now })
    c.write.new.self c.write.result c.is_ok.result c.write.ensures.inside c.write.ensures.bytes
    c.write.ensures.unchanged c.is_ok.ensures.value
