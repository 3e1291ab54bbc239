use Rattle.vscsi_c.proofs.exports.vscsi_raw_poke.Goals as goal

pub returns : goal.returns
returns c = record { answer = c.poke.result; is = c.code.ensures; so = c.poke.ensures }
