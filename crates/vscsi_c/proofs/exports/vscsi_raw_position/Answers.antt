use Rattle.vscsi_c.proofs.exports.vscsi_raw_position.Goals as goal

pub returns : goal.returns
returns c = record { answer = c.position.result; is = c.code.ensures; so = c.position.ensures }
