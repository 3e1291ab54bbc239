use Rattle.vscsi_c.proofs.exports.vscsi_raw_create.Goals as goal

pub returns : goal.returns
returns c = record { answer = c.create.result; is = c.code.ensures; so = c.create.ensures }
