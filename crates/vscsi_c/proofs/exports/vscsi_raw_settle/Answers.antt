use Rattle.vscsi_c.proofs.exports.vscsi_raw_settle.Goals as goal

pub returns : goal.returns
returns c = record { answer = c.settle.result; is = c.code.ensures; so = c.settle.ensures }
