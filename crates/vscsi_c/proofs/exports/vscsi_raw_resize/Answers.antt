use Rattle.vscsi_c.proofs.exports.vscsi_raw_resize.Goals as goal

pub returns : goal.returns
returns c = record { answer = c.resize.result; is = c.code.ensures; so = c.resize.ensures }
