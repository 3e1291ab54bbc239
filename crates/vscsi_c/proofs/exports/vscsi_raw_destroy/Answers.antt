use Rattle.vscsi_c.proofs.exports.vscsi_raw_destroy.Goals as goal

pub returns : goal.returns
returns c = record { answer = c.destroy.result; is = c.code.ensures; so = c.destroy.ensures }
