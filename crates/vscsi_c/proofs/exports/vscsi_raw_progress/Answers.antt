use Rattle.vscsi_c.proofs.exports.vscsi_raw_progress.Goals as goal

pub returns : goal.returns
returns c = record { answer = c.progress.result; is = c.code.ensures; so = c.progress.ensures }
