use Rattle.vscsi_c.proofs.exports.vscsi_raw_peek.Goals as goal

pub returns : goal.returns
returns c = record { answer = c.peek.result; is = c.code.ensures; so = c.peek.ensures }
