use Rattle.vscsi_c.proofs.live_exports.vscsi_raw_live_lost.Goals as goal

pub returns : goal.returns
returns c = record { answer = c.lost.result; is = c.code.ensures; so = c.lost.ensures }
