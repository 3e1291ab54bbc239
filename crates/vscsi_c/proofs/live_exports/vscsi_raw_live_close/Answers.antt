use Rattle.vscsi_c.proofs.live_exports.vscsi_raw_live_close.Goals as goal

pub returns : goal.returns
returns c = record { answer = c.close.result; is = c.code.ensures; so = c.close.ensures }
