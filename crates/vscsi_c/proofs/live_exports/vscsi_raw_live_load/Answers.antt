use Rattle.vscsi_c.proofs.live_exports.vscsi_raw_live_load.Goals as goal

pub returns : goal.returns
returns c = record { answer = c.load.result; is = c.code.ensures; so = c.load.ensures }
