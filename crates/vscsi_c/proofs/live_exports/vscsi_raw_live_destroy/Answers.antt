use Rattle.vscsi_c.proofs.live_exports.vscsi_raw_live_destroy.Goals as goal

pub returns : goal.returns
returns c = record { answer = c.destroy.result; is = c.code.ensures; so = c.destroy.ensures }
