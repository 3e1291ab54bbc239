use Rattle.vscsi_c.proofs.live_exports.vscsi_raw_live_load_failed.Goals as goal

pub returns : goal.returns
returns c = record { answer = c.load_failed.result; is = c.code.ensures; so = c.load_failed.ensures }
