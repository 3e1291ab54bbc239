use Rattle.vscsi_c.proofs.live_exports.vscsi_raw_live_status.Goals as goal

pub returns : goal.returns
returns c = record { answer = c.status.result; is = c.code.ensures; so = c.status.ensures }
