use Rattle.vscsi_c.proofs.live_exports.vscsi_raw_live_changed.Goals as goal

pub returns : goal.returns
returns c = record { answer = c.changed.result; is = c.code.ensures; so = c.changed.ensures }
