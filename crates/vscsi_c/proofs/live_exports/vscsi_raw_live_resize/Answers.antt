use Rattle.vscsi_c.proofs.live_exports.vscsi_raw_live_resize.Goals as goal

pub returns : goal.returns
returns c = record { answer = c.resize.result; is = c.code.ensures; so = c.resize.ensures }
