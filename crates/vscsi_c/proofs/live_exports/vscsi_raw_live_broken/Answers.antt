use Rattle.vscsi_c.proofs.live_exports.vscsi_raw_live_broken.Goals as goal

pub returns : goal.returns
returns c = record { answer = c.broken.result; is = c.code.ensures; so = c.broken.ensures }
