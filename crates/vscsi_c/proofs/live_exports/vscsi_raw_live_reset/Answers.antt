use Rattle.vscsi_c.proofs.live_exports.vscsi_raw_live_reset.Goals as goal

pub returns : goal.returns
returns c = record { answer = c.reset.result; is = c.code.ensures; so = c.reset.ensures }
