use Rattle.vscsi_c.proofs.live_exports.vscsi_raw_live_wake.Goals as goal

pub returns : goal.returns
returns c = record { answer = c.wake.result; is = c.code.ensures; so = c.wake.ensures }
