use Rattle.vscsi_c.proofs.live_exports.vscsi_raw_live_owed.Goals as goal

pub returns : goal.returns
returns c = record { answer = c.owed.result; is = c.code.ensures; so = c.owed.ensures }
