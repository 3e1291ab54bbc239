use Rattle.vscsi_c.proofs.live_exports.vscsi_raw_live_create_with.Goals as goal

pub returns : goal.returns
returns c = record { answer = c.create_with.result; is = c.code.ensures; so = c.create_with.ensures }
