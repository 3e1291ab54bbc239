use Rattle.vscsi_c.proofs.live_exports.vscsi_raw_live_create.Goals as goal

pub returns : goal.returns
returns c = record { answer = c.create.result; is = c.code.ensures; so = c.create.ensures }
