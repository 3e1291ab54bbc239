use Rattle.vscsi_c.proofs.live_exports.vscsi_raw_live_denied.Goals as goal

pub returns : goal.returns
returns c = record { answer = c.denied.result; is = c.code.ensures; so = c.denied.ensures }
