use Rattle.vscsi_c.proofs.live_exports.vscsi_raw_live_serve.Goals as goal

pub returns : goal.returns
returns c = record { answer = c.serve.result; is = c.code.ensures; so = c.serve.ensures }
