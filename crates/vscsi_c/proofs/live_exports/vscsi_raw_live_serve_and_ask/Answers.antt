use Rattle.vscsi_c.proofs.live_exports.vscsi_raw_live_serve_and_ask.Goals as goal

pub returns : goal.returns
returns c = record { answer = c.serve_and_ask.result; is = c.code.ensures; so = c.serve_and_ask.ensures }
