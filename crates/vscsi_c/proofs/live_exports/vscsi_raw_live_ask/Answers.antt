use Rattle.vscsi_c.proofs.live_exports.vscsi_raw_live_ask.Goals as goal

pub returns : goal.returns
returns c = record { answer = c.ask.result; is = c.code.ensures; so = c.ask.ensures }
