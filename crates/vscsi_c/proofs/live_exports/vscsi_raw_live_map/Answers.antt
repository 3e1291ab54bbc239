use Rattle.vscsi_c.proofs.live_exports.vscsi_raw_live_map.Goals as goal

pub returns : goal.returns
returns c = record { answer = c.map.result; is = c.code.ensures; so = c.map.ensures }
