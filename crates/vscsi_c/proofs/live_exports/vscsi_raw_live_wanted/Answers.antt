use Rattle.vscsi_c.proofs.live_exports.vscsi_raw_live_wanted.Goals as goal

pub returns : goal.returns
returns c = record { answer = c.wanted.result; is = c.code.ensures; so = c.wanted.ensures }
