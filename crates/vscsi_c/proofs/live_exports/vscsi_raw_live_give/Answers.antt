use Rattle.vscsi_c.proofs.live_exports.vscsi_raw_live_give.Goals as goal

pub returns : goal.returns
returns c = record { answer = c.give.result; is = c.code.ensures; so = c.give.ensures }
