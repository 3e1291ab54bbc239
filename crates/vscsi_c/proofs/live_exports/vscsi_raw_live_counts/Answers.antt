use Rattle.vscsi_c.proofs.live_exports.vscsi_raw_live_counts.Goals as goal

pub returns : goal.returns
returns c = record { answer = c.counts.result; is = c.code.ensures; so = c.counts.ensures }
