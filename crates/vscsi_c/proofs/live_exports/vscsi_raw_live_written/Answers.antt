use Rattle.vscsi_c.proofs.live_exports.vscsi_raw_live_written.Goals as goal

pub returns : goal.returns
returns c = record { answer = c.written.result; is = c.code.ensures; so = c.written.ensures }
