use Rattle.vscsi_c.proofs.live_exports.vscsi_raw_live_capacity.Goals as goal

pub returns : goal.returns
returns c = record { answer = c.capacity.result; is = c.code.ensures; so = c.capacity.ensures }
