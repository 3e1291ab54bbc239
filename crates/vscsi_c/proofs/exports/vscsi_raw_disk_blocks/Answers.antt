use Rattle.vscsi_c.proofs.exports.vscsi_raw_disk_blocks.Goals as goal

pub returns : goal.returns
returns c = record { answer = c.disk_blocks.result; is = c.code.ensures; so = c.disk_blocks.ensures }
