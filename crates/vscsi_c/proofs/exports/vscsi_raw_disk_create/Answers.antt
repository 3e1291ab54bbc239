use Rattle.vscsi_c.proofs.exports.vscsi_raw_disk_create.Goals as goal

pub returns : goal.returns
returns c = record { answer = c.create_disk.result; is = c.code.ensures; so = c.create_disk.ensures }
