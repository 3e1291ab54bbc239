use Rattle.vscsi_c.proofs.exports.vscsi_raw_disk_destroy.Goals as goal

pub returns : goal.returns
returns c = record { answer = c.destroy_disk.result; is = c.code.ensures; so = c.destroy_disk.ensures }
