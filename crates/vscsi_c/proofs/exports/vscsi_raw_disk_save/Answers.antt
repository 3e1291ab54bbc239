use Rattle.vscsi_c.proofs.exports.vscsi_raw_disk_save.Goals as goal

pub returns : goal.returns
returns c = record { answer = c.save.result; is = c.code.ensures; so = c.save.ensures }
