use Rattle.vscsi_c.proofs.exports.vscsi_raw_disk_create_backed.Goals as goal

pub returns : goal.returns
returns g c = record { answer = c.create.result; is = c.code.ensures; so = c.create.ensures }
