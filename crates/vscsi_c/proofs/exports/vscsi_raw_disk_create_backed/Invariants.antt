use Rattle.vscsi_c.proofs.exports.vscsi_raw_disk_create_backed.Given as goal

abbrev pub ghost-create : goal.ghost-create
ghost-create g a = g.content
