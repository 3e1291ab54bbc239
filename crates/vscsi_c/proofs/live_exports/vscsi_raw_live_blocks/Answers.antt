use Rattle.vscsi_c.proofs.live_exports.vscsi_raw_live_blocks.Goals as goal

pub returns : goal.returns
returns c = record { answer = c.blocks-2.result; is = c.code.ensures; so = c.blocks-2.ensures }
