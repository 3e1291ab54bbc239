use Rattle.std.proofs.Common.{◌≡◌, ◌-◌, drop, length, replicate, ap, ◌∙◌}
use Rattle.std.proofs.lemmas.List.{drop-replicate}
use Rattle.scsi_codec.proofs.responses.put_sense.Goals as goal

pub returns : goal.returns
returns c =
    let n = length c.args.sense.now in
    let rest : drop n c.args.area.now ≡ replicate (96 - n) 0 = ap (λ l. drop n l) c.requires.zeros ∙ drop-replicate n 96 0 in
    let copied = c.copy_from_slice.ensures.after in
    cc
