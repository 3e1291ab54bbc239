use Rattle.std.proofs.Common.{◌≡◌, ◌<◌, length, refl, sym, ap, ◌∙◌, arith}
use Rattle.std.proofs.lemmas.List.{length-map}
use Rattle.std.proofs.lemmas.Option.{slice_get_read}
use Rattle.unit_model.specs.Jobs.{Jobs}
use Rattle.device_model.proofs.Lists.{same}
use Rattle.device_steps.specs.Off.{KeptOff, jobs_of}
use Rattle.device_steps.proofs.Off.{put_at}
use Rattle.device_steps.proofs.handed_off.HandedOff.put.Goals as goal

pub returns-clause-put : goal.returns-clause-put
returns-clause-put c =
    let items = c.self.inside.lists.items in
    let k = c.args.at in
    let s = c.index_mut.result.now in
    let many : length c.args.self.now.lists ≡ length items =
    ap (λ (h : KeptOff). length h.lists) (sym c.self.view_is) ∙ length-map items jobs_of in
    let within : k < length items = omega (arith, many, c.requires) in
    let at = slice_get_read items (length items) k s refl within c.index_mut.ensures.value in
    let before = slice_get_read items (length items) k c.index.result.now refl within c.index.ensures in
    let one : length s.jobs ≡ length c.index.result.now.jobs = ap (λ (z : Jobs). length z.jobs) (same (sym at ∙ before)) in
    rw (← c.self.view_is)
    (put_at k c.self.inside.limit items s c.push.new.self c.args.job at
    (omega (arith, one, c.len.ensures, c.if-len-self.false)) c.push.ensures)
