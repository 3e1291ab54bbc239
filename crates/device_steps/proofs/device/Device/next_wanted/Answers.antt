use Rattle.std.proofs.Common.{◌≡◌, Some, sym, subst, ◌∙◌}
use Rattle.std.specs.Prelude.{slice_get}
use Rattle.std.proofs.lemmas.Option.{slice_get_read}
use Rattle.device_steps.specs.contracts.device.Device as seen
use Rattle.device_steps.proofs.Dealing.{wanted}
use Rattle.device_steps.proofs.device.Device.next_wanted.Goals as goal

pub returns-clause-page : goal.returns-clause-page
returns-clause-page c =
    let d = c.self.inside in
    let u = c.index_mut.result.now in
    let at : slice_get d.units.items c.args.unit_index ≡ Some u =
    slice_get_read d.units.items c.len.result c.args.unit_index u (c.len.ensures ∙ d.units.ok.0) c.if-at-len.false
    c.index_mut.ensures.value in
    rw (← c.self.view_is) (wanted (seen.the_view d) c.args.unit_index u c.next_wanted.new.self at c.next_wanted.result c.next_wanted.ensures.backed
    c.next_wanted.ensures.below)
