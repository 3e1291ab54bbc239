use Rattle.std.proofs.Common.{◌≡◌, Some, sym, subst, ◌∙◌}
use Rattle.std.specs.Prelude.{slice_get}
use Rattle.std.proofs.lemmas.Option.{slice_get_read}
use Rattle.device_steps.specs.contracts.device.Device as seen
use Rattle.block_store.specs.Storage.{Dealing}
use Rattle.device_steps.proofs.Dealing.{dealt, still}
use Rattle.device_steps.proofs.device.Device.lost.Goals as goal

pub returns-clause-lost : goal.returns-clause-lost
returns-clause-lost c =
    let d = c.self.inside in
    let u = c.index_mut.result.now in
    let at : slice_get d.units.items c.args.unit_index ≡ Some u =
    slice_get_read d.units.items c.len.result c.args.unit_index u (c.len.ensures ∙ d.units.ok.0) c.if-at-len.false
    c.index_mut.ensures.value in
    rw (← c.self.view_is)
    (λ yes. dealt (seen.the_view d) c.args.unit_index u c.lost.new.self at (Dealing.Lose c.args.page) (c.lost.ensures.may yes)
    (c.lost.ensures.lost yes))

pub returns-clause-otherwise : goal.returns-clause-otherwise
returns-clause-otherwise c =
    let d = c.self.inside in
    let u = c.index_mut.result.now in
    let at : slice_get d.units.items c.args.unit_index ≡ Some u =
    slice_get_read d.units.items c.len.result c.args.unit_index u (c.len.ensures ∙ d.units.ok.0) c.if-at-len.false
    c.index_mut.ensures.value in
    rw (← c.self.view_is) (λ no. still (seen.the_view d) c.args.unit_index u c.lost.new.self at (c.lost.ensures.otherwise no))
