use Rattle.std.proofs.Common.{◌≡◌, Some, sym, subst, ◌∙◌}
use Rattle.std.specs.Prelude.{slice_get}
use Rattle.std.proofs.lemmas.Option.{slice_get_read}
use Rattle.device_steps.specs.contracts.device.Device as seen
use Rattle.block_store.specs.Storage.{Dealing}
use Rattle.device_steps.proofs.Dealing.{kept, kept_not, refused}
use Rattle.device_steps.proofs.device.Device.denied.Goals as goal

pub returns-clause-denied : goal.returns-clause-denied
returns-clause-denied c =
    let d = c.self.inside in
    let u = c.index_mut.result.now in
    let at : slice_get d.units.items c.args.unit_index ≡ Some u =
    slice_get_read d.units.items c.len.result c.args.unit_index u (c.len.ensures ∙ d.units.ok.0) c.if-at-len.false
    c.index_mut.ensures.value in
    rw (← c.self.view_is)
    (kept (seen.the_view d) c.args.unit_index u c.denied.new.self at (Dealing.Deny c.args.page) c.denied.result c.denied.ensures.may
    c.denied.ensures.denied)

pub returns-clause-otherwise : goal.returns-clause-otherwise
returns-clause-otherwise c =
    let d = c.self.inside in
    let u = c.index_mut.result.now in
    let at : slice_get d.units.items c.args.unit_index ≡ Some u =
    slice_get_read d.units.items c.len.result c.args.unit_index u (c.len.ensures ∙ d.units.ok.0) c.if-at-len.false
    c.index_mut.ensures.value in
    rw (← c.self.view_is) (kept_not (seen.the_view d) c.args.unit_index u c.denied.new.self at c.denied.result c.denied.ensures.otherwise)

pub returns-clause-err : goal.returns-clause-err
returns-clause-err c =
    let d = c.self.inside in
    let u = c.index_mut.result.now in
    let at : slice_get d.units.items c.args.unit_index ≡ Some u =
    slice_get_read d.units.items c.len.result c.args.unit_index u (c.len.ensures ∙ d.units.ok.0) c.if-at-len.false
    c.index_mut.ensures.value in
    rw (← c.self.view_is) (refused (seen.the_view d) c.args.unit_index u c.denied.new.self at c.denied.result c.denied.ensures.err)
