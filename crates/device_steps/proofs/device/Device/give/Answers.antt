use Rattle.std.proofs.Common.{◌≡◌, Some, sym, subst, ◌∙◌}
use Rattle.std.specs.Prelude.{slice_get}
use Rattle.std.proofs.lemmas.Option.{slice_get_read}
use Rattle.device_steps.specs.contracts.device.Device as seen
use Rattle.device_steps.proofs.Dealing.{given, given_none, refused}
use Rattle.device_steps.proofs.device.Device.give.Goals as goal

pub returns-clause-given : goal.returns-clause-given
returns-clause-given c =
    let d = c.self.inside in
    let u = c.index_mut.result.now in
    let at : slice_get d.units.items c.args.unit_index ≡ Some u =
    slice_get_read d.units.items c.len.result c.args.unit_index u (c.len.ensures ∙ d.units.ok.0) c.if-at-len.false
    c.index_mut.ensures.value in
    rw (← c.self.view_is)
    (given (seen.the_view d) c.args.unit_index u c.give.new.self at c.give.result c.give.ensures.may c.give.ensures.given)

pub returns-clause-none : goal.returns-clause-none
returns-clause-none c =
    let d = c.self.inside in
    let u = c.index_mut.result.now in
    let at : slice_get d.units.items c.args.unit_index ≡ Some u =
    slice_get_read d.units.items c.len.result c.args.unit_index u (c.len.ensures ∙ d.units.ok.0) c.if-at-len.false
    c.index_mut.ensures.value in
    rw (← c.self.view_is) (given_none (seen.the_view d) c.args.unit_index u c.give.new.self at c.give.result c.give.ensures.none)

pub returns-clause-err : goal.returns-clause-err
returns-clause-err c =
    let d = c.self.inside in
    let u = c.index_mut.result.now in
    let at : slice_get d.units.items c.args.unit_index ≡ Some u =
    slice_get_read d.units.items c.len.result c.args.unit_index u (c.len.ensures ∙ d.units.ok.0) c.if-at-len.false
    c.index_mut.ensures.value in
    rw (← c.self.view_is) (refused (seen.the_view d) c.args.unit_index u c.give.new.self at c.give.result c.give.ensures.err)
