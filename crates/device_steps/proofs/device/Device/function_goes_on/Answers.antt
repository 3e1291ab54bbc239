use Rattle.std.proofs.Common.{◌<◌, ◌≤◌, sym, ap, ◌∙◌, length, arith}
use Rattle.std.specs.Prelude.{slice_get}
use Rattle.std.proofs.lemmas.Option.{slice_get_read}
use Rattle.device_model.specs.World.{Opened}
use Rattle.device_steps.specs.Apart.{standing}
use Rattle.device_steps.specs.contracts.device.Device.{the_view}
use Rattle.device_steps.proofs.Choosing.{option_none}
use Rattle.device_steps.proofs.Looks.{marks_some, responds, unit_absent, checks}
use Rattle.device_steps.proofs.device.Device.function_goes_on.Goals as goal

pub returns-then-is_some : goal.returns-then-is_some
returns-then-is_some c shared m =
    let first = c.next_unit.ensures ∙ ap (λ (o : Opened). slice_get o.function.left 0) c.open.view_is in
    rw (← c.self.view_is)
    (marks_some (standing shared m (the_view c.self.inside)) c.in-Some.open c.next_unit.result c.in-Some.is first
    (sym c.is_some.ensures ∙ c.if-is_some.true))

pub returns-in_default-waits_for : goal.returns-in_default-waits_for
returns-in_default-waits_for c shared m =
    let first = c.next_unit.ensures ∙ ap (λ (o : Opened). slice_get o.function.left 0) c.open.view_is in
    let left = sym first ∙ option_none c.next_unit.result (sym c.is_some.ensures ∙ c.if-is_some.false) in
    let waits = sym (c.waits_for.ensures ∙ ap (λ (o : Opened). slice_get o.function.waits 0) c.open.view_is)
    ∙ c.in_default-waits_for.is in
    rw (← c.self.view_is) (responds (standing shared m (the_view c.self.inside)) c.in-Some.open c.in-Some.is left waits)

pub returns-then-mark-len : goal.returns-then-mark-len
returns-then-mark-len c shared m =
    let d = c.self.inside in
    let first = c.next_unit.ensures ∙ ap (λ (o : Opened). slice_get o.function.left 0) c.open.view_is in
    let left = sym first ∙ option_none c.next_unit.result (sym c.is_some.ensures ∙ c.if-is_some.false) in
    let waits = sym (c.waits_for.ensures ∙ ap (λ (o : Opened). slice_get o.function.waits 0) c.open.view_is)
    ∙ c.in-Some-waits_for.is in
    let far : length d.units.items ≤ c.in-Some-waits_for.mark.unit =
    omega (arith, c.len.ensures, d.units.ok.0, c.if-mark-len.true) in
    rw (← c.self.view_is)
    (unit_absent (standing shared m (the_view d)) c.in-Some.open c.in-Some-waits_for.mark c.in-Some.is left waits far)

pub returns : goal.returns
returns c shared m =
    let d = c.self.inside in
    let mark = c.in-Some-waits_for.mark in
    let first = c.next_unit.ensures ∙ ap (λ (o : Opened). slice_get o.function.left 0) c.open.view_is in
    let left = sym first ∙ option_none c.next_unit.result (sym c.is_some.ensures ∙ c.if-is_some.false) in
    let waits = sym (c.waits_for.ensures ∙ ap (λ (o : Opened). slice_get o.function.waits 0) c.open.view_is)
    ∙ c.in-Some-waits_for.is in
    let within : mark.unit < d.units.len = omega (arith, c.len.ensures, c.if-mark-len.false) in
    let at = slice_get_read d.units.items d.units.len mark.unit c.index.result.now d.units.ok.0 within c.index.ensures in
    rw (← c.self.view_is)
    (checks (standing shared m (the_view d)) c.in-Some.open mark c.index.result.now c.clear_of.result c.in-Some.is left waits at
    c.clear_of.ensures)
