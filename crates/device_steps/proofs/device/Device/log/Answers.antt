use Rattle.std.proofs.Common.{◌≡◌, ◌<◌, ◌≤◌, ℕ, List, length, None, Some, refl, sym, ap, ◌∙◌, subst, arith}
use Rattle.std.specs.Prelude.{slice_get}
use Rattle.std.proofs.lemmas.Option.{slice_get_read, slice_get_past}
use Rattle.std.proofs.lemmas.Bool.Decides.{nat_tests}
use Rattle.ring_core.specs.State.{IsLawful, Log}
use Rattle.device_model.specs.World.{PlainQueue}
use Rattle.device_steps.proofs.device.Device.log.Goals as goal

pub returns-in-Some-clause-lawful : goal.returns-in-Some-clause-lawful
returns-in-Some-clause-lawful c =
    let within : c.args.number < length c.deref.result.now = grind (arith, nat_tests, c.in-Some.ensures.lookup.0) in
    let found : slice_get c.deref.result.now c.args.number ≡ Some c.in-Some.bay.now =
    slice_get_read c.deref.result.now (length c.deref.result.now) c.args.number c.in-Some.bay.now
    refl within c.in-Some.ensures.lookup.1 in
    let there : slice_get c.self.inside.bays.items c.args.number ≡ Some c.in-Some.bay.now =
    ap (λ (qs : List PlainQueue). slice_get qs c.args.number) (sym c.deref.ensures.value) ∙ found in
    let at : slice_get c.args.self.now.queues c.args.number ≡ Some c.in-Some.bay.now =
    rw (← c.self.view_is) there in
    let number : c.in-Some.bay.now.ring.queue ≡ c.args.number =
    (c.requires.numbered c.args.number c.in-Some.bay.now at).queue in
    let here : c.bay.inside.queue.ring.queue ≡ c.args.number =
    ap (λ (q : PlainQueue). q.ring.queue) c.bay.view_is ∙ number in
    subst (λ (log : Log). IsLawful c.args.number log) (sym c.log.ensures.log)
    (subst (λ (i : ℕ). IsLawful i c.bay.inside.queue.ring.log) here c.log.ensures.sound.lawful)

pub returns-in-None-clause-log : goal.returns-in-None-clause-log
returns-in-None-clause-log c =
    let past : length c.deref.result.now ≤ c.args.number = grind (arith, nat_tests, c.in-None.ensures.lookup.0) in
    let none : slice_get c.self.inside.bays.items c.args.number ≡ None =
    ap (λ (qs : List PlainQueue). slice_get qs c.args.number) (sym c.deref.ensures.value)
    ∙ slice_get_past c.deref.result.now c.args.number past in
    rw (← c.self.view_is) (rw none refl)
