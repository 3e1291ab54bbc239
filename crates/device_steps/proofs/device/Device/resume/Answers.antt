use Rattle.std.proofs.Common.{◌≡◌, ℕ, true, false, Some, refl, sym, ap, ◌∙◌, subst}
use Rattle.std.specs.Prelude.{slice_get}
use Rattle.std.proofs.lemmas.Option.{slice_get_read}
use Rattle.device_model.specs.Events.{Event}
use Rattle.device_model.proofs.Lists.{same}
use Rattle.device_steps.specs.Kept.{KeptSeat}
use Rattle.device_steps.specs.Apart.{standing}
use Rattle.device_steps.specs.Aside.{KeptAside}
use Rattle.device_steps.specs.Inner.Kept.{HasLists}
use Rattle.device_steps.specs.contracts.device.Device.{the_view}
use Rattle.device_steps.proofs.Setting.{seat_kept, turns_seen}
use Rattle.device_steps.proofs.Resuming.{resumes, resumes_none}
use Rattle.device_steps.proofs.device.Device.resume.Goals as goal

pub invariant_of-self : goal.invariant_of-self
invariant_of-self c =
    let d = c.self.inside in
    subst (λ (places : ℕ). HasLists d.units.items d.seats.items places d.port.limit)
    (sym (ap (λ (k : KeptAside). k.limit) c.next.ensures.rest)) c.self.invariant

pub invariant_of-self-2 : goal.invariant_of-self-2
invariant_of-self-2 c =
    let d = c.self.inside in
    let kept = d.seats.items in
    let k = c.args.number in
    let s = c.index_mut.result.now in
    let at : slice_get kept k ≡ Some s =
    slice_get_read kept c.len.result k s (c.len.ensures ∙ d.seats.ok.0) c.if-at-len.false c.index_mut.ensures.value in
    let lists : HasLists d.units.items kept c.next.new.self.limit d.port.limit =
    subst (λ (places : ℕ). HasLists d.units.items kept places d.port.limit)
    (sym (ap (λ (j : KeptAside). j.limit) c.next.ensures.rest)) c.self.invariant in
    seat_kept d.units.items kept k s c.hold.new.self lists at (ap (λ (z : KeptSeat). z.limit) c.hold.ensures)

pub returns-in_default : goal.returns-in_default
returns-in_default c shared m sound =
    let d = c.self.inside in
    turns_seen shared m _ _ (Event.Resume c.args.number) false _ c.self.view_is
    (resumes_none (standing shared m (the_view d)) d.seats.items refl c.args.number d.jobs_aside.limit c.next.new.self
    c.next.ensures.rest (sym c.next.ensures.first ∙ c.in_default.is))

pub returns : goal.returns
returns c shared m sound =
    let d = c.self.inside in
    let kept = d.seats.items in
    let k = c.args.number in
    let s = c.index_mut.result.now in
    let at : slice_get kept k ≡ Some s =
    slice_get_read kept c.len.result k s (c.len.ensures ∙ d.seats.ok.0) c.if-at-len.false c.index_mut.ensures.value in
    let before : slice_get kept k ≡ Some c.index.result.now =
    slice_get_read kept c.len.result k c.index.result.now (c.len.ensures ∙ d.seats.ok.0) c.if-at-len.false
    c.index.ensures in
    let one : s ≡ c.index.result.now = same (sym at ∙ before) in
    let free = c.if-not-has_empty_hand.ensures.0 refl in
    turns_seen shared m _ _ (Event.Resume k) true _ c.self.view_is
    (resumes (standing shared m (the_view d)) kept refl k d.jobs_aside.limit c.next.new.self c.next.ensures.rest s
    c.hold.new.self c.in-Some.job at c.if-number-self.false (ap (λ (z : KeptSeat). z.hand) one ∙ free) c.hold.ensures
    (sym c.next.ensures.first ∙ c.in-Some.is))
