use Rattle.std.proofs.Common.{◌<◌, length, Some, refl, sym, subst, arith}
use Rattle.std.proofs.lemmas.List.{length-map}
use Rattle.std.proofs.lemmas.Option.{slice_get_read, slice_get_within}
use Rattle.device_steps.specs.Off.{KeptOff, jobs_of}
use Rattle.device_steps.specs.Inner.Off.{IsNearest}
use Rattle.device_steps.proofs.Off.{taken_at}
use Rattle.device_steps.proofs.handed_off.HandedOff.take.Goals as goal

pub returns : goal.returns
returns c =
    let items = c.self.inside.lists.items in
    let h = subst (λ (v : KeptOff). IsNearest c.args.own v.lists (Some c.in-Some.from)) (sym c.self.view_is)
    (rw c.in-Some.is at c.nearest.ensures) in
    let within : c.in-Some.from < length items =
    omega (arith, slice_get_within _ c.in-Some.from _ h.0.there, length-map items jobs_of) in
    rw (← c.self.view_is)
    (taken_at c.args.own c.in-Some.from c.self.inside.limit items c.index_mut.result.now c.next.new.self c.next.result h
    (slice_get_read items (length items) c.in-Some.from c.index_mut.result.now refl within c.index_mut.ensures.value)
    c.next.ensures.first c.next.ensures.rest)
