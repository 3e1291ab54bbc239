use Rattle.std.proofs.Common.{◌<◌, length, Some, refl, ◌∙◌, ap, arith}
use Rattle.std.proofs.lemmas.Option.{slice_get_read}
use Rattle.stored_world.proofs.stored.StoredWorld.storage.Goals as goal

pub returns-in-Some : goal.returns-in-Some
returns-in-Some c =
    let items = c.args.self.now.disks.items in
    let within : c.args.unit_index < length items = omega (arith, c.if-unit_index-len.false, c.len.ensures) in
    let there = slice_get_read items (length items) c.args.unit_index c.index.result.now refl within c.index.ensures ∙ ap Some c.in-Some.is in
    record { dealt = λ u at l has. (c.args.self.now.hosted c.args.unit_index u c.in-Some.disk at there).storage l has }
