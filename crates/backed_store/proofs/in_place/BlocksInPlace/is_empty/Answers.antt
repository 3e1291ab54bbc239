use Rattle.std.proofs.Common.{◌≡◌, ◌*◌, length, sym, ap, ◌∙◌, arith}
use Rattle.std.proofs.lemmas.Grind.{common_steps}
use Rattle.std.proofs.lemmas.Bool.Decides.{nat_tests}
use Rattle.backed_store.proofs.Lengths.{length-some}
use Rattle.backed_store.proofs.in_place.BlocksInPlace.is_empty.Goals as goal

pub returns : goal.returns
returns c =
    let s = c.self.inside in
    let size : length c.args.self.now ≡ 512 * s.count = ap length (sym c.self.view_is) ∙ length-some s.disk.now s.first s.count in
    grind (arith, common_steps, nat_tests)
