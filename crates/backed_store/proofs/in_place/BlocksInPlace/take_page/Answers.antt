use Rattle.std.proofs.Common.{◌≡◌, ◌+◌, ◌-◌, ◌++◌, ℕ, List, sym, ap, ◌∙◌, arith}
use Rattle.block_store.specs.Blocks.{run}
use Rattle.block_store.proofs.Runs.{run-add}
use Rattle.backed_store.specs.Disks.{blocks_of}
use Rattle.backed_store.proofs.in_place.BlocksInPlace.take_page.Goals as goal

pub returns-clause-split : goal.returns-clause-split
returns-clause-split c =
    let blocks = blocks_of c.self.inside.disk.now in
    let first = c.self.inside.first in
    let count = c.self.inside.count in
    let some = c.in_page-some.result in
    let whole : count ≡ some + (count - some) = omega (arith, c.in_page-some.ensures.bound) in
    sym c.self.view_is
    ∙ ap (λ (n : ℕ). run blocks first n) whole
    ∙ run-add blocks first some (count - some)
    ∙ ap (λ (l : List ℕ). l ++ run blocks (first + some) (count - some)) (sym c.part-bytes.ensures.bytes)
