use Rattle.std.proofs.Common.{◌≡◌, ◌+◌, ◌-◌, ◌*◌, ◌/◌, ◌%◌, if◌then◌else◌, ap, ◌∙◌, refl, arith}
use Rattle.block_store.specs.Blocks.{block_count, nth_block, is_within}
use Rattle.backed_store.specs.Caches.{state_at, bytes_at}
use Rattle.backed_store.specs.Stores.{backing_of}
use Rattle.backed_store.proofs.Parted.{part-stored}
use Rattle.backed_store.proofs.Changed.{changed-host}
use Rattle.backed_store.proofs.backed.BackedStore.put_part.Goals as goal

pub returns-clause-blocks : goal.returns-clause-blocks
returns-clause-blocks c =
    let old = c.args.self.now in
    let bytes = c.args.bytes.now in
    let first = c.args.first in
    let count = block_count bytes in
    let put = rw (c.page_of.ensures, c.position_of.ensures) at c.put.ensures in
    part-stored (state_at old.cache) (state_at c.put.new.self) (bytes_at old.cache) (bytes_at c.put.new.self) (backing_of old) (λ b. nth_block bytes (b - first))
    first count c.requires.range c.requires.some put.states put.others
    (λ k.
    let offset : k - first % 8 ≡ first / 8 * 8 + k - first = omega arith in
    put.here k ∙ ap (λ i. if is_within (first % 8) count k then nth_block bytes i else nth_block (bytes_at old.cache (first / 8)) k) offset)
    c.requires.beside

pub returns-clause-host : goal.returns-clause-host
returns-clause-host c =
    let e = c.put.ensures in
    changed-host c.args.self.now _ _ e.states e.numbers e.again refl refl e.owing
