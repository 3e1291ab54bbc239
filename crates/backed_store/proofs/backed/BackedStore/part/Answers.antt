use Rattle.std.proofs.Common.{◌∙◌}
use Rattle.backed_store.specs.Caches.{state_at, bytes_at}
use Rattle.backed_store.specs.Stores.{backing_of}
use Rattle.backed_store.proofs.Parted.{part-run}
use Rattle.backed_store.proofs.backed.BackedStore.part.Goals as goal

pub returns-in-Some-clause-bytes : goal.returns-in-Some-clause-bytes
returns-in-Some-clause-bytes c =
    let s = c.args.self.now in
    c.blocks_at.ensures.bytes
    ∙ part-run (state_at s.cache) (bytes_at s.cache) (backing_of s) c.in-Some.bytes.now c.page_of.result c.position_of.result c.args.first c.args.count
    c.page_of.ensures c.position_of.ensures c.requires.fits c.in-Some.ensures.some c.in-Some.ensures.held
