use Rattle.std.proofs.Common.{rules, ◌≡◌, ℕ, ◌+◌, ◌*◌, ◌%◌, length, ◌++◌, refl}
use Rattle.byteorder.specs.Endian.{little_bytes}
use Rattle.guest_mem.specs.Stores.{stores_at}
use Rattle.ring_core.specs.Offer.{used_writes}
use Rattle.ring_core.specs.Split.{used_index_after}
use Rattle.ring_core.specs.Writes.{Write}
use Rattle.ring_core.specs.declared.layout.Form.TheVariants.{Split}
use Rattle.ring_core.proofs.InStores.{two_made}
use Rattle.split_ring.proofs.ring.SplitRingRing.finish.Goals as goal

pub returns-clause-stores : goal.returns-clause-stores
returns-clause-stores g c =
    let s = c.args.self.now in
    let form : s.form ≡ Split = search rules in
    let own : ℕ = used_index_after s (length s.log.used) in
    let element : Write = record { addr = s.layout.device + 4 + 8 * (own % s.layout.size); bytes = little_bytes 4 c.args.chain.id ++ little_bytes 4 c.args.len } in
    let index : Write = record { addr = s.layout.device + 2; bytes = little_bytes 2 ((own + 1) % 65536) } in
    let first : g.M.Memory.stored c.put_element.new.memory ≡ g.M.Memory.storing (g.M.Memory.stored c.args.memory.now) (stores_at element.addr element.bytes) = search rules in
    let then : g.M.Memory.stored c.put_number.new.memory ≡ g.M.Memory.storing (g.M.Memory.stored c.put_element.new.memory) (stores_at index.addr index.bytes) = search rules in
    two_made g.M.Memory.storing g.met.M.Memory.both (g.M.Memory.stored c.args.memory.now) (g.M.Memory.stored c.put_element.new.memory) (g.M.Memory.stored c.put_number.new.memory)
    element index (used_writes s c.args.chain.id c.args.len) first then (rw form refl)
