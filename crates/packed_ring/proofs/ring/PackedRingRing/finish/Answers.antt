use Rattle.std.proofs.Common.{rules, ◌≡◌, ℕ, ◌+◌, ◌*◌, ◌%◌, ◌++◌, refl}
use Rattle.byteorder.specs.Endian.{little_bytes}
use Rattle.guest_mem.specs.Stores.{stores_at}
use Rattle.ring_core.specs.Offer.{used_writes}
use Rattle.ring_core.specs.Packed.{used_place, used_flags, wrap_counter}
use Rattle.ring_core.specs.Writes.{Write}
use Rattle.ring_core.specs.declared.layout.Form.TheVariants.{Packed}
use Rattle.ring_core.proofs.InStores.{one_made}
use Rattle.packed_ring.proofs.Moving.{packed-use}
use Rattle.packed_ring.proofs.ring.PackedRingRing.finish.Goals as goal

pub invariant_of-self : goal.invariant_of-self
invariant_of-self g c =
    rw c.release.ensures.state (packed-use c.self.inside.base c.args.chain c.self.invariant c.log-log.ensures.sound (rw (← c.self.view_is) at c.requires.owned))

pub returns-clause-stores : goal.returns-clause-stores
returns-clause-stores g c =
    let s = c.args.self.now in
    let form : s.form ≡ Packed = search rules in
    let flags : ℕ = used_flags (wrap_counter s.layout.size (used_place s)) c.args.len in
    let descriptor : Write =
    record { addr = s.layout.desc + 16 * (used_place s % s.layout.size) + 8; bytes = little_bytes 4 c.args.len ++ little_bytes 2 c.args.chain.id ++ little_bytes 2 flags } in
    let stored : g.M.Memory.stored c.put_used.new.memory ≡ g.M.Memory.storing (g.M.Memory.stored c.args.memory.now) (stores_at descriptor.addr descriptor.bytes) = search rules in
    one_made g.M.Memory.storing g.met.M.Memory.both (g.M.Memory.stored c.args.memory.now) (g.M.Memory.stored c.put_used.new.memory) descriptor (used_writes s c.args.chain.id c.args.len) stored (rw form refl)
