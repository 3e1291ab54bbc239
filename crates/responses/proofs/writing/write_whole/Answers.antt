use Rattle.std.proofs.Common.{rules, ◌≡◌, ◌∙◌, ◌+◌, ◌++◌, ap, sym, length, ℕ}
use Rattle.guest_mem.specs.Stores.{stores_at}
use Rattle.ring_core.proofs.InStores.{in_turn, stores_behind}
use Rattle.responses.proofs.writing.write_whole.Goals as goal

pub returns-clause-stores : goal.returns-clause-stores
returns-clause-stores g c =
    let addr = c.args.part.now.addr in
    let head = c.args.head.now in
    let payload = c.args.payload.now in
    let long : 108 ≡ length head = search rules in
    let found : g.M.Memory.Stores = g.M.Memory.stored c.args.memory.now in
    let first : g.M.Memory.stored c.write.new.self ≡ g.M.Memory.storing found (stores_at addr head) = search rules in
    let then : g.M.Memory.stored c.write-2.new.self ≡ g.M.Memory.storing (g.M.Memory.stored c.write.new.self) (stores_at (addr + 108) payload) = search rules in
    in_turn g.M.Memory.storing g.met.M.Memory.both found (g.M.Memory.stored c.write.new.self) (g.M.Memory.stored c.write-2.new.self)
    (stores_at addr head) (stores_at (addr + 108) payload) (stores_at addr (head ++ payload)) first then
    (ap (λ (n : ℕ). stores_at addr head ++ stores_at (addr + n) payload) long ∙ sym (stores_behind addr head payload))
