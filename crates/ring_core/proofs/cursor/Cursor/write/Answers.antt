use Rattle.std.proofs.Common.{◌≡◌, ◌≤◌, ◌∙◌, ℕ, [], sym, ap, length, drop, List, rules, tests}
use Rattle.std.proofs.lemmas.List.{take_all}
use Rattle.guest_mem.specs.Stores.{Store}
use Rattle.ring_core.specs.Writes.{Write, all_written, scatter_writes, stores_of}
use Rattle.ring_core.proofs.Scattering.{scatter_nothing}
use Rattle.ring_core.proofs.InStores.{stores_none}
use Rattle.ring_core.proofs.Placed.{from_there}
use Rattle.ring_core.proofs.cursor.Cursor.write.Goals as goal

pub returns-clause-memory : goal.returns-clause-memory
returns-clause-memory g c = λ m s.
    let d = c.loop-parts.invariant.done m s in
    let parts = c.self.inside.parts.now in
    let left = drop c.loop-parts.index parts in
    let skip = c.loop-parts.skip in
    let few : length c.loop-parts.rest.now ≤ 0 = search (rules, tests) in
    let none : c.loop-parts.rest.now ≡ [] = sym (take_all 0 c.loop-parts.rest.now few) in
    let whole = from_there parts c.args.self.now.parts c.self.inside.index c.self.inside.skip c.args.self.now.at c.args.bytes.now (search rules) (search rules) in (
      d.0,
      d.1,
      sym (ap (λ (bs : List ℕ). all_written m (scatter_writes left skip bs)) none ∙ scatter_nothing m left skip) ∙ d.2
          ∙ ap (all_written d.0) whole,
    )

pub returns-clause-stores : goal.returns-clause-stores
returns-clause-stores g c =
    let parts = c.self.inside.parts.now in
    let left = drop c.loop-parts.index parts in
    let skip = c.loop-parts.skip in
    let after = g.M.Memory.stored c.loop-parts.memory in
    let few : length c.loop-parts.rest.now ≤ 0 = search (rules, tests) in
    let none : c.loop-parts.rest.now ≡ [] = sym (take_all 0 c.loop-parts.rest.now few) in
    let whole = from_there parts c.args.self.now.parts c.self.inside.index c.self.inside.skip c.args.self.now.at c.args.bytes.now (search rules) (search rules) in
    sym (ap (λ (bs : List ℕ). g.M.Memory.storing after (stores_of (scatter_writes left skip bs))) none
    ∙ ap (λ (ss : List Store). g.M.Memory.storing after ss) (stores_none left skip) ∙ g.met.M.Memory.none after)
    ∙ c.loop-parts.invariant.stores
    ∙ ap (λ (ws : List Write). g.M.Memory.storing (g.M.Memory.stored c.args.memory.now) (stores_of ws)) whole
