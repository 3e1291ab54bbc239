use Rattle.std.proofs.Common.{◌≡◌, ◌∙◌, ◌+◌, ◌++◌, ap, length, arith, List, ℕ}
use Rattle.ring_core.specs.Parts.{PartsFit}
use Rattle.ring_core.specs.Writes.{all_written, scatter_writes}
use Rattle.ring_core.proofs.Scattering.{scatter_in_two_lem}
use Rattle.ring_core.proofs.InStores.{in_stores, in_turn, stores_in_two}
use Rattle.responses.proofs.writing.write_scattered.Goals as goal

pub returns-clause-memory : goal.returns-clause-memory
returns-clause-memory g c = λ m₂ s₂.
    let w₂ = c.scatter.ensures.memory m₂ s₂ in
    let w₁ = c.scatter-first.ensures.memory w₂.0 w₂.1 in
    let m = w₁.0 in
    let parts = c.args.chain.now.parts in
    let head = c.args.head.now in
    let payload = c.args.payload.now in
    let fit : PartsFit (length m) parts = rw (g.met.M.Memory.sized c.args.memory.now m w₁.1, c.requires.fits) c.parts-parts.ensures.fit in
    let first : c.scatter-first.result ≡ 0 + length head = omega (arith, c.scatter-first.ensures.written) in (
      m,
      w₁.1,
      w₂.2
          ∙ ap (λ (k : List ℕ). all_written k (scatter_writes parts c.scatter-first.result payload)) w₁.2
          ∙ ap (λ (n : ℕ). all_written (all_written m (scatter_writes parts 0 head)) (scatter_writes parts n payload)) first
          ∙ scatter_in_two_lem m parts 0 head payload fit,
    )

pub returns-clause-stores : goal.returns-clause-stores
returns-clause-stores g c =
    let parts = c.args.chain.now.parts in
    let head = c.args.head.now in
    let payload = c.args.payload.now in
    let first : c.scatter-first.result ≡ 0 + length head = omega (arith, c.scatter-first.ensures.written) in
    in_turn g.M.Memory.storing g.met.M.Memory.both (g.M.Memory.stored c.args.memory.now) (g.M.Memory.stored c.scatter-first.new.memory) (g.M.Memory.stored c.scatter.new.memory)
    (in_stores parts 0 head) (in_stores parts c.scatter-first.result payload) (in_stores parts 0 (head ++ payload)) c.scatter-first.ensures.stores c.scatter.ensures.stores
    (ap (λ (n : ℕ). in_stores parts 0 head ++ in_stores parts n payload) first ∙ stores_in_two parts 0 head payload)
