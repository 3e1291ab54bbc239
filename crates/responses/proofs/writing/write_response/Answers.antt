use Rattle.std.proofs.Common.{rules, ◌≡◌, ◌+◌, ◌∙◌, ◌++◌, ap, length, length-append, arith, List, ℕ, Some}
use Rattle.guest_mem.specs.Memory.{with_bytes}
use Rattle.guest_mem.specs.Stores.{Store}
use Rattle.ring_core.specs.Parts.{PartsFit}
use Rattle.responses.specs.Inner.FirstPart.{first_open}
use Rattle.responses.proofs.FirstPart.{written_whole, stores_whole, first_lies_in}
use Rattle.responses.proofs.writing.write_response.Goals as goal

pub write_whole-requires-clause-inside : goal.write_whole-requires-clause-inside
write_whole-requires-clause-inside g c =
    let parts = c.args.chain.now.parts in
    let fit : PartsFit (g.M.Memory.extent c.args.memory.now) parts = rw c.requires.fits c.parts.ensures.fit in
    let is : first_open parts ≡ Some c.in-Some.part = rw c.parts.ensures.parts at c.in-Some.ensures.0 in
    first_lies_in (g.M.Memory.extent c.args.memory.now) parts c.in-Some.part fit is (omega (arith, c.in-Some.ensures.1))

pub returns-in-Some-clause-memory : goal.returns-in-Some-clause-memory
returns-in-Some-clause-memory g c = λ m₁ s₁.
    let w = c.write_whole.ensures.memory m₁ s₁ in
    let m = w.0 in
    let parts = c.args.chain.now.parts in
    let head = c.args.head.now in
    let payload = c.args.payload.now in
    let part = c.in-Some.part in
    let fit : PartsFit (length m) parts = rw (g.met.M.Memory.sized c.args.memory.now m w.1, c.requires.fits) c.parts.ensures.fit in
    let is : first_open parts ≡ Some part = rw c.parts.ensures.parts at c.in-Some.ensures.0 in
    let long : 108 ≡ length head = search rules in (
      m,
      w.1,
      w.2
          ∙ ap (λ (n : ℕ). with_bytes (with_bytes m part.addr head) (part.addr + n) payload) long
          ∙ written_whole m parts part head payload fit is (omega (arith, c.in-Some.ensures.1, long)),
    )

pub returns-in-Some-clause-stores : goal.returns-in-Some-clause-stores
returns-in-Some-clause-stores g c =
    let parts = c.args.chain.now.parts in
    let head = c.args.head.now in
    let payload = c.args.payload.now in
    let part = c.in-Some.part in
    let is : first_open parts ≡ Some part = rw c.parts.ensures.parts at c.in-Some.ensures.0 in
    let long : 108 ≡ length head = search rules in
    c.write_whole.ensures.stores
    ∙ ap (λ (ss : List Store). g.M.Memory.storing (g.M.Memory.stored c.args.memory.now) ss) (stores_whole parts part (head ++ payload) is (omega (arith, c.in-Some.ensures.1, long, length-append head payload)))
