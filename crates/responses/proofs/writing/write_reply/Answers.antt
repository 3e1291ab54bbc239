use Rattle.std.proofs.Common.{◌∙◌, ◌++◌, ap, List, ℕ}
use Rattle.ring_core.specs.Writes.{all_written, scatter_writes}
use Rattle.responses.proofs.writing.write_reply.Goals as goal

pub returns-clause-memory : goal.returns-clause-memory
returns-clause-memory g c = λ m₁ s₁.
    let w = c.write_response.ensures.memory m₁ s₁ in
    let m = w.0 in
    let parts = c.args.chain.now.parts in
    let head = c.put_response_ok.new.bytes in (
      m,
      w.1,
      w.2
          ∙ ap (λ (p : List ℕ). all_written m (scatter_writes parts 0 (head ++ p))) c.as_slice.ensures.value
          ∙ ap (λ (h : List ℕ). all_written m (scatter_writes parts 0 (h ++ c.args.reply.now.payload.items))) c.put_response_ok.ensures,
    )
