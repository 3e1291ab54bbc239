use Rattle.std.proofs.Common.{◌≡◌, ◌+◌, ◌≤◌, ◌++◌, length, vec_len, vec_capacity, sym, ap, ◌∙◌, append_assoc, arith}
use Rattle.std.proofs.lemmas.Grind.{common_steps}
use Rattle.block_store.specs.Blocks.{run}
use Rattle.block_store.proofs.Runs.{run-add}
use Rattle.backed_store.specs.Stores.{contents}
use Rattle.backed_store.proofs.backed.BackedStore.read.Goals as goal

pub loop-done-preserved : goal.loop-done-preserved
loop-done-preserved c =
    let blocks = contents c.args.self.now in
    let first = c.args.first in
    let done = c.loop-done.done in
    let some = c.in_page-some.result in
    let size = c.part.ensures.len in
    let fits : vec_len c.loop-done.into + length c.part.result.now ≤ vec_capacity c.loop-done.into = omega (arith, size) in
    let grown : c.extend_from_slice.new.self.items ≡ c.loop-done.into.items ++ c.part.result.now = grind (arith, common_steps) in
    let len : vec_len c.extend_from_slice.new.self ≡ vec_len c.loop-done.into + length c.part.result.now = grind (arith, common_steps) in
    record {
      within = omega arith;
      bytes =
          grown
          ∙ ap (λ l. c.loop-done.into.items ++ l) c.part.ensures.bytes
          ∙ ap (λ l. l ++ run blocks (first + done) some) c.loop-done.invariant.bytes
          ∙ append_assoc c.args.into.now.items (run blocks first done) (run blocks (first + done) some)
          ∙ ap (λ l. c.args.into.now.items ++ l) (sym (run-add blocks first done some));
      len = omega (arith, size, len);
      room = omega arith;
    }
