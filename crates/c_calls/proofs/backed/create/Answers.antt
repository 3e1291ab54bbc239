use Rattle.std.proofs.Common.{Some, [], refl, sym, ap, ◌∙◌, subst, arith}
use Rattle.block_store.specs.Pages.{blocks_in}
use Rattle.c_calls.specs.Disks.{IsBackedOver}
use Rattle.c_calls.proofs.Serve.{created_backed}
use Rattle.c_calls.proofs.backed.create.Goals as goal

pub returns-in-Ok : goal.returns-in-Ok
returns-in-Ok g c =
    created_backed g.content c.args.blocks c.args.most_pages _ _ c.in-Ok.store.value (sym c.is_there.ensures ∙ c.if-is_there.false)
    (sym c.is_capacity.ensures ∙ c.if-not-is_capacity.false)
    (omega (arith, c.if-most_pages-lt-LEAST_PAGES.false))
    (subst (λ s. IsBackedOver g.content c.args.blocks c.args.most_pages s) (sym c.in-Ok.ensures.ok)
    (record {
      size = c.new-backed.ensures.capacity;
      contents = λ b. c.new-backed.ensures.blocks b ∙ ap (λ bytes. blocks_in bytes b) c.any.ensures;
      absent = c.new-backed.ensures.absent;
      storage = ap (λ l. Some l) (c.new-backed.ensures.ledger ∙ ap (λ bytes. record { content = bytes; dealings = [] }) c.any.ensures);
      budget = ap (λ n. Some n) c.new-backed.ensures.budget;
    })) c.put.ensures
