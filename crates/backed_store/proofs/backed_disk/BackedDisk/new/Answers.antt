use Rattle.backed_store.proofs.Progressing.{begins-fenced, idle-at-opening, unkept-at-opening}
use Rattle.backed_store.proofs.backed_disk.BackedDisk.new.Goals as goal

pub invariant_of-result : goal.invariant_of-result
invariant_of-result c =
    record {
      fenced =
          rw (c.and-began.ensures, c.new.ensures)
          (begins-fenced _ _ (λ b clean idle. idle-at-opening c.new-store.result c.args.content.items c.new-store.ensures.ledger b)
          (λ b clean. unkept-at-opening c.new-store.result c.args.content.items c.new-store.ensures.ledger b));
    }
