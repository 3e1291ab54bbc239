use Rattle.std.proofs.Common.{inl, inr, sym, ap, ◌∙◌, arith}
use Rattle.backed_store.specs.Stores.{is_dirty}
use Rattle.backed_store.proofs.Parted.{within-part}
use Rattle.backed_store.proofs.Fenced.{contents-kept}
use Rattle.backed_store.proofs.backed.BackedStore.are_kept.Goals as goal

pub loop-done-preserved : goal.loop-done-preserved
loop-done-preserved c = record {
  within = omega arith;
  clean = λ b of.
      elim (within-part c.args.first c.loop-done.done c.in_page-done.result b c.in_page-done.ensures.fits of) [
        | inl early ↦ c.loop-done.invariant.clean b early
        | inr now ↦ ap (λ p. is_dirty c.args.self.now p) (now ∙ sym c.page_of.ensures) ∙ sym c.is_changed.ensures ∙ c.if-is_changed.false
      ];
}
