use Rattle.std.proofs.Common.{◌≡◌, All, ap, sym, subst, ◌∙◌}
use Rattle.block_store.specs.Storage.{Storage}
use Rattle.backed_store.specs.Stores.{contents}
use Rattle.backed_store.proofs.Dealt.{by-ledger}
use Rattle.backed_store.proofs.disk.Disk.begin_flush.Goals as goal

pub returns-in-Backed-clause-begun : goal.returns-in-Backed-clause-begun
returns-in-Backed-clause-begun c = λ b.
    let same = by-ledger c.begin_flush.new.self.store in (
      λ is. (
        ap (λ (s : Storage). s.kept b) (sym same) ∙ c.begin_flush.ensures.kept b is,
        subst (λ (s : Storage). All (λ x. x ≡ contents c.begin_flush.new.self.store b) (s.unkept b)) same (c.begin_flush.ensures.unkept b is),
      ),
      λ is. ap (λ (s : Storage). s.given b) (sym same) ∙ c.begin_flush.ensures.given b is,
    )
