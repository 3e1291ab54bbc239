use Rattle.std.proofs.Common.{◌≡◌, All, sym, subst, ap, ◌∙◌}
use Rattle.block_store.specs.Storage.{Storage}
use Rattle.backed_store.specs.Disks.{AreKept}
use Rattle.backed_store.specs.declared.disk.Disk.{Disk}
use Rattle.backed_store.specs.Stores.{contents}
use Rattle.backed_store.proofs.Dealt.{by-ledger}
use Rattle.backed_store.proofs.disk.Disk.are_kept.Goals as goal

pub returns-in-Backed-clause-kept : goal.returns-in-Backed-clause-kept
returns-in-Backed-clause-kept c = λ is.
    let same = by-ledger c.in-Backed.disk.store in
    subst (λ (d : Disk). AreKept d c.args.first c.args.count) (sym c.in-Backed.is)
    (λ b within. (
      ap (λ (s : Storage). s.kept b) (sym same) ∙ c.are_kept.ensures.kept is b within,
      subst (λ (s : Storage). All (λ x. x ≡ contents c.in-Backed.disk.store b) (s.unkept b)) same (c.are_kept.ensures.unkept is b within),
    ))
