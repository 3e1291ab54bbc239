use Rattle.std.proofs.Common.{◌*◌, ◌+◌, sym, ap, ◌∙◌}
use Rattle.block_store.specs.Storage.{Storage, IsPageOf, storage_by}
use Rattle.backed_store.specs.Stores.{ledger_of}
use Rattle.backed_store.proofs.Dealt.{by-ledger}
use Rattle.backed_store.proofs.disk.Disk.load.Goals as goal

pub load-requires-clause-kept : goal.load-requires-clause-kept
load-requires-clause-kept c =
    let store = c.in-Backed.disk.store in
    let kept : IsPageOf (storage_by (ledger_of store)).kept c.args.page c.args.bytes.now = rw c.in-Backed.is at c.requires.kept in
    λ k below. kept k below ∙ ap (λ (s : Storage). s.kept (8 * c.args.page + k)) (sym (by-ledger store))
