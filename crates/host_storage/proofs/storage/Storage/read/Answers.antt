use Rattle.std.proofs.Common.{◌≡◌, ◌*◌, ◌/◌, ◌%◌}
use Rattle.std.proofs.lemmas.Result.{IfOk-weaker}
use Rattle.block_store.specs.Blocks.{run}
use Rattle.block_store.specs.Kept.{kept}
use Rattle.block_store.specs.Storage.{IsPageOf}
use Rattle.block_store.specs.Inner.Padding.{length-blocks_in}
use Rattle.host_storage.specs.Inner.Storage.{kept_blocks}
use Rattle.host_storage.proofs.Pages.{read-page}
use Rattle.host_storage.proofs.storage.Storage.read.Goals as goal

pub returns-clause-bytes : goal.returns-clause-bytes
returns-clause-bytes c =
    let s = c.args.self.now in
    let page = c.args.page in
    IfOk-weaker c.page_of.result (λ bytes. bytes.items ≡ run (kept_blocks s) (8 * page) 8) (λ bytes. IsPageOf (kept_blocks s) page bytes.items)
    (λ bytes same. read-page (kept_blocks s) page bytes.items (λ i. length-blocks_in (kept s.kept.pages (i / 8)) (i % 8)) same) c.page_of.ensures.bytes
