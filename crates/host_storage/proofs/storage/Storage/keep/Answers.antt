use Rattle.std.proofs.Common.{◌∙◌, ◌/◌, ◌%◌}
use Rattle.std.proofs.lemmas.Result.{on_ok_weaker}
use Rattle.block_store.specs.Kept.{kept}
use Rattle.block_store.specs.Inner.Padding.{length-blocks_in}
use Rattle.host_storage.specs.Inner.Storage.{given_blocks, kept_blocks}
use Rattle.host_storage.proofs.Pages.{put-run}
use Rattle.host_storage.proofs.storage.Storage.keep.Goals as goal

pub returns-clause-kept : goal.returns-clause-kept
returns-clause-kept c =
    let old = c.args.self.now in
    let bytes = c.as_slice.ensures.value ∙ c.in_ok-bytes.ensures.bytes in
    on_ok_weaker c.write_blocks.result
    (λ put b. put b ∙ put-run (kept_blocks old) (given_blocks old) c.args.page c.as_slice.result.now (λ i. length-blocks_in (kept old.given.pages (i / 8)) (i % 8)) bytes b)
    c.write_blocks.ensures.ok
