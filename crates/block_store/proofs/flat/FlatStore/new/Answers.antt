use Rattle.std.proofs.Common.{◌≡◌, ◌*◌, ◌∙◌, ap, replicate, arith}
use Rattle.block_store.specs.Blocks.{nth_block}
use Rattle.block_store.proofs.Written.{nth_block-replicate}
use Rattle.block_store.proofs.flat.FlatStore.new.Goals as goal

pub returns-clause-zeros : goal.returns-clause-zeros
returns-clause-zeros c = λ b below.
    let size : c.in-Ok.size ≡ 512 * c.args.blocks = omega arith in
    let items : c.in_ok-bytes.bytes.items ≡ replicate (512 * c.args.blocks) 0 =
    c.in_ok-bytes.ensures.items_if_clones_equal (λ _ is. is) ∙ ap (λ n. replicate n 0) size in
    ap (λ l. nth_block l b) items ∙ nth_block-replicate c.args.blocks b below
