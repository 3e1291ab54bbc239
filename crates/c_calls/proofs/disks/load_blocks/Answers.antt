use Rattle.std.proofs.Common.{◌≡◌, ◌∙◌, ◌+◌, ◌*◌, ◌≤◌, length, ap, arith}
use Rattle.block_store.specs.Blocks.{Blocks, overwritten}
use Rattle.backed_store.specs.Disks.{size_of}
use Rattle.logical_unit.proofs.Durable.{hosted_ledger}
use Rattle.c_calls.proofs.Serve.{unchanged}
use Rattle.c_calls.proofs.disks.load_blocks.Goals as goal

pub returns-then-not-may_write : goal.returns-then-not-may_write
returns-then-not-may_write c = (
  omega (arith, c.if-bytes-from.false, c.from.ensures),
  c.is_outside.ensures.inside c.if-is_outside.false,
  unchanged c.args.store.now c.may_write.new.store c.may_write.ensures.blocks c.may_write.ensures.size c.may_write.ensures.storage,
)

pub returns-in-Ok : goal.returns-in-Ok
returns-in-Ok c = (
  omega (arith, c.if-bytes-from.false, c.from.ensures),
  c.is_outside.ensures.inside c.if-is_outside.false,
  record {
    size = c.write_blocks.ensures.size ∙ c.may_write.ensures.size;
    blocks = λ b. c.in-Ok.ensures.ok b ∙ ap (λ (f : Blocks). overwritten f c.args.first c.args.bytes.now b) c.may_write.ensures.blocks;
    storage = hosted_ledger c.write_blocks.new.self c.args.store.now (c.write_blocks.ensures.storage ∙ c.may_write.ensures.storage);
  },
)

pub returns-in-Err : goal.returns-in-Err
returns-in-Err c = (
  omega (arith, c.if-bytes-from.false, c.from.ensures),
  c.is_outside.ensures.inside c.if-is_outside.false,
  record {
    size = c.write_blocks.ensures.size ∙ c.may_write.ensures.size;
    blocks = λ b. c.in-Err.ensures.err b ∙ ap (λ (f : Blocks). f b) c.may_write.ensures.blocks;
    storage = hosted_ledger c.write_blocks.new.self c.args.store.now (c.write_blocks.ensures.storage ∙ c.may_write.ensures.storage);
  },
)
