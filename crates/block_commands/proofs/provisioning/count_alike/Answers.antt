use Rattle.std.proofs.Common.{◌≡◌, ◌+◌, ◌≢◌, sym, ◌∙◌, arith}
use Rattle.command_model.specs.Provisioning.{is_zero}
use Rattle.block_commands.proofs.Zeros.{differ, is_alike-other, alike_is}
use Rattle.block_commands.proofs.provisioning.count_alike.Goals as goal

pub returns-then-is_zero_at-zero : goal.returns-then-is_zero_at-zero
returns-then-is_zero_at-zero g c =
    let i = c.loop-index.index in
    let blocks = g.S.Store.block_at c.args.store.now in
    let found : c.is_zero_at.result ≡ is_zero (blocks (c.args.lba + i)) = rw (c.from.ensures) at c.is_zero_at.ensures.zero in
    let other : c.is_zero_at.result ≢ c.args.zero = differ _ _ c.if-is_zero_at-zero.true in
    let unlike : is_zero (blocks (c.args.lba + i)) ≢ is_zero (blocks c.args.lba) =
    λ same. other (found ∙ same ∙ sym c.requires.first) in
    record {
      count = sym (alike_is blocks c.args.lba c.args.count i (omega (arith, c.loop-index-test.true)) c.loop-index.invariant.alike
          (λ _. is_alike-other blocks c.args.lba (c.args.lba + i) unlike));
    }

pub returns : goal.returns
returns g c =
    let blocks = g.S.Store.block_at c.args.store.now in
    record {
      count = sym (alike_is blocks c.args.lba c.args.count c.args.count (omega arith)
          (λ j less. c.loop-index.invariant.alike j (omega (arith, less, c.loop-index-test.false)))
          (λ less. absurd (omega (arith, less))));
    }
