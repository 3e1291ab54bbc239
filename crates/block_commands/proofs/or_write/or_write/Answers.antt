use Rattle.std.proofs.Common.{◌≡◌, ◌+◌, ◌*◌, ◌≤◌, length, true, refl, sym, ap, ◌∙◌, arith}
use Rattle.std.proofs.lemmas.Bool.Decides.{nat_tests}
use Rattle.block_store.specs.Blocks.{run}
use Rattle.command_model.specs.Capacity.{is_in_range}
use Rattle.command_model.specs.Effects.{or_bytes}
use Rattle.block_commands.proofs.Oring.{overwritten-or}
use Rattle.block_commands.proofs.or_write.or_write.Goals as goal

pub returns-clause-ok : goal.returns-clause-ok
returns-clause-ok g c =
    let blocks = g.S.Store.block_at c.args.store.now in
    let inside : is_in_range (g.S.Store.size c.args.store.now) c.args.lba c.args.blocks ≡ true =
    rw (c.capacity.ensures, c.from.ensures) at (sym c.is_in_range.ensures ∙ c.if-not-is_in_range.false) in
    let le : c.args.lba + c.args.blocks ≤ g.S.Store.size c.args.store.now = grind (arith, nat_tests) in
    let read : c.read_blocks.new.into.items ≡ run blocks c.args.lba c.args.blocks =
    c.read_blocks.ensures.bytes ∙ rw (c.in_ok-held.ensures.items, c.from-2.ensures) refl in
    let is : c.deref.result.now ≡ or_bytes (run blocks c.args.lba c.args.blocks) c.args.bytes.now =
    c.deref.ensures.value ∙ c.or_all.ensures.bytes ∙ ap (λ l. or_bytes l c.args.bytes.now) read in
    let size : length c.deref.result.now ≡ 512 * c.args.blocks =
    omega (arith, ap length c.deref.ensures.value, c.or_all.ensures.len, c.read_blocks.ensures.len, c.in_ok-held.ensures.len, c.from-2.ensures) in
    λ b. c.in_ok-write_blocks.ensures.ok b
    ∙ overwritten-or blocks c.args.lba c.args.blocks (g.S.Store.size c.args.store.now) c.args.bytes.now c.deref.result.now le
    (g.met.S.Store.whole c.args.store.now) size is b
