use Rattle.std.proofs.Common.{◌≡◌, ◌+◌, ◌-◌, ◌*◌, ◌≤◌, length, true, sym, ap, ◌∙◌, arith, Some, None, Err}
use Rattle.std.proofs.lemmas.Bool.Decides.{nat_tests}
use Rattle.sense.specs.Conditions.{miscompare}
use Rattle.block_store.specs.Blocks.{run}
use Rattle.command_model.specs.Capacity.{is_in_range}
use Rattle.command_model.specs.Comparing.{first_unequal, to_verify}
use Rattle.block_commands.proofs.Comparisons.{shifted, shifted-shifted, run_unequal-behind, run_unequal-before}
use Rattle.block_commands.proofs.verify.verify.Goals as goal

pub returns-in-Some-clause-answer : goal.returns-in-Some-clause-answer
returns-in-Some-clause-answer g c =
    let i = c.loop-index.index in
    let blocks = g.S.Store.block_at c.args.store.now in
    let expected = to_verify c.args.sent c.args.bytes.now in
    let inside : is_in_range (g.S.Store.size c.args.store.now) c.args.lba c.args.blocks ≡ true =
    rw (c.capacity.ensures, c.from.ensures) at (sym c.is_in_range.ensures ∙ c.if-not-is_in_range.false) in
    let le : c.args.lba + c.args.blocks ≤ g.S.Store.size c.args.store.now = grind (arith, nat_tests) in
    let left : length (expected i) ≡ 512 = ap length (sym c.expected_at-expected.ensures.bytes) ∙ c.expected_at-expected.ensures.len in
    let right : length (blocks (c.args.lba + i)) ≡ 512 = g.met.S.Store.whole c.args.store.now (c.args.lba + i) (omega arith) in
    let some : first_unequal (expected i) (blocks (c.args.lba + i)) ≡ Some c.in-Some.offset = cc (c.in-Some.ensures.offset, c.expected_at-expected.ensures.bytes) in
    let found : first_unequal (run expected 0 c.args.blocks) (run blocks c.args.lba c.args.blocks) ≡ Some (512 * i + c.in-Some.offset) =
    c.loop-index.invariant.equal
    ∙ ap (shifted (512 * i)) (run_unequal-before expected blocks c.args.lba i c.args.blocks c.loop-index-test.true left right c.in-Some.offset some) in
    let told : miscompare (512 * i + c.in-Some.offset) ≡ c.miscompare.result =
    ap (λ k. miscompare (512 * k + c.in-Some.offset)) (sym c.from-in-Some.ensures) ∙ sym c.miscompare.ensures in
    rw (inside, found) (ap (λ s. Err s) told)

pub loop-index-preserved : goal.loop-index-preserved
loop-index-preserved g c =
    let i = c.loop-index.index in
    let blocks = g.S.Store.block_at c.args.store.now in
    let expected = to_verify c.args.sent c.args.bytes.now in
    let inside : is_in_range (g.S.Store.size c.args.store.now) c.args.lba c.args.blocks ≡ true =
    rw (c.capacity.ensures, c.from.ensures) at (sym c.is_in_range.ensures ∙ c.if-not-is_in_range.false) in
    let le : c.args.lba + c.args.blocks ≤ g.S.Store.size c.args.store.now = grind (arith, nat_tests) in
    let left : length (expected i) ≡ 512 = ap length (sym c.expected_at-expected.ensures.bytes) ∙ c.expected_at-expected.ensures.len in
    let right : length (blocks (c.args.lba + i)) ≡ 512 = g.met.S.Store.whole c.args.store.now (c.args.lba + i) (omega arith) in
    let none : first_unequal (expected i) (blocks (c.args.lba + i)) ≡ None = cc (c.in_default.ensures.offset, c.expected_at-expected.ensures.bytes) in
    let later = first_unequal (run expected (i + 1) (c.args.blocks - (i + 1))) (run blocks (c.args.lba + (i + 1)) (c.args.blocks - (i + 1))) in
    let more : 512 * i + 512 ≡ 512 * (i + 1) = omega arith in
    record {
      room = c.unequal_at.ensures.room;
      equal = c.loop-index.invariant.equal
          ∙ ap (shifted (512 * i)) (run_unequal-behind expected blocks c.args.lba i c.args.blocks c.loop-index-test.true left right none)
          ∙ shifted-shifted (512 * i) 512 later
          ∙ ap (λ k. shifted k later) more;
    }
