use Rattle.std.proofs.Common.{◌≡◌, IsTrue, length, refl, sym, ◌∙◌, arith}
use Rattle.std.proofs.lemmas.Bool.Decides.{nat_tests}
use Rattle.command_model.specs.UnmapList.{descriptors, is_named}
use Rattle.block_commands.specs.Inner.Ready.{is_near_any}
use Rattle.block_commands.proofs.Unmapping.{descriptors-none, unmap_answer-too_much, unmap_answer-outside, unmap_answer-done}
use Rattle.block_commands.proofs.unmap.unmap.Goals as goal

pub returns-then-is_empty-clause-ok : goal.returns-then-is_empty-clause-ok
returns-then-is_empty-clause-ok g c = λ b.
    let test = sym c.is_empty.ensures ∙ c.if-is_empty.true in
    let none : length c.args.list.now ≡ 0 = grind (arith, nat_tests) in
    rw (descriptors-none c.args.list.now none) refl

pub returns-then-is_too_much-clause-answer : goal.returns-then-is_too_much-clause-answer
returns-then-is_too_much-clause-answer g c =
    unmap_answer-too_much (g.S.Store.size c.args.store.now) c.taken_descriptors-count.result c.args.list.now _ c.if-list-lt-UNMAP_HEADER_BYTES.false c.taken_descriptors-count.ensures.count
    c.split_at.ensures.back (sym c.is_too_much.ensures ∙ c.if-is_too_much.true)

pub returns-then-not-are_in_range-clause-answer : goal.returns-then-not-are_in_range-clause-answer
returns-then-not-are_in_range-clause-answer g c =
    unmap_answer-outside (g.S.Store.size c.args.store.now) c.taken_descriptors-count.result c.args.list.now _ c.if-list-lt-UNMAP_HEADER_BYTES.false c.taken_descriptors-count.ensures.count
    c.split_at.ensures.back (sym c.is_too_much.ensures ∙ c.if-is_too_much.false) (rw c.capacity.ensures at (sym c.are_in_range.ensures ∙ c.if-not-are_in_range.true))

pub zero_extents-requires-clause-room : goal.zero_extents-requires-clause-room
zero_extents-requires-clause-room g c = λ b named.
    let done = unmap_answer-done (g.S.Store.size c.args.store.now) c.taken_descriptors-count.result c.args.list.now _ c.if-list-lt-UNMAP_HEADER_BYTES.false c.taken_descriptors-count.ensures.count
    c.split_at.ensures.back (sym c.is_too_much.ensures ∙ c.if-is_too_much.false) (rw c.capacity.ensures at (sym c.are_in_range.ensures ∙ c.if-not-are_in_range.false)) in
    let is : IsTrue (is_named (descriptors c.args.list.now) b) = rw (c.taken_descriptors-count.ensures.count, c.split_at.ensures.back) at named in
    c.requires.room b (rw (done, is) refl)

pub zero_extents-requires-clause-near : goal.zero_extents-requires-clause-near
zero_extents-requires-clause-near g c = λ b near.
    let done = unmap_answer-done (g.S.Store.size c.args.store.now) c.taken_descriptors-count.result c.args.list.now _ c.if-list-lt-UNMAP_HEADER_BYTES.false c.taken_descriptors-count.ensures.count
    c.split_at.ensures.back (sym c.is_too_much.ensures ∙ c.if-is_too_much.false) (rw c.capacity.ensures at (sym c.are_in_range.ensures ∙ c.if-not-are_in_range.false)) in
    let is : IsTrue (is_near_any (descriptors c.args.list.now) b) = rw (c.taken_descriptors-count.ensures.count, c.split_at.ensures.back) at near in
    c.requires.near b (rw (done, is) refl)

pub returns-clause-answer : goal.returns-clause-answer
returns-clause-answer g c =
    unmap_answer-done (g.S.Store.size c.args.store.now) c.taken_descriptors-count.result c.args.list.now _ c.if-list-lt-UNMAP_HEADER_BYTES.false c.taken_descriptors-count.ensures.count
    c.split_at.ensures.back (sym c.is_too_much.ensures ∙ c.if-is_too_much.false) (rw c.capacity.ensures at (sym c.are_in_range.ensures ∙ c.if-not-are_in_range.false))
