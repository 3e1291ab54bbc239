use Rattle.std.proofs.Common.{◌≡◌, true, false, length, sym, ◌∙◌, arith}
use Rattle.std.proofs.lemmas.Bool.Decides.{nat_tests}
use Rattle.block_commands.proofs.Unmapping.{second, descriptors-none, unmap_answer-too_much}
use Rattle.block_commands.proofs.readiness.to_unmap.Goals as goal

pub returns-then-is_empty-clause-room : goal.returns-then-is_empty-clause-room
returns-then-is_empty-clause-room g c = λ is b yes.
    let test = sym c.is_empty.ensures ∙ c.if-is_empty.true in
    let none : length c.args.list.now ≡ 0 = grind (arith, nat_tests) in
    let never : false ≡ true = second _ _ (rw (descriptors-none c.args.list.now none) at yes) in
    cc

pub returns-then-is_empty-clause-near : goal.returns-then-is_empty-clause-near
returns-then-is_empty-clause-near g c = λ is b yes.
    let test = sym c.is_empty.ensures ∙ c.if-is_empty.true in
    let none : length c.args.list.now ≡ 0 = grind (arith, nat_tests) in
    let never : false ≡ true = second _ _ (rw (descriptors-none c.args.list.now none) at yes) in
    cc

pub returns-then-is_empty-clause-near_asked : goal.returns-then-is_empty-clause-near_asked
returns-then-is_empty-clause-near_asked g c = λ is b yes.
    let test = sym c.is_empty.ensures ∙ c.if-is_empty.true in
    let none : length c.args.list.now ≡ 0 = grind (arith, nat_tests) in
    let never : false ≡ true = second _ _ (rw (descriptors-none c.args.list.now none) at yes) in
    cc

pub returns-then-is_too_much-clause-room : goal.returns-then-is_too_much-clause-room
returns-then-is_too_much-clause-room g c = λ is b yes.
    let refused = unmap_answer-too_much (g.S.Store.size c.args.store.now) c.taken_descriptors-count.result c.args.list.now _ c.if-list-lt-UNMAP_HEADER_BYTES.false c.taken_descriptors-count.ensures.count
    c.split_at.ensures.back (sym c.is_too_much.ensures ∙ c.if-is_too_much.true) in
    let never : false ≡ true = rw refused at yes in
    cc

pub returns-then-is_too_much-clause-near : goal.returns-then-is_too_much-clause-near
returns-then-is_too_much-clause-near g c = λ is b yes.
    let refused = unmap_answer-too_much (g.S.Store.size c.args.store.now) c.taken_descriptors-count.result c.args.list.now _ c.if-list-lt-UNMAP_HEADER_BYTES.false c.taken_descriptors-count.ensures.count
    c.split_at.ensures.back (sym c.is_too_much.ensures ∙ c.if-is_too_much.true) in
    let never : false ≡ true = rw refused at yes in
    cc

pub returns-then-is_too_much-clause-near_asked : goal.returns-then-is_too_much-clause-near_asked
returns-then-is_too_much-clause-near_asked g c = λ is b yes.
    let refused = unmap_answer-too_much (g.S.Store.size c.args.store.now) c.taken_descriptors-count.result c.args.list.now _ c.if-list-lt-UNMAP_HEADER_BYTES.false c.taken_descriptors-count.ensures.count
    c.split_at.ensures.back (sym c.is_too_much.ensures ∙ c.if-is_too_much.true) in
    let never : false ≡ true = rw refused at yes in
    cc
