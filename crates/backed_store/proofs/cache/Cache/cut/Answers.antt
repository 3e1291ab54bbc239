use Rattle.std.proofs.Common.{◌≡◌, true, ◌+◌, ◌/◌, nat_lt, refl, ◌∙◌, arith}
use Rattle.std.proofs.lemmas.Bool.Decides.{nat_tests}
use Rattle.backed_store.specs.Slots.{slot_at}
use Rattle.backed_store.proofs.CutOff.{left-of}
use Rattle.backed_store.proofs.cache.Cache.cut.Goals as goal

pub returns-clause-blocks : goal.returns-clause-blocks
returns-clause-blocks c = λ b short held.
    let cut = rw c.page_of-page.ensures at c.cut-2.ensures.slots in
    let wipe = rw (c.page_of-page.ensures, c.position_of-position.ensures) at c.wipe.ensures in
    let test : nat_lt (b / 8) (c.args.end / 8 + 1) ≡ true = grind (arith, nat_tests, short) in
    let same : slot_at c.cut-2.new.self (b / 8) ≡ slot_at c.args.self.now.slots (b / 8) = cut (b / 8) ∙ rw test refl in
    left-of c.args.self.now.slots c.cut-2.new.self c.wipe.new.self c.args.end b short same held wipe.here wipe.others
