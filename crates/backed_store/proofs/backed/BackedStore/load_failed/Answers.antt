use Rattle.std.proofs.Common.{◌≡◌, ◌*◌, ◌/◌, ◌&&◌, not, Bool, true, Option, Some, sym, ◌∙◌, ap, arith}
use Rattle.backed_store.specs.Marks as marks
use Rattle.backed_store.specs.Marks.{state_of}
use Rattle.backed_store.specs.Caches.{mark_at, state_at}
use Rattle.backed_store.specs.Stores.{holds, is_reading}
use Rattle.backed_store.specs.declared.mark.Mark.{Mark}
use Rattle.backed_store.proofs.backed.BackedStore.load_failed.Goals as goal

pub returns-in-Some-clause-failed : goal.returns-in-Some-clause-failed
returns-in-Some-clause-failed c =
    let s = c.args.self.now in
    let page = c.args.page in
    let number : 8 * page / 8 ≡ page = omega arith in
    let at : mark_at s.cache page ≡ Some c.in-Some.mark = sym c.mark.ensures ∙ c.in-Some.is in
    let reading : is_reading s page ≡ true = ap (λ (m : Option Mark). marks.is_reading m) at ∙ c.if-mark.true in
    let held : holds s (8 * page) ≡ c.in-Some.mark.held =
    ap (λ p. (state_at s.cache p).held) number ∙ ap (λ (m : Option Mark). (state_of m).held) at in
    sym (ap (λ (x : Bool). x && not (holds s (8 * page))) reading ∙ ap (λ (x : Bool). true && not x) held)
