use Rattle.std.proofs.Common.{◌≡◌, ◌≢◌, ◌==◌, ◌||◌, ℕ, Bool, true, false, List, [], ◌∷◌, ◌++◌, nat_eq, refl, ap, ◌∙◌, arith}
use Rattle.std.specs.List.{list_any}
use Rattle.std.proofs.lemmas.Bool.Decides.{nat_tests}
use Rattle.std.proofs.lemmas.List.Folds.{list_any-append}
use Rattle.backed_store.specs.Noted.{noted}
use Rattle.backed_store.proofs.noted_pages.NotedPages.note.Goals as goal

-- one more page behind the others makes no difference to a page that it isn't
added : (p page : ℕ) (xs : List ℕ) → p ≢ page → list_any (nat_eq p) (xs ++ page ∷ []) ≡ list_any (nat_eq p) xs
added p page xs apart =
    let other : nat_eq p page ≡ false = grind (arith, nat_tests, apart) in
    list_any-append (nat_eq p) xs (page ∷ []) ∙ rw other (none (list_any (nat_eq p) xs))
  where
    none : (t : Bool) → (t || false) ≡ t
    none true = refl
    none false = refl

pub returns-in-Ok-clause-kept : goal.returns-in-Ok-clause-kept
returns-in-Ok-clause-kept c = λ few p apart.
    let page = c.args.page in
    let len = c.forget.ensures.len in
    let same = c.make_room.ensures.kept (omega (arith, few, len)) in
    let other : (p == page) ≡ false = grind (arith, nat_tests, apart) in
    ap (λ l. list_any (nat_eq p) l) c.in-Ok.ensures.items
    ∙ added p page (noted c.make_room.new.self) apart
    ∙ ap (λ l. list_any (nat_eq p) l) same
    ∙ c.forget.ensures.each p
    ∙ rw other refl
