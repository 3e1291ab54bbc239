use Rattle.std.proofs.Common.{rules, tests, arith, ◌≡◌, ◌≤◌, true, refl, sym, ◌∙◌, length}
use Rattle.std.specs.Char.{is_ascii_alphanumeric}
use Rattle.std.specs.List.{list_all}
use Rattle.std.proofs.lemmas.Bool.Decides.{nat_tests}
use Rattle.std.proofs.lemmas.Iterator.Adapters.{YieldsList-from_bytes}
use Rattle.std.proofs.lemmas.Iterator.Search.{all_from_yields_List}
use Rattle.script_syntax.proofs.values.name.Goals as goal

pub returns-then-all-clause-names : goal.returns-then-all-clause-names
returns-then-all-clause-names c =
    let all = all_from_yields_List is_ascii_alphanumeric _ _ c.all.result c.all.ensures.ran (YieldsList-from_bytes c.args.word.now cc) (λ x b q k. search (rules, tests)) in
    let letters : list_all is_ascii_alphanumeric c.args.word.now ≡ true = sym all ∙ c.if-all.true in
    let some : 1 ≤ length c.args.word.now = grind (arith, nat_tests) in
    let few : length c.args.word.now ≤ 16 = grind (arith, nat_tests) in
    ((λ _. record { some = some; few = few; letters = letters }), (λ _. refl))
