use Rattle.std.proofs.Common.{rules, tests, arith, ◌≡◌, true, false, inl, sym, ◌∙◌}
use Rattle.std.specs.Char.{is_ascii_digit}
use Rattle.std.specs.Str.{all_ascii_digits}
use Rattle.std.proofs.lemmas.Bool.Decides.{nat_tests}
use Rattle.std.proofs.lemmas.Iterator.Adapters.{YieldsList-from_bytes}
use Rattle.std.proofs.lemmas.Iterator.Search.{all_from_yields_List}
use Rattle.script_syntax.proofs.Digits.{all_digits}
use Rattle.script_syntax.proofs.values.number.Goals as goal

pub returns-in-Ok-clause-taken : goal.returns-in-Ok-clause-taken
returns-in-Ok-clause-taken g c =
    let tested = all_from_yields_List is_ascii_digit _ _ c.all.result c.all.ensures.ran (YieldsList-from_bytes c.args.word.now cc) (λ x b q k. search (rules, tests)) in
    let all : c.all.result ≡ all_ascii_digits c.args.word.now = tested ∙ all_digits c.args.word.now in
    let passed : c.all.result ≡ true = grind (arith, nat_tests) in
    ((sym all ∙ passed), c.in-Ok.ensures.value)

pub returns-then-not-all-clause-refused : goal.returns-then-not-all-clause-refused
returns-then-not-all-clause-refused g c =
    let tested = all_from_yields_List is_ascii_digit _ _ c.all.result c.all.ensures.ran (YieldsList-from_bytes c.args.word.now cc) (λ x b q k. search (rules, tests)) in
    let all : c.all.result ≡ all_ascii_digits c.args.word.now = tested ∙ all_digits c.args.word.now in
    let failed : c.all.result ≡ false = grind (arith, nat_tests) in
    inl (sym all ∙ failed)
