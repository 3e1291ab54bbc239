use Rattle.std.proofs.Common.{rules, ◌≡◌}
use Rattle.std.specs.List.{after_first, before_first}
use Rattle.script_syntax.specs.Inner.Values.{is_colon}
use Rattle.script_syntax.proofs.Digits.{not_pair}
use Rattle.script_syntax.proofs.values.unit_pair.Goals as goal

pub returns-in-Some-clause-refused : goal.returns-in-Some-clause-refused
returns-in-Some-clause-refused c =
    let before : c.in-Some.target.now ≡ before_first is_colon c.args.word.now = search rules in
    let behind : c.in-Some.lun.now ≡ after_first is_colon c.args.word.now = search rules in
    not_pair c.unit.result c.args.word.now c.in-Some.target.now c.in-Some.lun.now before behind c.unit.ensures.refused
