use Rattle.std.proofs.Common.{refl, arith}
use Rattle.unit_log.proofs.Rising.{second_is}
use Rattle.unit_log.proofs.runs.run_of_two.Goals as goal

pub returns : goal.returns
returns c =
    second_is c.args.place c.args.number c.args.run _ c.requires refl refl refl c.in_ok-by_place.ensures c.in_ok-by_number.ensures
    (let some = c.if-by_place-eq0.false in omega (arith, some))
