use Rattle.std.proofs.Common.{refl, arith}
use Rattle.unit_log.proofs.Rising.{next_is}
use Rattle.unit_log.proofs.runs.run_of_more.Goals as goal

pub returns : goal.returns
returns c =
    let a = c.if-place-run.false in
    let b = c.if-number-run.false in
    let p = c.times.ensures in
    let q = c.times-2.ensures in
    let x = c.if-place-run-2.false in
    let y = c.if-number-run-2.false in
    next_is c.args.place c.args.number c.args.run _ c.requires refl refl refl refl refl (omega (arith, a, p, x)) (omega (arith, b, q, y))
