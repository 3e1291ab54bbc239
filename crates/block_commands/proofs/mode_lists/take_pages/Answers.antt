use Rattle.std.proofs.Common.{◌<◌, length, sym, ◌∙◌, arith}
use Rattle.std.proofs.lemmas.Bool.Decides.{nat_tests}
use Rattle.block_commands.proofs.ModePages.{pages-refused, pages-later}
use Rattle.block_commands.proofs.mode_lists.take_pages.Goals as goal

pub returns-in-Err : goal.returns-in-Err
returns-in-Err c =
    let test = sym c.is_empty.ensures ∙ c.if-is_empty.false in
    let some : 0 < length c.loop-taken.rest.now = grind (arith, nat_tests) in
    sym c.loop-taken.invariant
    ∙ pages-refused c.args.format c.args.write_cache c.args.most c.loop-taken.taken c.loop-taken.rest.now c.loop-taken-test.true c.in-Err.sense some c.in-Err.ensures

pub loop-taken-preserved : goal.loop-taken-preserved
loop-taken-preserved c =
    let test = sym c.is_empty.ensures ∙ c.if-is_empty.false in
    let some : 0 < length c.loop-taken.rest.now = grind (arith, nat_tests) in
    sym (pages-later c.args.format c.args.write_cache c.args.most c.loop-taken.taken c.loop-taken.rest.now c.loop-taken-test.true c.in-Ok.later.now some c.in-Ok.ensures)
    ∙ c.loop-taken.invariant
