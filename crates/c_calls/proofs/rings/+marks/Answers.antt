use Rattle.c_calls.proofs.Marked.{marked}
use Rattle.c_calls.proofs.rings.+marks.Goals as goal

pub returns-clause-marks : goal.returns-clause-marks
returns-clause-marks t c =
    marked c.args.regions.now c.args.packed c.args.layouts.now _ c.is_mapped-mapped.result c.marks.result c.in-len1-up.len_at_least
    c.is_mapped-mapped.ensures c.marks.ensures.marks
