use Rattle.std.proofs.Common.{refl}
use Rattle.cdb.proofs.Rows.{by_row_at}
use Rattle.cdb.proofs.wide_decoding.wide_16.Goals as goal
use Rattle.cdb.proofs.wide_decoding.wide_16.Goals.{in-139, in-142, in-143, in-144}

pub returns-clause-meaning : goal.returns-clause-meaning
returns-clause-meaning c =
    elim c.match-cdb-offset0.branch [
      | in-139 w ↦ by_row_at _ _ 139 _ c.match-cdb-offset0.fields _ w.in-139.is refl refl (cc) c.under_control.ensures.meaning
      | in-142 w ↦ by_row_at _ _ 142 _ c.match-cdb-offset0.fields _ w.in-142.is refl refl (cc) c.under_control.ensures.meaning
      | in-143 w ↦ by_row_at _ _ 143 _ c.match-cdb-offset0.fields _ w.in-143.is refl refl (cc) c.under_control.ensures.meaning
      | in-144 w ↦ by_row_at _ _ 144 _ c.match-cdb-offset0.fields _ w.in-144.is refl refl (cc) c.under_control.ensures.meaning
    ]
