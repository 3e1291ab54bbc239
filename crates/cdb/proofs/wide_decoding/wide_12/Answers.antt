use Rattle.std.proofs.Common.{refl}
use Rattle.cdb.proofs.Rows.{by_row_at}
use Rattle.cdb.proofs.wide_decoding.wide_12.Goals as goal
use Rattle.cdb.proofs.wide_decoding.wide_12.Goals.{in-163, in-174, in-175, in-183}

pub returns-clause-meaning : goal.returns-clause-meaning
returns-clause-meaning c =
    elim c.match-cdb-offset0.branch [
      | in-163 w ↦ by_row_at _ _ 163 _ c.match-cdb-offset0.fields _ w.in-163.is refl refl (cc) c.under_control.ensures.meaning
      | in-174 w ↦ by_row_at _ _ 174 _ c.match-cdb-offset0.fields _ w.in-174.is refl refl (cc) c.under_control.ensures.meaning
      | in-175 w ↦ by_row_at _ _ 175 _ c.match-cdb-offset0.fields _ w.in-175.is refl refl (cc) c.under_control.ensures.meaning
      | in-183 w ↦ by_row_at _ _ 183 _ c.match-cdb-offset0.fields _ w.in-183.is refl refl (cc) c.under_control.ensures.meaning
    ]
