use Rattle.std.proofs.Common.{refl}
use Rattle.cdb.proofs.Rows.{by_row_at}
use Rattle.cdb.proofs.wide_decoding.wide_6.Goals as goal
use Rattle.cdb.proofs.wide_decoding.wide_6.Goals.{in-4, in-21, in-26, in-27, in-29, in-30}

pub returns-clause-meaning : goal.returns-clause-meaning
returns-clause-meaning c =
    elim c.match-cdb-offset0.branch [
      | in-4 w ↦ by_row_at _ _ 4 _ c.match-cdb-offset0.fields _ w.in-4.is refl refl (cc) c.under_control.ensures.meaning
      | in-21 w ↦ by_row_at _ _ 21 _ c.match-cdb-offset0.fields _ w.in-21.is refl refl (cc) c.under_control.ensures.meaning
      | in-26 w ↦ by_row_at _ _ 26 _ c.match-cdb-offset0.fields _ w.in-26.is refl refl (cc) c.under_control.ensures.meaning
      | in-27 w ↦ by_row_at _ _ 27 _ c.match-cdb-offset0.fields _ w.in-27.is refl refl (cc) c.under_control.ensures.meaning
      | in-29 w ↦ by_row_at _ _ 29 _ c.match-cdb-offset0.fields _ w.in-29.is refl refl (cc) c.under_control.ensures.meaning
      | in-30 w ↦ by_row_at _ _ 30 _ c.match-cdb-offset0.fields _ w.in-30.is refl refl (cc) c.under_control.ensures.meaning
    ]
