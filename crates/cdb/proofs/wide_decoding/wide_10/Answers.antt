use Rattle.std.proofs.Common.{refl}
use Rattle.cdb.proofs.Rows.{by_row_at}
use Rattle.cdb.proofs.wide_decoding.wide_10.Goals as goal
use Rattle.cdb.proofs.wide_decoding.wide_10.Goals.{in-85, in-46, in-47, in-52, in-90, in-55}

pub returns-clause-meaning : goal.returns-clause-meaning
returns-clause-meaning c =
    elim c.match-cdb-offset0.branch [
      | in-85 w ↦ by_row_at _ _ 85 _ c.match-cdb-offset0.fields _ w.in-85.is refl refl (cc) c.under_control.ensures.meaning
      | in-46 w ↦ by_row_at _ _ 46 _ c.match-cdb-offset0.fields _ w.in-46.is refl refl (cc) c.under_control.ensures.meaning
      | in-47 w ↦ by_row_at _ _ 47 _ c.match-cdb-offset0.fields _ w.in-47.is refl refl (cc) c.under_control.ensures.meaning
      | in-52 w ↦ by_row_at _ _ 52 _ c.match-cdb-offset0.fields _ w.in-52.is refl refl (cc) c.under_control.ensures.meaning
      | in-90 w ↦ by_row_at _ _ 90 _ c.match-cdb-offset0.fields _ w.in-90.is refl refl (cc) c.under_control.ensures.meaning
      | in-55 w ↦ by_row_at _ _ 55 _ c.match-cdb-offset0.fields _ w.in-55.is refl refl (cc) c.under_control.ensures.meaning
    ]
