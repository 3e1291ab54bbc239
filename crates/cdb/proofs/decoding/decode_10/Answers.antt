use Rattle.std.proofs.Common.{refl}
use Rattle.cdb.proofs.Rows.{by_row}
use Rattle.cdb.proofs.decoding.decode_10.Goals as goal
use Rattle.cdb.proofs.decoding.decode_10.Goals.{in-37, in-40, in-42, in-53, in-65, in-66}

pub returns-clause-meaning : goal.returns-clause-meaning
returns-clause-meaning c =
    elim c.match-cdb-offset0.branch [
      | in-37 w ↦ by_row _ _ 37 _ c.match-cdb-offset0.fields _ w.in-37.is refl refl refl (cc) c.under_control.ensures.meaning
      | in-40 w ↦ by_row _ _ 40 _ c.match-cdb-offset0.fields _ w.in-40.is refl refl refl (cc) c.under_control.ensures.meaning
      | in-42 w ↦ by_row _ _ 42 _ c.match-cdb-offset0.fields _ w.in-42.is refl refl refl (cc) c.under_control.ensures.meaning
      | in-53 w ↦ by_row _ _ 53 _ c.match-cdb-offset0.fields _ w.in-53.is refl refl refl (cc) c.under_control.ensures.meaning
      | in-65 w ↦ by_row _ _ 65 _ c.match-cdb-offset0.fields _ w.in-65.is refl refl refl (cc) c.under_control.ensures.meaning
      | in-66 w ↦ by_row _ _ 66 _ c.match-cdb-offset0.fields _ w.in-66.is refl refl refl (cc) c.under_control.ensures.meaning
    ]
