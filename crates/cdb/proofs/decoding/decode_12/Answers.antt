use Rattle.std.proofs.Common.{refl}
use Rattle.cdb.proofs.Rows.{by_row}
use Rattle.cdb.proofs.decoding.decode_12.Goals as goal
use Rattle.cdb.proofs.decoding.decode_12.Goals.{in-160, in-168, in-170}

pub returns-clause-meaning : goal.returns-clause-meaning
returns-clause-meaning c =
    elim c.match-cdb-offset0.branch [
      | in-160 w ↦ by_row _ _ 160 _ c.match-cdb-offset0.fields _ w.in-160.is refl refl refl (cc) c.under_control.ensures.meaning
      | in-168 w ↦ by_row _ _ 168 _ c.match-cdb-offset0.fields _ w.in-168.is refl refl refl (cc) c.under_control.ensures.meaning
      | in-170 w ↦ by_row _ _ 170 _ c.match-cdb-offset0.fields _ w.in-170.is refl refl refl (cc) c.under_control.ensures.meaning
    ]
