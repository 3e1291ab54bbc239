use Rattle.std.proofs.Common.{refl}
use Rattle.cdb.proofs.Rows.{by_row, by_each}
use Rattle.cdb.specs.Profile.{inquiry_row, sense_row}
use Rattle.cdb.proofs.decoding.decode_6.Goals as goal
use Rattle.cdb.proofs.decoding.decode_6.Goals.{in-0, in-3, in-8, in-10, in-18}

pub returns-clause-meaning : goal.returns-clause-meaning
returns-clause-meaning c =
    elim c.match-cdb-offset0.branch [
      | in-0 w ↦ by_row _ _ 0 _ c.match-cdb-offset0.fields _ w.in-0.is refl refl refl (cc) c.under_control.ensures.meaning
      | in-3 w ↦ by_each _ _ 3 sense_row c.match-cdb-offset0.fields _ w.in-3.is refl refl refl (cc) c.under_control.ensures.meaning
      | in-8 w ↦ by_row _ _ 8 _ c.match-cdb-offset0.fields _ w.in-8.is refl refl refl (cc) c.under_control.ensures.meaning
      | in-10 w ↦ by_row _ _ 10 _ c.match-cdb-offset0.fields _ w.in-10.is refl refl refl (cc) c.under_control.ensures.meaning
      | in-18 w ↦ by_each _ _ 18 inquiry_row c.match-cdb-offset0.fields _ w.in-18.is refl refl refl (cc) c.under_control.ensures.meaning
    ]
