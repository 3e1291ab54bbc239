use Rattle.std.proofs.Common.{refl}
use Rattle.cdb.proofs.Rows.{by_row, by_each}
use Rattle.cdb.specs.Inner.Decoding.{same_rows, service_actions}
use Rattle.cdb.proofs.decoding.decode_16.Goals as goal
use Rattle.cdb.proofs.decoding.decode_16.Goals.{in-136, in-138, in-137, in-145, in-147, in-158}

pub returns-clause-meaning : goal.returns-clause-meaning
returns-clause-meaning c =
    elim c.match-cdb-offset0.branch [
      | in-136 w ↦ by_row _ _ 136 _ c.match-cdb-offset0.fields _ w.in-136.is refl refl refl (cc) c.under_control.ensures.meaning
      | in-138 w ↦ by_row _ _ 138 _ c.match-cdb-offset0.fields _ w.in-138.is refl refl refl (cc) c.under_control.ensures.meaning
      | in-137 w ↦ by_row _ _ 137 _ c.match-cdb-offset0.fields _ w.in-137.is refl refl refl (cc) c.under_control.ensures.meaning
      | in-145 w ↦ by_row _ _ 145 _ c.match-cdb-offset0.fields _ w.in-145.is refl refl refl (cc) c.under_control.ensures.meaning
      | in-147 w ↦ by_each _ _ 147 same_rows c.match-cdb-offset0.fields _ w.in-147.is refl refl refl (cc) c.under_control.ensures.meaning
      | in-158 w ↦ by_each _ _ 158 service_actions c.match-cdb-offset0.fields _ w.in-158.is refl refl refl (cc) c.under_control.ensures.meaning
    ]
