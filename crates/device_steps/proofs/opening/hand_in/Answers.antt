use Rattle.std.proofs.Common.{◌≡◌, ◌<◌, ◌++◌, ◌∷◌, [], length, Some, refl, sym, ap, ◌∙◌, arith, length-append}
use Rattle.std.specs.Prelude.{slice_get, slice_set}
use Rattle.std.specs.Option.{option_to_list}
use Rattle.std.proofs.lemmas.Option.{slice_get_read}
use Rattle.unit_model.specs.Unit.{PlainUnit}
use Rattle.device_steps.specs.Opening.{over_disks}
use Rattle.device_steps.proofs.Making.{over_last, over_none, nothing_in}
use Rattle.device_steps.proofs.Setting.{everywhere_set, set_length}
use Rattle.device_steps.proofs.opening.hand_in.Goals as goal

pub loop-disk-preserved : goal.loop-disk-preserved
loop-disk-preserved c =
    let units = c.loop-disk.units.items in
    let rest = c.pop.new.self.items in
    let gone : c.loop-disk.disks.items ≡ rest ++ c.in-Some.disk ∷ [] =
    c.pop.ensures.items ∙ ap (λ r. rest ++ option_to_list r) c.in-Some.is in
    let fewer : length rest < length units =
    omega (arith, ap (λ ds. length ds) gone, length-append rest (c.in-Some.disk ∷ []), c.loop-disk.invariant.enough) in
    let is : c.len.result ≡ length rest = omega (arith, c.len.ensures, c.pop.new.self.ok.0) in
    let at : slice_get units c.len.result ≡ Some c.index_mut.result.now =
    slice_get_read units (length units) c.len.result c.index_mut.result.now refl (omega (arith, is, fewer)) c.index_mut.ensures.value in
    let fresh : c.hand_in.new.self.steps ≡ [] =
    ap (λ (u : PlainUnit). u.steps) c.hand_in.ensures ∙ c.loop-disk.invariant.fresh c.len.result c.index_mut.result.now at in
    record {
      fresh = everywhere_set (λ (u : PlainUnit). u.steps ≡ []) c.len.result units c.hand_in.new.self c.loop-disk.invariant.fresh fresh;
      enough = omega (arith, fewer, set_length c.len.result units c.hand_in.new.self);
      same =
          ap (λ k. over_disks (slice_set units k c.hand_in.new.self) rest) is
          ∙ over_last units rest c.in-Some.disk c.index_mut.result.now c.hand_in.new.self
          (ap (λ k. slice_get units k) (sym is) ∙ at) c.hand_in.ensures
          ∙ ap (λ ds. over_disks units ds) (sym gone)
          ∙ c.loop-disk.invariant.same;
    }

pub returns-clause-over : goal.returns-clause-over
returns-clause-over c =
    let none : c.loop-disk.disks.items ≡ [] =
    nothing_in c.loop-disk.disks.items (omega (arith, c.in_default.ensures.cases.0, c.loop-disk.disks.ok.0)) in
    sym (over_none c.loop-disk.units.items) ∙ ap (λ ds. over_disks c.loop-disk.units.items ds) (sym none) ∙ c.loop-disk.invariant.same
