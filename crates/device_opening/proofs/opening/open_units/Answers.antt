use Rattle.std.proofs.Common.{◌≡◌, ℕ, List, ◌∷◌, ◌++◌, [], length, Option, Some, refl, sym, ap, ◌∙◌, subst, arith, length-append}
use Rattle.std.specs.Prelude.{slice_get}
use Rattle.std.proofs.lemmas.Option.{slice_get_within, get_or_from_slice_get}
use Rattle.scsi_codec.specs.declared.lun.Address.{Address}
use Rattle.request_intake.specs.declared.inventory.UnitSpec.{UnitSpec}
use Rattle.unit_model.specs.Unit.{PlainUnit}
use Rattle.device_opening.specs.Opening.{opening_unit}
use Rattle.device_opening.proofs.Making.{one_more}
use Rattle.device_opening.proofs.opening.open_units.Goals as goal

pub loop-number-preserved : goal.loop-number-preserved
loop-number-preserved c =
    let pushed : c.push.new.self.items ≡ c.loop-number.units.items ++ c.in_ok-unit.unit ∷ [] =
    rw (c.push.ensures.items, c.if-is_err.ensures.negation) refl in
    let opens : UnitSpec → PlainUnit = λ u. opening_unit c.args.inventory.now.addresses c.args.keeps_replies u in
    record {
      count =
          rw pushed
          (omega (arith, length-append c.loop-number.units.items (c.in_ok-unit.unit ∷ []), c.loop-number.invariant.count));
      each =
          rw pushed
          (one_more (λ (k : ℕ) (u : UnitSpec) (o : Option PlainUnit). o ≡ Some (opens u)) c.args.wanted.now
          c.loop-number.units.items c.loop-number.number c.loop-number.invariant.count c.loop-number.invariant.each
          c.in_ok-unit.unit (λ u is. ap (λ (v : PlainUnit). Some v) (c.in_ok-unit.ensures
          ∙ ap opens (get_or_from_slice_get c.args.wanted.now c.loop-number.number u _ is))));
    }

pub returns : goal.returns
returns c =
    let all : length c.args.wanted.now ≡ c.loop-number.number =
    omega (arith, c.loop-number-test.false, c.loop-number.auto.number-end) in
    record {
      count = c.loop-number.invariant.count ∙ sym all;
      each = λ k u is.
          subst (λ (i : List Address). slice_get c.loop-number.units.items k ≡ Some (opening_unit i c.args.keeps_replies u)) c.requires
          (c.loop-number.invariant.each k u
          (omega (arith, slice_get_within c.args.wanted.now k u is, c.loop-number-test.false)) is);
    }
