use Rattle.std.proofs.Common.{◌≡◌, true, false, length, map, None, Some, refl, sym, ap, ◌∙◌, subst, arith, inl, inr}
use Rattle.std.specs.Prelude.{is_some}
use Rattle.std.specs.List.{list_all}
use Rattle.std.proofs.lemmas.List.{length-map}
use Rattle.request_intake.specs.declared.inventory.UnitSpec.{UnitSpec}
use Rattle.device_steps.specs.Opening.{IsOpening, OpensFor}
use Rattle.c_calls.specs.Calls.{Cause}
use Rattle.c_calls.specs.Disks.{Lacks}
use Rattle.c_calls.specs.Inner.Disks.{Fit}
use Rattle.c_calls.specs.Wanted.{spec_of}
use Rattle.c_calls.specs.Kept.{disk_at, disks_at}
use Rattle.c_calls.proofs.Handed.{absent, created_over, all_there, are_for, none_backed}
use Rattle.c_calls.proofs.handing.create_with.Goals as goal

pub returns-in-Some : goal.returns-in-Some
returns-in-Some c =
    let none = absent _ (sym c.is_there.ensures ∙ c.if-is_there.false) in
    created_over _ _ _ _ _ _ _ _ _ _ _ none (
      c.in-Ok.config,
      c.in-Ok.ensures,
      inl (record { refused = sym c.in-Some.ensures.none; fault = c.in-Some.cause; is = c.in-Some.ensures.cause; named = c.fault_of.ensures }),
      none,
      refl,
    )

pub returns-in-Some-lacking : goal.returns-in-Some-lacking
returns-in-Some-lacking c =
    let none = absent _ (sym c.is_there.ensures ∙ c.if-is_there.false) in
    created_over _ _ _ _ _ _ _ _ _ _ _ none (
      c.in-Ok.config,
      c.in-Ok.ensures,
      inr (record {
        taken = sym c.in_default-fault.ensures.none;
        lacks =
            subst (λ k. Lacks false c.in-Ok.config.units.items (disks_at c.args.disks.now) k) (sym (ap (λ (x : Cause). x.place) c.no_disk_at.ensures))
            (subst (λ us. Lacks false us (disks_at c.args.disks.now) c.in-Some-lacking.unit_index) c.as_slice.ensures.value c.in-Some-lacking.ensures.found);
        named =
            c.no_disk_at.ensures
            ∙ ap (λ k. record { cause = 13; place = k; detail = 0 }) (sym (ap (λ (x : Cause). x.place) c.no_disk_at.ensures));
      }),
      none,
      c.in-Some-lacking.ensures.same,
    )

pub returns-in_default-new-2 : goal.returns-in_default-new-2
returns-in_default-new-2 c =
    let none = absent _ (sym c.is_there.ensures ∙ c.if-is_there.false) in
    created_over _ _ _ _ _ _ _ _ _ _ _ none (none, refl, c.in_default-lacking.ensures.same)

pub take_out-stores-requires-clause-there : goal.take_out-stores-requires-clause-there
take_out-stores-requires-clause-there c =
    let fit : Fit false c.in-Ok.config.units.items (disks_at c.args.disks.now) =
    subst (λ (us : _). Fit false us (disks_at c.args.disks.now)) c.as_slice.ensures.value c.in_default-lacking.ensures.found in
    let many : length (disks_at c.args.disks.now) ≡ length c.in-Ok.config.units.items =
    omega (
      arith,
      length-map c.args.disks.now disk_at,
      c.if-disks-units.false,
      ap (λ us. length us) c.in-Ok.ensures.units_are,
      length-map c.args.units.now spec_of,
    ) in
    subst (λ ds. list_all is_some ds ≡ true) (sym c.in_default-lacking.ensures.same) (all_there _ _ _ many fit)

pub hand_in-requires : goal.hand_in-requires
hand_in-requires c =
    let fit : Fit false c.in-Ok.config.units.items (disks_at c.args.disks.now) =
    subst (λ (us : _). Fit false us (disks_at c.args.disks.now)) c.as_slice.ensures.value c.in_default-lacking.ensures.found in
    let many : length (disks_at c.args.disks.now) ≡ length c.in-Ok.config.units.items =
    omega (
      arith,
      length-map c.args.disks.now disk_at,
      c.if-disks-units.false,
      ap (λ us. length us) c.in-Ok.ensures.units_are,
      length-map c.args.units.now spec_of,
    ) in
    record {
      opening =
          subst (λ w. OpensFor w c.take_out-stores.result.items)
          (sym (ap (λ d. d.world) (c.deref_mut.ensures.value ∙ c.in-Ok-new-2.ensures.ok)))
          (record {
            config = c.in-Ok.config;
            taken = c.in-Ok-new.ensures.opening.0;
            opening = c.in-Ok-new.ensures.opening.1;
            are = are_for _ _ _ _ many fit (sym c.in_default-lacking.ensures.same ∙ c.take_out-stores.ensures.were);
          });
    }

pub returns : goal.returns
returns c =
    let none = absent _ (sym c.is_there.ensures ∙ c.if-is_there.false) in
    let fit : Fit false c.in-Ok.config.units.items (disks_at c.args.disks.now) =
    subst (λ (us : _). Fit false us (disks_at c.args.disks.now)) c.as_slice.ensures.value c.in_default-lacking.ensures.found in
    let many : length (disks_at c.args.disks.now) ≡ length c.in-Ok.config.units.items =
    omega (
      arith,
      length-map c.args.disks.now disk_at,
      c.if-disks-units.false,
      ap (λ us. length us) c.in-Ok.ensures.units_are,
      length-map c.args.units.now spec_of,
    ) in
    let made = c.deref_mut.ensures.value ∙ c.in-Ok-new-2.ensures.ok in
    created_over _ _ _ _ _ _ _ _ _ _ _ none (
      c.in-Ok.config,
      record { world = c.hand_in.new.self; told = c.deref_mut.result.now.told },
      c.take_out-stores.result.items,
      c.in-Ok.ensures,
      record {
        taken = c.in-Ok-new.ensures.opening.0;
        disks = are_for _ _ _ _ many fit (sym c.in_default-lacking.ensures.same ∙ c.take_out-stores.ensures.were);
        resident = none_backed _ _ _ many fit (sym c.in_default-lacking.ensures.same ∙ c.take_out-stores.ensures.were);
        opening =
            c.hand_in.ensures.over c.in-Ok.config
            (subst (λ w. IsOpening c.in-Ok.config w) (sym (ap (λ d. d.world) made)) c.in-Ok-new.ensures.opening.1);
        opens = c.hand_in.ensures.opens;
        reaches = c.hand_in.ensures.reaches;
        told = ap (λ d. d.told) made ∙ c.new-told.ensures;
      },
      sym c.in_default-lacking.ensures.same ∙ c.take_out-stores.ensures.were,
      c.put.ensures,
      refl,
      c.take_out-stores.ensures.none,
    )
