use Rattle.std.proofs.Common.{◌≡◌, ◌^◌, true, length, refl, sym, ap, ◌∙◌, subst, arith, inl, inr}
use Rattle.std.specs.Prelude.{is_some}
use Rattle.std.specs.List.{list_all}
use Rattle.std.proofs.lemmas.List.{length-map}
use Rattle.config.specs.Config.{is_config_for}
use Rattle.host_bus.specs.Map.{map_of}
use Rattle.live_mem.specs.Live.{bus_of}
use Rattle.device_steps.specs.Opening.{IsOpeningApart}
use Rattle.world.specs.LiveWorld.{IsOpeningOverApart, OpensForIn, OpensIn, BeginsIn}
use Rattle.c_calls.specs.Calls.{Cause}
use Rattle.c_calls.specs.Disks.{Lacks}
use Rattle.c_calls.specs.Inner.Disks.{Fit}
use Rattle.c_calls.specs.Wanted.{spec_of}
use Rattle.c_calls.specs.Kept.{disk_at, disks_at}
use Rattle.c_calls.proofs.Handed.{absent, all_there, are_for}
use Rattle.c_calls.proofs.LiveHanded.{created_over}
use Rattle.c_calls.proofs.live_handing.create_with.Goals as goal

pub returns-in-Some : goal.returns-in-Some
returns-in-Some c =
    let none = absent _ (sym c.is_there.ensures ∙ c.if-is_there.false) in
    created_over _ _ _ _ _ _ _ _ _ _ _ none (
      c.in-Ok.config,
      c.in-Ok.ensures,
      inl (record { refused = sym c.in-Some.ensures.none; fault = c.in-Some.cause; is = c.in-Some.ensures.cause; named = c.fault_of.ensures }),
      none,
      refl,
    )

pub returns-in-Some-lacking : goal.returns-in-Some-lacking
returns-in-Some-lacking c =
    let none = absent _ (sym c.is_there.ensures ∙ c.if-is_there.false) in
    created_over _ _ _ _ _ _ _ _ _ _ _ none (
      c.in-Ok.config,
      c.in-Ok.ensures,
      inr (record {
        taken = sym c.in_default-fault_for.ensures.none;
        lacks =
            subst (λ k. Lacks true c.in-Ok.config.units.items (disks_at c.args.disks.now) k) (sym (ap (λ (x : Cause). x.place) c.no_disk_at.ensures))
            (subst (λ us. Lacks true us (disks_at c.args.disks.now) c.in-Some-lacking.unit_index) c.as_slice.ensures.value c.in-Some-lacking.ensures.found);
        named =
            c.no_disk_at.ensures
            ∙ ap (λ k. record { cause = 13; place = k; detail = 0 }) (sym (ap (λ (x : Cause). x.place) c.no_disk_at.ensures));
      }),
      none,
      c.in-Some-lacking.ensures.same,
    )

pub returns-in_default-open : goal.returns-in_default-open
returns-in_default-open c =
    let none = absent _ (sym c.is_there.ensures ∙ c.if-is_there.false) in
    created_over _ _ _ _ _ _ _ _ _ _ _ none (none, refl, c.in_default-lacking.ensures.same)

pub take_out-stores-requires-clause-there : goal.take_out-stores-requires-clause-there
take_out-stores-requires-clause-there c =
    let fit : Fit true c.in-Ok.config.units.items (disks_at c.args.disks.now) =
    subst (λ (us : _). Fit true us (disks_at c.args.disks.now)) c.as_slice.ensures.value c.in_default-lacking.ensures.found in
    let many : length (disks_at c.args.disks.now) ≡ length c.in-Ok.config.units.items =
    omega (
      arith,
      length-map c.args.disks.now disk_at,
      c.if-disks-units.false,
      ap (λ us. length us) c.in-Ok.ensures.units_are,
      length-map c.args.units.now spec_of,
    ) in
    subst (λ ds. list_all is_some ds ≡ true) (sym c.in_default-lacking.ensures.same) (all_there _ _ _ many fit)

pub open-requires : goal.open-requires
open-requires c = sym c.in_default-fault_for.ensures.none

pub hand_in-requires : goal.hand_in-requires
hand_in-requires c =
    let fit : Fit true c.in-Ok.config.units.items (disks_at c.args.disks.now) =
    subst (λ (us : _). Fit true us (disks_at c.args.disks.now)) c.as_slice.ensures.value c.in_default-lacking.ensures.found in
    let many : length (disks_at c.args.disks.now) ≡ length c.in-Ok.config.units.items =
    omega (
      arith,
      length-map c.args.disks.now disk_at,
      c.if-disks-units.false,
      ap (λ us. length us) c.in-Ok.ensures.units_are,
      length-map c.args.units.now spec_of,
    ) in
    let made = c.in-Ok-open.ensures in
    let d = c.in-Ok-open.served.value in
    let size = made.size in
    record {
      opening =
          subst (λ v. OpensForIn v.memory.size v.device c.take_out-stores.result.items)
          (sym (ap (λ x. x.world) c.deref_mut.ensures.value))
          (record {
            config = c.in-Ok.config;
            taken = subst (λ n. is_config_for n c.in-Ok.config ≡ true) (sym size) made.taken;
            opening = subst (λ n. IsOpeningApart n c.in-Ok.config d.world.device) (sym size) made.opening;
            are = are_for _ _ _ _ many fit (sym c.in_default-lacking.ensures.same ∙ c.take_out-stores.ensures.were);
          });
    }

pub returns : goal.returns
returns c =
    let none = absent _ (sym c.is_there.ensures ∙ c.if-is_there.false) in
    let fit : Fit true c.in-Ok.config.units.items (disks_at c.args.disks.now) =
    subst (λ (us : _). Fit true us (disks_at c.args.disks.now)) c.as_slice.ensures.value c.in_default-lacking.ensures.found in
    let many : length (disks_at c.args.disks.now) ≡ length c.in-Ok.config.units.items =
    omega (
      arith,
      length-map c.args.disks.now disk_at,
      c.if-disks-units.false,
      ap (λ us. length us) c.in-Ok.ensures.units_are,
      length-map c.args.units.now spec_of,
    ) in
    let made = c.in-Ok-open.ensures in
    let same = c.deref_mut.ensures.value in
    let old = c.deref_mut.result.now.world in
    let new = c.hand_in.new.self in
    let was : old.memory.size ≡ 2 ^ 52 = ap (λ d. d.world.memory.size) same ∙ made.size in
    let is : new.memory.size ≡ 2 ^ 52 = ap (λ m. m.size) c.hand_in.ensures.memory ∙ was in
    created_over _ _ _ _ _ _ _ _ _ _ _ none (
      c.in-Ok.config,
      record { world = new; told = c.deref_mut.result.now.told; rings = c.deref_mut.result.now.rings },
      c.take_out-stores.result.items,
      c.in-Ok.ensures,
      record {
        over = ap (λ m. map_of (bus_of m)) c.hand_in.ensures.memory ∙ ap (λ d. map_of (bus_of d.world.memory)) same ∙ made.over;
        taken = made.taken;
        size = is;
        disks = are_for _ _ _ _ many fit (sym c.in_default-lacking.ensures.same ∙ c.take_out-stores.ensures.were);
        opening =
            subst (λ n. IsOpeningOverApart n c.in-Ok.config c.take_out-stores.result.items new.device) was
            (c.hand_in.ensures.over c.in-Ok.config
            (subst (λ v. IsOpeningApart v.memory.size c.in-Ok.config v.device) (sym (ap (λ d. d.world) same))
            (subst (λ n. IsOpeningApart n c.in-Ok.config c.in-Ok-open.served.value.world.device) (sym made.size) made.opening)));
        opens = subst (λ n. OpensIn true n new.device) is c.hand_in.ensures.opens;
        reaches = subst (λ n. BeginsIn true n new.device) is c.hand_in.ensures.reaches;
        told = ap (λ d. d.told) same ∙ made.told;
        rings = ap (λ d. d.rings) same ∙ made.rings;
      },
      sym c.in_default-lacking.ensures.same ∙ c.take_out-stores.ensures.were,
      c.put.ensures,
      refl,
      c.take_out-stores.ensures.none,
    )
