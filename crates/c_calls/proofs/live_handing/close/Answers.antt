use Rattle.std.proofs.Common.{length, refl, sym, ap, ◌∙◌, subst, arith}
use Rattle.std.specs.Prelude.{is_some}
use Rattle.std.proofs.lemmas.List.{length-map}
use Rattle.device_steps.specs.Opening.{AreDisksOf}
use Rattle.c_calls.specs.Kept.{disk_at}
use Rattle.c_calls.proofs.Handed.{as_many}
use Rattle.c_calls.proofs.LiveHanded.{closed}
use Rattle.c_calls.proofs.Taking.{any_image}
use Rattle.c_calls.proofs.live_handing.close.Goals as goal

pub returns-then-is_any_there : goal.returns-then-is_any_there
returns-then-is_any_there c =
    closed _ c.in-Some.served.value _ _ _ _ c.in-Some.ensures.taken (
      length-map c.args.disks.now disk_at
          ∙ omega (arith, c.if-disks-units.false, c.units.ensures, ap (λ d. length d.world.device.units) c.deref.ensures),
      any_image is_some disk_at c.args.disks.now ∙ sym c.is_any_there.ensures ∙ c.if-is_any_there.true,
      c.put-then-is_any_there.ensures,
      refl,
    )

pub returns-in_default-new_room : goal.returns-in_default-new_room
returns-in_default-new_room c =
    closed _ c.in-Some.served.value _ _ _ _ c.in-Some.ensures.taken (
      length-map c.args.disks.now disk_at
          ∙ omega (arith, c.if-disks-units.false, c.units.ensures, ap (λ d. length d.world.device.units) c.deref.ensures),
      any_image is_some disk_at c.args.disks.now ∙ sym c.is_any_there.ensures ∙ c.if-is_any_there.false,
      c.put-in_default-new_room.ensures,
      refl,
    )

pub put_back-requires-clause-none : goal.put_back-requires-clause-none
put_back-requires-clause-none c = any_image is_some disk_at c.args.disks.now ∙ sym c.is_any_there.ensures ∙ c.if-is_any_there.false

pub put_back-requires-clause-slots : goal.put_back-requires-clause-slots
put_back-requires-clause-slots c =
    omega (
      arith,
      c.if-disks-units.false,
      c.units.ensures,
      ap (λ d. length d.world.device.units) c.deref.ensures,
      ap (λ d. length d.world.device.units) c.into_inner-world.ensures,
      as_many _ _ c.into_disks-memory.ensures.disks,
    )

pub put_back-requires-clause-boxes : goal.put_back-requires-clause-boxes
put_back-requires-clause-boxes c = omega (arith, put_back-requires-clause-slots c, c.in-Ok.ensures.2)

pub returns : goal.returns
returns c =
    closed _ c.in-Some.served.value _ _ _ _ c.in-Some.ensures.taken (
      length-map c.args.disks.now disk_at
          ∙ omega (arith, c.if-disks-units.false, c.units.ensures, ap (λ d. length d.world.device.units) c.deref.ensures),
      any_image is_some disk_at c.args.disks.now ∙ sym c.is_any_there.ensures ∙ c.if-is_any_there.false,
      c.into_disks-memory.result.1.items,
      subst (λ units. AreDisksOf units c.into_disks-memory.result.1.items) (ap (λ d. d.world.device.units) c.into_inner-world.ensures) c.into_disks-memory.ensures.disks,
      c.in-Some.ensures.after,
      c.put_back.ensures,
    )
