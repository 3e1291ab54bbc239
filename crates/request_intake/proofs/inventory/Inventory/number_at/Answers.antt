use Rattle.std.proofs.Common.{◌<◌, Some, sym, ◌∙◌, ap, subst, length}
use Rattle.std.proofs.lemmas.Option.{slice_get-get_or}
use Rattle.cdb.specs.declared.profile.Profile.TheVariants.{Narrow}
use Rattle.scsi_codec.specs.declared.lun.Address.{Address}
use Rattle.scsi_codec.specs.Lun.{address_at}
use Rattle.request_intake.specs.Inventory.{PlainInventory}
use Rattle.request_intake.specs.declared.inventory.Known.{Known}
use Rattle.request_intake.proofs.Numbers.{numbered}
use Rattle.request_intake.proofs.inventory.Inventory.number_at.Goals as goal

pub returns-clause-address : goal.returns-clause-address
returns-clause-address c =
    let none : Address = record { target = 0; lun = 0 } in
    let nothing : Known = record { profile = Narrow; number = 0 } in
    let within : c.args.unit_index < length c.self.inside.addresses.items =
    subst (λ (i : PlainInventory). c.args.unit_index < length i.addresses) (sym c.self.view_is) c.requires.unit_index in
    let known = subst (λ n. c.args.unit_index < n) (sym c.self.invariant.1) within in
    let is = numbered c.self.inside.known.items c.self.inside.addresses.items c.args.unit_index nothing none c.self.invariant.2 known within in
    rw (← c.self.view_is, c.as_slice-2.ensures.value)
    (slice_get-get_or c.self.inside.addresses.items c.args.unit_index none within
    ∙ ap (λ (a : Address). Some a)
    (sym (rw c.as_slice.ensures.value at c.number-number.ensures.address)
    ∙ ap address_at (rw c.as_slice.ensures.value at c.number-number.ensures.number ∙ sym is)))
