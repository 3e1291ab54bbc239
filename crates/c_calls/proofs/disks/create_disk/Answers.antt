use Rattle.std.proofs.Common.{refl, sym, ap, ◌∙◌, subst}
use Rattle.c_calls.specs.Disks.{IsBlank}
use Rattle.c_calls.proofs.Serve.{created}
use Rattle.c_calls.proofs.disks.create_disk.Goals as goal

pub returns-in-Ok : goal.returns-in-Ok
returns-in-Ok c =
    created c.args.blocks _ _ c.in-Ok.store.value (sym c.is_there.ensures ∙ c.if-is_there.false)
    (sym c.is_capacity.ensures ∙ c.if-not-is_capacity.false)
    (subst (λ s. IsBlank c.args.blocks s) (sym c.in-Ok.ensures.ok)
    (record { size = c.new.ensures.capacity; zeros = c.new.ensures.zeros; resident = refl })) c.put.ensures
