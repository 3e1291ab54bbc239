use Rattle.std.proofs.Common.{◌≡◌, sym, ◌∙◌}
use Rattle.std.specs.Option.{option_map}
use Rattle.backed_store.specs.Disks as disks
use Rattle.block_store.specs.declared.readiness.Readiness.TheVariants.{Ready, Asked, Full}
use Rattle.logical_unit.specs.Inner.Performing.{performed_of, told}
use Rattle.logical_unit.proofs.Readied.{readied, needs-some}
use Rattle.logical_unit.proofs.performing.perform_in_memory.Goals as goal

pub returns-in-Ready-clause-performed : goal.returns-in-Ready-clause-performed
returns-in-Ready-clause-performed c =
    readied c.args.keeps_replies (told c.args.facts.now c.args.attentions.now) c.ready_for.new.facts c.args.attentions.now c.perform.new.attentions
    (disks.size_of c.args.store.now) (disks.size_of c.ready_for.new.store) c.args.command.now c.args.bytes.now
    (option_map performed_of c.perform.result)
    (disks.blocks_of c.args.store.now) (disks.blocks_of c.ready_for.new.store) (disks.blocks_of c.perform.new.store)
    c.ready_for.ensures.facts c.ready_for.ensures.size c.ready_for.ensures.blocks c.perform.ensures.performed

pub returns-in-Asked-clause-needed : goal.returns-in-Asked-clause-needed
returns-in-Asked-clause-needed c =
    needs-some _ c.ready_for.result c.ready_for.ensures.idle (λ same. let never : Asked ≡ Ready = sym c.in-Asked.is ∙ same in cc)

pub returns-in-Full-clause-needed : goal.returns-in-Full-clause-needed
returns-in-Full-clause-needed c =
    needs-some _ c.ready_for.result c.ready_for.ensures.idle (λ same. let never : Full ≡ Ready = sym c.in-Full.is ∙ same in cc)
