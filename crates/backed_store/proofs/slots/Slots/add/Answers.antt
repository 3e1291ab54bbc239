use Rattle.std.proofs.Common.{◌≡◌, None, subst, arith}
use Rattle.std.proofs.lemmas.Bool.Decides.{nat_tests}
use Rattle.backed_store.specs.Slots.{mark_at}
use Rattle.backed_store.proofs.Known.{known-added}
use Rattle.backed_store.proofs.slots.Slots.add.Goals as goal

pub returns-in-Ok-clause-known : goal.returns-in-Ok-clause-known
returns-in-Ok-clause-known c =
    let old = c.args.self.now in
    known-added old _ c.args.page c.args.slot c.requires.unknown
    (λ p here. let number : c.args.page ≡ p = grind (arith, nat_tests, here) in subst (λ q. mark_at old q ≡ None) number c.requires.none)
    (λ p. c.in-Ok.ensures.updates.0 p)
