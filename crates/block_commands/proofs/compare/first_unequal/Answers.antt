use Rattle.std.proofs.Common.{◌≡◌, sym, subst, None}
use Rattle.std.proofs.lemmas.Slice.Eq.{bytes_eq-Decides}
use Rattle.command_model.specs.Comparing.{first_unequal}
use Rattle.block_commands.proofs.Comparisons.{first_unequal-none}
use Rattle.block_commands.proofs.compare.first_unequal.Goals as goal

pub returns-then-eq-clause-offset : goal.returns-then-eq-clause-offset
returns-then-eq-clause-offset c =
    let l = c.args.left.now in
    let same : l ≡ c.args.right.now = (bytes_eq-Decides l c.args.right.now).0 (sym c.if-eq.ensures) in
    subst (λ r. None ≡ first_unequal l r) same (sym (first_unequal-none l))
