-- A command that runs once its disk was made ready.
use Rattle.std.proofs.Common.{◌≡◌, ◌≢◌, ℕ, Bool, true, false, List, Option, subst, refl}
use Rattle.block_store.specs.declared.readiness.Readiness.{Readiness}
use Rattle.block_store.specs.declared.readiness.Readiness.TheVariants.{Ready}
use Rattle.cdb.specs.declared.commands.Command.{Command}
use Rattle.block_store.specs.Blocks.{Blocks}
use Rattle.block_commands.specs.declared.facts.UnitFacts.{UnitFacts}
use Rattle.block_commands.specs.Inner.Told.{facts_of}
use Rattle.unit_attention.specs.declared.code.Code.{Code}
use Rattle.logical_unit.specs.Inner.Performing.{Performs, PlainPerformed}

-- it ran as on the disk as it was
pub readied : (keeps : Bool) (was now : UnitFacts) (pending pending' : List Code) (m n : ℕ) (command : Command) (bytes : List ℕ) (p : Option PlainPerformed)
    (old ready new : Blocks) → now ≡ was → n ≡ m → ready ≡ old →
    Performs keeps (facts_of now n) command bytes p ready new pending pending' →
    Performs keeps (facts_of was m) command bytes p old new pending pending'
readied keeps was now pending pending' m n command bytes p old ready new facts size blocks ran =
    subst (λ (b : Blocks). Performs keeps (facts_of was m) command bytes p b new pending pending') blocks
    (subst (λ (k : ℕ). Performs keeps (facts_of was k) command bytes p ready new pending pending') size
    (subst (λ (f : UnitFacts). Performs keeps (facts_of f n) command bytes p ready new pending pending') facts ran))

-- a command that isn't ready needs blocks
pub needs-some : (needed : Bool) (readiness : Readiness) → (needed ≡ false → readiness ≡ Ready) → readiness ≢ Ready → needed ≡ true
needs-some true readiness idle unready = refl
needs-some false readiness idle unready = absurd (unready (idle refl))
