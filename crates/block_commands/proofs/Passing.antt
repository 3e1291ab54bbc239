-- An answer that is passed on.
use Rattle.std.proofs.Common.{◌≡◌, List, ℕ, [], Ok, Err, Result, ap, sym, ◌∙◌, MatchResult}
use Rattle.std.specs.Prelude.{IsOkAnd}
use Rattle.command_model.specs.Data.{Answer}
use Rattle.block_commands.specs.Inner.Steps.{Gives}
use Rattle.block_commands.specs.declared.failure.Failure.{Failure}
use Rattle.block_commands.specs.declared.failure.Failure.TheVariants.{Refused, WantOfMemory}

-- with no data, where it ended well
pub Gives-no_data : {T U : Type 0} (bytes : U → List ℕ) (a : Answer) (r : Result T Failure) (s : Result U Failure) →
    Gives (λ _. []) a r → MatchResult r (λ _. IsOkAnd s (λ v. bytes v ≡ [])) (λ f. s ≡ Err f) → Gives bytes a s
Gives-no_data bytes a (Ok x) (Ok v) gives none = gives ∙ ap Ok (sym none)
Gives-no_data bytes a (Ok x) (Err f) gives none = absurd none
Gives-no_data bytes a (Err f) (Ok v) gives same = cc
Gives-no_data bytes a (Err WantOfMemory) (Err WantOfMemory) gives same = tt
Gives-no_data bytes a (Err (Refused x)) (Err WantOfMemory) gives same = tt
Gives-no_data bytes a (Err WantOfMemory) (Err (Refused y)) gives same = cc
Gives-no_data bytes a (Err (Refused x)) (Err (Refused y)) gives same =
    let as_given : y ≡ x = cc in
    gives ∙ ap Err (sym as_given)
