-- What every item of a list has, once one was put behind it or not.
use Rattle.std.proofs.Common.{◌++◌, Bool, true, false, List, [], ◌∷◌, if◌then◌else◌}
use Rattle.std.proofs.lemmas.List.Elements.{All-append, All-cons, All-nil}
use Rattle.std.specs.List.{All}

pub all_put : {X : Type 0} (P : X → Type 0) (b : Bool) (xs : List X) (x : X) → All P xs → P x
    → All P (if b then xs ++ x ∷ [] else xs)
all_put P true xs x all one = All-append P xs (x ∷ []) all (All-cons P x [] one (All-nil P))
all_put P false xs x all one = all
