-- What becomes of the only job that may run where its commit waits.
use Rattle.std.proofs.Common.{◌≡◌, ℕ, false, List, [], ◌∷◌, Some, length, slice_get, subst, ap, ◌∙◌, arith}
use Rattle.std.specs.Prelude.{drop}
use Rattle.unit_model.specs.Jobs.{PlainJob, Jobs}
use Rattle.unit_model.specs.Unit.{PlainUnit, is_backed}
use Rattle.device_model.specs.Parts.{Hand}
use Rattle.phases.specs.Parts.{hand_of}
use Rattle.phases.specs.Units.{Commits}
use Rattle.phases.specs.declared.hand.Hand as declared
use Rattle.lock_scopes.specs.Joined.{TakesOnly}
use Rattle.lock_scopes.proofs.Counting.{stays, taken_still}

-- it is the first of one
only_one : (xs : List PlainJob) (x : PlainJob) → length xs ≡ 1 → slice_get xs 0 ≡ Some x → xs ≡ x ∷ []
only_one [] x one first = absurd (omega (arith, one))
only_one (y ∷ []) x one first = cc
only_one (y ∷ z ∷ zs) x one first = absurd (omega (arith, one))

-- it stays in the hand, and its unit is as it was where its disk isn't backed
pub stays_taken : (h between h' : declared.Hand) (x : PlainJob) (u v : PlainUnit) (out out' : Jobs) → hand_of h ≡ Hand.Empty → length out.jobs ≡ 1
    → slice_get out.jobs 0 ≡ Some x → hand_of between ≡ Hand.Taken x → out' ≡ record out { jobs = drop 1 out.jobs }
    → Commits (hand_of between) u false v (hand_of h') → (is_backed u ≡ false → v ≡ u) × TakesOnly h out h' out'
stays_taken h between h' x u v out out' free one first takes rest commits =
    let only = only_one out.jobs x one first in (
      stays (hand_of between) u v (hand_of h') commits,
      record {
        job = x;
        free = free;
        only = only;
        takes = taken_still x (hand_of between) u v (hand_of h') takes commits;
        rest = rest ∙ ap (λ (l : List PlainJob). record out { jobs = drop 1 l }) only;
      },
    )
