-- That no note Direct is kept.
use Rattle.std.proofs.Common.{◌≡◌, ℕ, zero, suc, List, [], ◌∷◌, ◌++◌, Option, Some, None, slice_get, ap, sym, ◌∙◌, subst, ◌⊎◌, inl, inr}
use Rattle.phases.specs.Notes.{PlainNote}
use Rattle.phases.specs.declared.note.Cause.TheVariants as cause
use Rattle.close_audit.specs.Undirected.{AreUndirected}

at_push : {X : Type 0} (xs : List X) (y x : X) (k : ℕ) → slice_get (xs ++ y ∷ []) k ≡ Some x → (slice_get xs k ≡ Some x) ⊎ (x ≡ y)
at_push [] y x zero e = inr cc
at_push [] y x (suc k) e = cc
at_push (z ∷ xs) y x zero e = inl e
at_push (z ∷ xs) y x (suc k) e = at_push xs y x k e

pub none_undirected : AreUndirected []
none_undirected k n e direct = cc

pub one_undirected : (notes : List PlainNote) (n : PlainNote) → AreUndirected notes → (n.cause ≡ cause.Direct → ⊥) → AreUndirected (notes ++ n ∷ [])
one_undirected notes n old new k o there direct = by_place (at_push notes n o k there)
  where
    by_place : (slice_get notes k ≡ Some o) ⊎ (o ≡ n) → ⊥
    by_place (inl e) = old k o e direct
    by_place (inr e) = new (ap (λ (z : PlainNote). z.cause) (sym e) ∙ direct)

pub same_undirected : (notes notes' : List PlainNote) → notes' ≡ notes → AreUndirected notes → AreUndirected notes'
same_undirected notes notes' e old = subst AreUndirected (sym e) old
