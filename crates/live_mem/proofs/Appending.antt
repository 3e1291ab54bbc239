-- A run of which nothing is kept is what the bus gives of it.
use Rattle.std.proofs.Common.{◌≡◌, ℕ, ◌+◌, ◌<◌, List, ◌∷◌, length, get_or, refl, sym, ◌∙◌, arith, inl}
use Rattle.live_mem.specs.Access.{Access, Loads, loaded}
use Rattle.live_mem.specs.Inner.Access.{ReadsThere}
use Rattle.live_mem.specs.Kept.{valued, IsFree}
use Rattle.live_mem.specs.declared.span.Span.{Span}

module _ (ss : List Span) (kept : List ℕ) (below : ℕ → ℕ → ℕ) (addr n : ℕ) (fresh : List ℕ) (long : length fresh ≡ n) (free : IsFree ss kept addr (addr + n)) (bare : (p d : ℕ) → below p d ≡ d) where
  pub stands : (i : ℕ) → i < length fresh → valued ss kept (addr + i) (below (addr + i) (get_or fresh i 0)) ≡ get_or fresh i 0
  stands i lt = free (addr + i) (below (addr + i) (get_or fresh i 0)) (omega arith) (omega (arith, lt, long)) ∙ bare (addr + i) (get_or fresh i 0)

  pub reads_fresh : (log log' : List Access) → ((p d : ℕ) → valued ss kept p (below p d) ≡ loaded log p d) → log' ≡ Loads addr fresh ∷ log → ReadsThere log log' addr fresh
  reads_fresh log log' faithful asked =
      inl (record {
        fresh = fresh;
        long = refl;
        asked = asked;
        are = λ i lt. sym (stands i lt) ∙ faithful (addr + i) (get_or fresh i 0);
      })
