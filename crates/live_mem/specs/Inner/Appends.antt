-- Rests on `specs/Kept.antt`; no promise rests on it.
use Rattle.std.specs.Prelude.{ℕ, ◌≡◌, List, ◌∷◌, ◌++◌, length}
use Rattle.live_mem.specs.Access.{Access, Loads, AreBytes}
use Rattle.live_mem.specs.Inner.Kept.{Keeps}
use Rattle.live_mem.specs.declared.kept.Kept.{Kept}

-- n bytes from addr on were loaded, kept and put behind others
pub record Appends (log new_log : List Access) (k new_k : Kept) (addr n : ℕ) (out new_out : List ℕ) : Type 0 where
  pub fresh : List ℕ
  pub long : length fresh ≡ n
  pub are : AreBytes fresh
  pub asked : new_log ≡ Loads addr fresh ∷ log
  pub keeps : Keeps k.spans.items k.long.bytes addr fresh new_k.spans.items new_k.long.bytes
  pub behind : new_out ≡ out ++ fresh
