-- Rests on `specs/Crew.antt`; no promise rests on it.
use Rattle.std.specs.Prelude.{◌≡◌, ℕ, ◌+◌, List, [], ◌∷◌, ⊤}
use Rattle.handoff.specs.Seats.{Hub}
use Rattle.workers.specs.Crew.{Hand}

-- own: threads bring back the seats from a number on, in order
abbrev pub AreHired : Hub → ℕ → List Hand → Type 0
AreHired h k [] = ⊤
AreHired h k (p ∷ ps) = (p.hub ≡ h) × (p.number ≡ k) × AreHired h (k + 1) ps
