-- Logs that go on, what the step of a mark does, and what a close shows.
use Rattle.std.specs.Prelude.{ℕ, ◌≡◌, ◌<◌, ⊤, List, [], ◌∷◌, ◌++◌, length}
use Rattle.shared_trace.specs.Events.{IsLawful, PlainMark, Each, events_of, count_of}

-- the second log goes on from the first
abbrev pub IsPast : {E : Type 0} → List E → List E → Type 0
IsPast {E} past log = (more : List E) × (more ++ past ≡ log)

-- each event is of a part below that number
abbrev pub AreBelow : {E : Type 0} → (E → ℕ) → ℕ → List E → Type 0
AreBelow part_of parts [] = ⊤
AreBelow part_of parts (e ∷ past) = AreBelow part_of parts past × (part_of e < parts)

-- the event of the mark's part was added to some log that goes on from what was known, and has the same events of the part
abbrev pub Steps : {E : Type 0} → (E → ℕ) → (List E → E → Type 0) → PlainMark E → E → PlainMark E → Type 0
Steps {E} part_of may old e new =
    (past : List E) × IsPast old.known past
    × (events_of part_of old.number past ≡ events_of part_of old.number old.own)
    × (new ≡ record { number = old.number; own = e ∷ past; known = e ∷ past })
    × IsLawful may (e ∷ past)

-- the mark at its index has as many events of its part as some log between the two
abbrev pub IsCounted : {E : Type 0} → (E → ℕ) → List E → List E → ℕ → PlainMark E → Type 0
IsCounted {E} part_of old new k m =
    (m.number ≡ k) × IsPast m.own m.known
    × ((past : List E) × IsPast old past × IsPast past new × (count_of part_of k past ≡ count_of part_of k m.own))

-- a lawful log of which the marks of all parts are the end: it has what each of them knows, and its events of each part are
-- exactly those of the part's mark
pub record Closes {E : Type 0} (parts : ℕ) (part_of : E → ℕ) (may : List E → E
    → Type 0) (marks : List (PlainMark E)) (log : List E) : Type 0 where
  pub lawful : IsLawful may log
  pub below : AreBelow part_of parts log
  pub row : length marks ≡ parts
  pub numbers : Each (λ k m. m.number ≡ k) marks
  pub known : Each (λ k m. IsPast m.known log) marks
  pub events : Each (λ k m. events_of part_of k log ≡ events_of part_of k m.own) marks
