-- The rule of a book, and what its steps tell.
use Rattle.std.specs.Prelude.{ℕ, ◌≡◌, ◌==◌, ◌<◌, true, List, [], ◌∷◌, ◌++◌, length, reverse, MatchBool}
use mathlib.Core.List.{IsPrefix}
use Rattle.logbook.specs.Pages.{Cell, cell, Step, View, Book, Named}
use Rattle.shared_trace.specs.Events.{IsLawful, count_of}
use Rattle.shared_trace.specs.Inner.Logs.{AreBelow}

module _ {E : Type 0} (parts : ℕ) (part_of : E → ℕ) (may : List E → E → Type 0) where
  -- each word counts the events of its part, and the log is lawful. A book keeps its log with the newest event last
  pub record IsKept (cells : List Cell) (log : List E) : Type 0 where
    pub row : length cells ≡ parts
    pub words : (k : ℕ) → k < parts → cell cells k ≡ (count_of part_of k (reverse log), true)
    pub lawful : IsLawful may (reverse log)
    pub below : AreBelow part_of parts (reverse log)

  -- so many events of the part were found, in a log that was then seen
  abbrev pub Looks : Step E → View E ℕ → ℕ → View E ℕ → Type 0
  Looks s v found w =
      (count_of part_of s.key (reverse w.0) ≡ found) × IsLawful may (reverse w.0) × AreBelow part_of parts (reverse w.0)

  -- the event was added to some log that goes on from what was seen, and has so many events of the part
  abbrev pub Adds : Step E → View E ℕ → ℕ → View E ℕ → Type 0
  Adds s v found w =
      MatchBool (found == s.old)
      ((xs : List E) × IsPrefix v.0 xs × (w.0 ≡ xs ++ s.ask ∷ []) × (count_of part_of s.key (reverse xs) ≡ s.old)
      × IsLawful may (reverse w.0) × AreBelow part_of parts (reverse w.0))
      (IsLawful may (reverse w.0) × AreBelow part_of parts (reverse w.0))

abbrev pub word_of : ℕ → Book → Named
word_of k b = record { tracked = true; key = k; book = b }
