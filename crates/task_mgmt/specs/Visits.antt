-- A function over all of its units, and over all of its marks.
use Rattle.std.specs.Prelude.{ℕ, zero, suc, Bool, ◌<◌, List, [], ◌∷◌, ⊤}
use Rattle.std.specs.List.{AllByRecursion}
use Rattle.task_mgmt.specs.Functions.{PlainFunction, marking, next_mark, asking, checking}

-- own: after the next units were marked, one after another, at these places of their histories
abbrev pub all_marked : List ℕ → PlainFunction → PlainFunction
all_marked [] f = f
all_marked (place ∷ places) f = all_marked places (marking (next_mark place f) f)

-- own: after the next units were looked at, one after another, and this was found
abbrev pub all_asked : List Bool → PlainFunction → PlainFunction
all_asked [] f = f
all_asked (found ∷ looks) f = all_asked looks (asking found f)

-- own: after so many marks were clear
abbrev pub all_checked : ℕ → PlainFunction → PlainFunction
all_checked zero f = f
all_checked (suc n) f = all_checked n (checking f)

-- each is below all behind it
abbrev pub AreRising : List ℕ → Type 0
AreRising [] = ⊤
AreRising (a ∷ more) = AllByRecursion (λ b. a < b) more × AreRising more
