-- Commits of one queue, by runs of them whose places and whose tickets rise by a stride each.
use Rattle.std.specs.Prelude.{ℕ, ◌≡◌, ◌+◌, ◌*◌, ◌^◌, ◌<◌, ◌≤◌, ◌⊎◌, List, [], ◌∷◌, length, get_or, map, slice_get, Vec, Option, Some, None, Bool, true, false, ⊤}
use Rattle.std.specs.declared.alloc.Global.{Global}
use Rattle.ring_core.specs.declared.log.Ticket.{Ticket}
use Rattle.unit_log.specs.declared.runs.Run.{Run}

-- own: the Commit of this number stands at the place, by the run
abbrev pub OnRun : ℕ → ℕ → Run → Type 0
OnRun place number r =
    (k : ℕ) × (k ≤ r.more) × (place ≡ r.place + k * r.by_place) × (number ≡ r.number + k * r.by_number)

-- own: by one of the runs
abbrev pub InRuns : ℕ → ℕ → List Run → Type 0
InRuns place number [] = ⊥
InRuns place number (r ∷ runs) = OnRun place number r ⊎ InRuns place number runs

-- own: the place of the last Commit of a run
abbrev pub last_place : Run → ℕ
last_place r = r.place + r.more * r.by_place

-- own: the number of the last Commit of a run
abbrev pub last_number : Run → ℕ
last_number r = r.number + r.more * r.by_number

-- own: the numbers of all have 64 bits
abbrev pub AreNumbered : List Run → Type 0
AreNumbered [] = ⊤
AreNumbered (r ∷ runs) = (last_number r < 2 ^ 64) × AreNumbered runs

-- own: the runs are in order, the first at or behind this place, and each behind the one before it
abbrev pub AreRising : ℕ → List Run → Type 0
AreRising low [] = ⊤
AreRising low (r ∷ runs) = (low ≤ r.place) × (0 < r.by_place) × AreRising (last_place r + 1) runs

-- own: all are before a place
abbrev pub AreBefore : ℕ → List Run → Type 0
AreBefore place [] = ⊤
AreBefore place (r ∷ runs) = (last_place r < place) × AreBefore place runs

-- own: what one more Commit adds
abbrev pub OneMore : (ℕ → ℕ → Type 0) → ℕ → ℕ → (ℕ → ℕ → Type 0) → Type 0
OneMore old place number new =
    (p n : ℕ) → (new p n → old p n ⊎ ((p ≡ place) × (n ≡ number)))
    × (old p n ⊎ ((p ≡ place) × (n ≡ number)) → new p n)

-- own: a run with one Commit more, which is its last
pub record Extends (r : Run) (place number : ℕ) (r' : Run) : Type 0 where
  pub first : r'.place ≡ r.place
  pub strides : 0 < r'.by_place
  pub ends : last_place r' ≡ place
  pub last : last_number r' ≡ number
  pub more : OneMore (λ p n. OnRun p n r) place number (λ p n. OnRun p n r')

-- own: the number of the Commit that stands at a place, by a run; or none stands there
abbrev pub FindsOn : ℕ → Run → Option ℕ → Type 0
FindsOn place r None = (n : ℕ) → OnRun place n r → ⊥
FindsOn place r (Some n) = OnRun place n r

-- own: by one of the runs
abbrev pub FindsIn : ℕ → List Run → Option ℕ → Type 0
FindsIn place runs None = (n : ℕ) → InRuns place n runs → ⊥
FindsIn place runs (Some n) = InRuns place n runs

-- own: the runs of a queue
abbrev pub runs_of : ℕ → List (List Run) → List Run
runs_of queue tables = get_or tables queue []

-- own: the Commit of a ticket stands at the place
abbrev pub Stands : ℕ → Ticket → List (List Run) → Type 0
Stands place t tables = InRuns place t.number (runs_of t.queue tables)

abbrev pub AllRising : List (List Run) → Type 0
AllRising tables = (q : ℕ) → AreRising 0 (runs_of q tables)

abbrev pub AllNumbered : List (List Run) → Type 0
AllNumbered tables = (q : ℕ) → AreNumbered (runs_of q tables)

-- own: what the runs of all queues are: no more queues than there are numbers for
pub record AreTables (tables : List (List Run)) : Type 0 where
  pub few : length tables ≤ 65536
  pub rising : AllRising tables
  pub numbered : AllNumbered tables

-- own: the ticket of the Commit that stands at a place; or none stands there
abbrev pub Finds : ℕ → List (List Run) → Option Ticket → Type 0
Finds place tables None = (t : Ticket) → Stands place t tables → ⊥
Finds place tables (Some t) = Stands place t tables

-- own: and one more
abbrev pub Adds : ℕ → Ticket → List (List Run) → List (List Run) → Type 0
Adds place t old new =
    (p : ℕ) (u : Ticket) → (Stands p u new → Stands p u old ⊎ ((p ≡ place) × (u ≡ t)))
    × (Stands p u old ⊎ ((p ≡ place) × (u ≡ t)) → Stands p u new)

-- own: the runs of each queue
abbrev pub tables_of : List (Vec Run Global) → List (List Run)
tables_of queues = map (λ (v : Vec Run Global). v.items) queues

-- own: the runs tell which of the folded steps are Commits, and of which tickets: of each step it is given whose Commit it
-- is, if it is one
abbrev pub AreCommits : List (Option Ticket) → List (List Run) → Type 0
AreCommits steps tables =
    (p : ℕ) (t : Ticket) → (Stands p t tables → slice_get steps p ≡ Some (Some t))
    × (slice_get steps p ≡ Some (Some t) → Stands p t tables)

-- own: the same runs
abbrev pub SameRuns : List (List Run) → List (List Run) → Type 0
SameRuns old new = (q : ℕ) → runs_of q new ≡ runs_of q old

-- own: one folded step more, of which it is given whose Commit it is
abbrev pub FoldsOne : Bool → ℕ → Option Ticket → List (List Run) → List (List Run) → Type 0
FoldsOne true place (Some t) old new = Adds place t old new
FoldsOne true place None old new = SameRuns old new
FoldsOne false place o old new = SameRuns old new
