-- Steps that touch several parts, as an event at each of them. The newest event stands first.
use Rattle.std.specs.Prelude.{ℕ, ◌≡◌, ◌==◌, ◌⊎◌, ⊤, List, [], ◌∷◌, Option, Some, None, if◌then◌else◌}
use Rattle.shared_trace.specs.Events.{events_of, count_of}

-- a whole step: what is done, in a world of which only the touched parts count, the part at which it is done last, and how
-- many events each touched part had before
pub record Whole (D W : Type 0) : Type 0 where
  pub act : D
  pub seen : W
  pub last : ℕ
  pub turns : List (ℕ × ℕ)

-- the share of one part in a whole step
pub record Half (D W : Type 0) : Type 0 where
  pub part : ℕ
  pub whole : Whole D W

abbrev pub part_of : {D W : Type 0} → Half D W → ℕ
part_of e = e.part

abbrev pub Has : {A : Type 0} → List A → A → Type 0
Has [] x = ⊥
Has (y ∷ ys) x = (x ≡ y) ⊎ Has ys x

abbrev pub turn_of : ℕ → List (ℕ × ℕ) → ℕ
turn_of p [] = 0
turn_of p (t ∷ turns) = if t.0 == p then t.1 else turn_of p turns

abbrev pub latest : {A : Type 0} → List A → Option A
latest [] = None
latest (x ∷ xs) = Some x

-- the whole step of this event was done at its last part
abbrev pub IsDone : {D W : Type 0} → List (Half D W) → Half D W → Type 0
IsDone {D} {W} past f = (g : Half D W) × Has past g × (g.part ≡ g.whole.last) × (g.whole ≡ f.whole)

-- the whole steps that were done, each when it was done at its last part
abbrev pub wholes : {D W : Type 0} → List (Half D W) → List D
wholes [] = []
wholes (e ∷ past) = if e.part == e.whole.last then e.whole.act ∷ wholes past else wholes past

module _ {D W : Type 0} (after : D → W → W) (Happens : D → W → Type 0) (touches : D → W → List ℕ) (Agree : ℕ → W → W
    → Type 0) where
  abbrev pub AgreeAt : List ℕ → W → W → Type 0
  AgreeAt ps w v = (p : ℕ) → Has ps p → Agree p w v

  -- a step changes what it touches alone, and whether it may happen and what it leaves there depends on that alone
  pub record AreLocal : Type 0 where
    pub itself : (p : ℕ) (w : W) → Agree p w w
    pub turned : (p : ℕ) (w v : W) → Agree p w v → Agree p v w
    pub chained : (p : ℕ) (w v u : W) → Agree p w v → Agree p v u → Agree p w u
    pub others : (d : D) (w : W) (p : ℕ) → (Has (touches d w) p → ⊥) → Agree p (after d w) w
    pub own : (d : D) (w v : W) → AgreeAt (touches d w) w v → (p : ℕ) → Has (touches d w) p → Agree p (after d w) (after d v)
    pub happens : (d : D) (w v : W) → AgreeAt (touches d w) w v → Happens d w → Happens d v
    pub touched : (d : D) (w v : W) → AgreeAt (touches d w) w v → touches d v ≡ touches d w

  abbrev pub world_after : W → List D → W
  world_after old [] = old
  world_after old (d ∷ ds) = after d (world_after old ds)

  abbrev pub AllHappen : W → List D → Type 0
  AllHappen old [] = ⊤
  AllHappen old (d ∷ ds) = AllHappen old ds × Happens d (world_after old ds)

  -- when the share of a part may come, by a log that has all events of the part, and one that has what else is known: the
  -- part stands as it was seen, the step before it at that part is done, and at the last part all others have their shares
  pub record MayCome (old : W) (own known : List (Half D W)) (e : Half D W) : Type 0 where
    pub touched : Has (touches e.whole.act e.whole.seen) e.part
    pub turn : turn_of e.part e.whole.turns ≡ count_of part_of e.part own
    pub happens : Happens e.whole.act e.whole.seen
    pub first : latest (events_of part_of e.part own) ≡ None → Agree e.part old e.whole.seen
    pub next : (f : Half D W) → latest (events_of part_of e.part own) ≡ Some f
        → IsDone known f × Agree e.part (after f.whole.act f.whole.seen) e.whole.seen
    pub others : e.part ≡ e.whole.last → (q : ℕ) → Has (touches e.whole.act e.whole.seen) q → (q ≡ e.part → ⊥)
        → (f : Half D W) × Has known f × (f.part ≡ q) × (f.whole ≡ e.whole)

  -- the whole steps lead, each where it may happen, from the old world to one in which each part whose latest step is done
  -- stands as that step left it
  pub record AreWhole (old : W) (log : List (Half D W)) (ds : List D) : Type 0 where
    pub happen : AllHappen old ds
    pub none : (p : ℕ) → latest (events_of part_of p log) ≡ None → Agree p (world_after old ds) old
    pub some : (p : ℕ) (f : Half D W) → latest (events_of part_of p log) ≡ Some f → IsDone log f
        → Agree p (world_after old ds) (after f.whole.act f.whole.seen)
