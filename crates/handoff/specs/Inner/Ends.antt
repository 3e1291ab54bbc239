-- One queue, and the ends that seats have of it.
use Rattle.std.specs.Prelude.{◌≡◌, [], ◌∷◌}
use Rattle.handoff.specs.Ends.{PlainLane, PlainEnd}
use Rattle.handoff.specs.declared.rule.Account.{Account}
use Rattle.handoff.specs.declared.rule.View.{View}

-- own: the end is of this queue
abbrev pub IsAt : PlainLane → PlainEnd → Type 0
IsAt l p = p.queue ≡ l.queue

-- own: it has the account of one seat
abbrev pub HasOne : View → Type 0
HasOne v = (a : Account) × (v.accounts ≡ a ∷ [])

-- own: the end once it knows this
abbrev pub knowing : View → PlainEnd → PlainEnd
knowing v p = record { queue = p.queue; knows = v }
