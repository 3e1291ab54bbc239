-- Events other than a fetch apply whatever stands in memory.
use Rattle.std.proofs.Common.{ℕ, Bool, List, [], ◌∷◌}
use Rattle.std.specs.Prelude.{⊤}
use Rattle.std.specs.List.{AllByRecursion}
use Rattle.device_model.specs.World.{PlainWorld}
use Rattle.device_model.specs.Events.{Event}
use Rattle.device_model.specs.Applies.{Applies}
use Rattle.device_model.specs.Order.{of_seat, NoneApplies}
use Rattle.device_model.specs.Live.{with_memory}
use Rattle.device_steps.specs.Apart.{PlainDevice, standing}
use Rattle.device_steps.specs.Inner.Cursors.{of_function, NoStart, NoSeat, NoneBefore}
use Rattle.device_steps.specs.declared.cursor.Cursor.{Cursor}
use Rattle.device_steps.specs.declared.cursor.Cursor.TheVariants as cursor

-- it looks at no memory
abbrev pub IsApart : Event → Type 0
IsApart (Event.Fetch i) = ⊥
IsApart (Event.Poke x) = ⊥
IsApart e = ⊤

-- so it applies with other bytes where it does with these
pub elsewhere : (a b : List ℕ) (w : PlainWorld) (e : Event) → IsApart e → Applies (with_memory a w) e → Applies (with_memory b w) e
elsewhere a b w (Event.Poke x) is h = absurd is
elsewhere a b w (Event.Fetch i) is h = absurd is
elsewhere a b w (Event.Enter i) is h = h
elsewhere a b w (Event.Direct i) is h = h
elsewhere a b w (Event.Put k) is h = record { job = h.job; rest = h.rest; seat = h.seat }
elsewhere a b w (Event.Take k) is h =
    record { worker = h.worker; seat = h.seat; from = h.from; job = h.job; rest = h.rest; handed_off = h.handed_off }
elsewhere a b w (Event.Prepare k) is h = h
elsewhere a b w (Event.Commit k) is h = h
elsewhere a b w (Event.Answer k) is h = h
elsewhere a b w (Event.Leave k) is h = h
elsewhere a b w Event.Mark is h =
    record { opened = h.opened; there = h.there; unit_index = h.unit_index; later = h.later; left = h.left }
elsewhere a b w Event.Check is h =
    record {
      opened = h.opened;
      there = h.there;
      left = h.left;
      mark = h.mark;
      later = h.later;
      still = h.still;
      unit = h.unit;
      unit_there = h.unit_there;
      clear = h.clear;
    }
elsewhere a b w Event.AnswerTmf is h =
    record { opened = h.opened; there = h.there; left = h.left; still = h.still }
elsewhere a b w (Event.Hard unit_index) is h = h
elsewhere a b w (Event.Resize unit_index blocks) is h = h
elsewhere a b w (Event.Deal unit_index x) is h = record { unit = h.unit; there = h.there; may = h.may }
elsewhere a b w Event.Raise is h = h
elsewhere a b w Event.Wake is h = record { first = h.first; rest = h.rest; waits = h.waits }
elsewhere a b w (Event.Resume k) is h =
    record { worker = h.worker; free = h.free; job = h.job; rest = h.rest; first = h.first }

pub none_elsewhere : (a b : List ℕ) (w : PlainWorld) (xs : List Event) → AllByRecursion IsApart xs → NoneApplies (with_memory a w) xs
    → NoneApplies (with_memory b w) xs
none_elsewhere a b w [] are none = tt
none_elsewhere a b w (x ∷ xs) are none =
    (λ h. none.0 (elsewhere b a w x are.0 h), none_elsewhere a b w xs are.1 none.1)

start_elsewhere : (a b : List ℕ) (w : PlainWorld) → NoStart (with_memory a w) → NoStart (with_memory b w)
start_elsewhere a b w h =
    record { function = none_elsewhere a b w of_function (tt, (tt, (tt, tt))) h.function; waiting = h.waiting }

seats_elsewhere : (a b : List ℕ) (w : PlainWorld) → NoSeat (with_memory a w) → NoSeat (with_memory b w)
seats_elsewhere a b w h = λ k lt. none_elsewhere a b w (of_seat k) (tt, (tt, (tt, (tt, (tt, (tt, tt)))))) (h k lt)

-- so nothing applies before a point, whatever stands in memory
before_elsewhere : (a b : List ℕ) (w : PlainWorld) (c : Cursor) → NoneBefore c (with_memory a w) → NoneBefore c (with_memory b w)
before_elsewhere a b w cursor.Start h = tt
before_elsewhere a b w (cursor.Direct n) h = (start_elsewhere a b w h.0, h.1)
before_elsewhere a b w cursor.Seats h = (start_elsewhere a b w h.0, h.1)
before_elsewhere a b w (cursor.Enter n) h = (start_elsewhere a b w h.0, h.1, seats_elsewhere a b w h.2, h.3)
before_elsewhere a b w (cursor.Fetch n) h = (start_elsewhere a b w h.0, h.1, seats_elsewhere a b w h.2, h.3)

pub before_any : (shared : Bool) (a b : List ℕ) (d : PlainDevice) (c : Cursor) → NoneBefore c (standing shared a d)
    → NoneBefore c (standing shared b d)
before_any shared a b d c h = before_elsewhere a b (standing shared a d) c h
