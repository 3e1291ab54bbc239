-- What is known of a page.
use Rattle.std.specs.Prelude.{ℕ, Bool, true, false, ◌&&◌, ◌||◌, not, nat_le, Option, Some, None, if◌then◌else◌}
use Rattle.backed_store.specs.declared.mark.Mark.{Mark}

-- the state of a page: whether its bytes are in memory, whether they may differ from those that the host's storage has,
-- whether the host was given them and has not answered, and whether they are as it was last given them
pub record State : Type 0 where
  pub held : Bool
  pub dirty : Bool
  pub writing : Bool
  pub steady : Bool

-- the state that a mark gives
abbrev pub state_of : Option Mark → State
state_of None = record { held = false; dirty = false; writing = false; steady = false }
state_of (Some m) = record { held = m.held; dirty = m.dirty; writing = m.writing; steady = m.steady }

-- in memory, with the bytes that the host's storage has
abbrev pub is_clean : State → Bool
is_clean s = s.held && not s.dirty

-- in memory, with bytes that the host's storage may lack
abbrev pub is_dirty : State → Bool
is_dirty s = s.held && s.dirty

-- in memory, with the bytes that the host was last given
abbrev pub is_steady : State → Bool
is_steady s = s.held && s.steady

-- given to the host, which has not answered
abbrev pub is_writing : State → Bool
is_writing s = s.held && s.writing

-- the state of a page that was changed in memory
abbrev pub changed : State → State
changed s = record s { held = true; dirty = true; steady = false }

-- the host is to be asked for it
abbrev pub is_wanted : Option Mark → Bool
is_wanted None = false
is_wanted (Some m) = m.wanted

-- the host was asked for it, and has not answered
abbrev pub is_reading : Option Mark → Bool
is_reading None = false
is_reading (Some m) = m.reading

-- in memory, or asked for
abbrev pub is_coming : Option Mark → Bool
is_coming None = false
is_coming (Some m) = m.held || (m.wanted || m.reading)

-- it stands in the queue of the pages to be written
abbrev pub is_listed : Option Mark → Bool
is_listed None = false
is_listed (Some m) = m.listed

-- the number of its oldest change that the host's storage may lack
abbrev pub number_of : Option Mark → ℕ
number_of None = 0
number_of (Some m) = m.number

-- the number of its first change since the host was given it
abbrev pub again_of : Option Mark → ℕ
again_of None = 0
again_of (Some m) = m.again

-- it was changed since the host was given it, and the host has not answered
abbrev pub is_rewritten : State → Bool
is_rewritten s = s.held && (s.writing && not s.steady)

-- it can be changed: it will be written after that
abbrev pub has_room : Option Mark → Bool
has_room None = false
has_room (Some m) = m.listed || m.writing

-- what is due until the host's storage has the changes of a page up to n: that the host keeps what it was given (1), that
-- it is given the page first (2), or both, since the page changed too early after it was given (3)
abbrev pub dues_of : ℕ → Option Mark → ℕ
dues_of n m =
    if has_room m && nat_le (number_of m) n
    then (if (state_of m).writing then (if not (state_of m).steady && nat_le (again_of m) n then 3 else 1) else 2)
    else 0

-- it may go: it is clean, the host has nothing to do with it, and it isn't about to be changed
abbrev pub may_go : Option Mark → Bool
may_go None = false
may_go (Some m) = (m.held && not m.dirty) && not (m.writing || (m.reading || (m.wanted || m.listed)))

-- a page whose bytes came from the host's storage
abbrev pub loaded : State → State
loaded s = record s { held = true; dirty = false; steady = false }

-- a page that the host is given
abbrev pub given : State → State
given s = record s { writing = true; steady = true }

-- a page that the host has written, or couldn't write, and whether it is clean then
abbrev pub answered : Bool → State → State
answered clean s = record s { dirty = not clean; writing = false; steady = false }
