-- A mark after a change.
use Rattle.std.specs.Prelude.{ℕ, Bool, true, false, ◌&&◌, ◌||◌, if◌then◌else◌}
use Rattle.backed_store.specs.declared.mark.Mark.{Mark}

-- the mark of a page whose bytes were changed in memory by change n
abbrev pub changed : ℕ → Mark → Mark
changed n m = record m { held = true; dirty = true; steady = false; used = true; again = if m.writing && m.steady then n else m.again }

-- the mark of a page whose bytes came from the host's storage
abbrev pub loaded : Mark → Mark
loaded m = record m { held = true; dirty = false; reading = false; steady = false; used = true }

-- the mark of a page that is out of the queue of those to be written, and given to the host if it is due
abbrev pub taken : Bool → Mark → Mark
taken due m = record m { listed = false; writing = m.writing || due; steady = m.steady || due }

-- the mark of a page that was used
abbrev pub used : Mark → Mark
used m = record m { used = true }

-- the mark of a page of which nothing is known: the host's storage alone has its bytes
abbrev pub unknown : Mark
unknown =
    record {
      held = false;
      dirty = false;
      wanted = false;
      reading = false;
      writing = false;
      steady = false;
      listed = false;
      used = false;
      number = 0;
      again = 0;
    }
