-- What the host was given of a page, and whether that has room.
use Rattle.std.proofs.Common.{◌≡◌, ℕ, ◌/◌, ◌%◌, Bool, true, false, IsTrue, List, Option, Some, None, if◌then◌else◌, refl}
use Rattle.block_store.specs.Blocks.{nth_block}
use Rattle.backed_store.specs.Marks.{State, state_of, is_steady, has_room}
use Rattle.backed_store.specs.Marks as marks
use Rattle.backed_store.specs.Caches.{state_at, bytes_at}
use Rattle.backed_store.specs.Stores.{contents, backing_of, storage_of, is_writing, is_rewritten}
use Rattle.backed_store.specs.declared.mark.Mark.{Mark}
use Rattle.backed_store.specs.declared.backed.BackedStore.{BackedStore}

-- what the host was given of a page that didn't change since is what it is
as-given : (state : State) (bytes kept given : List ℕ) (k : ℕ) → marks.is_writing state ≡ true → marks.is_rewritten state ≡ false →
    (IsTrue (is_steady state) → given ≡ nth_block bytes k) → given ≡ (if state.held then nth_block bytes k else kept)
as-given state bytes kept given k writes same steady = by_test state.held state.writing state.steady refl refl refl
  where
    by_test : (held writing still : Bool) → state.held ≡ held → state.writing ≡ writing → state.steady ≡ still →
        given ≡ (if held then nth_block bytes k else kept)
    by_test true writing true there gives still = steady (rw (there, still) refl)
    by_test true true false there gives still = let never = rw (there, gives, still) at same in let no : true ≡ false = never in cc
    by_test true false false there gives still = let never = rw (there, gives) at writes in let no : false ≡ true = never in cc
    by_test false writing still there gives moved = let never = rw there at writes in let no : false ≡ true = never in cc

pub contents-given : (s : BackedStore) (b : ℕ) → is_writing s (b / 8) ≡ true → is_rewritten s (b / 8) ≡ false →
    (storage_of s).given b ≡ contents s b
contents-given s b writes same =
    as-given (state_at s.cache (b / 8)) (bytes_at s.cache (b / 8)) (backing_of s b) ((storage_of s).given b) (b % 8) writes same (s.steady b)

-- a page whose write is under way has room
pub writing-room : (m : Option Mark) → marks.is_writing (state_of m) ≡ true → has_room m ≡ true
writing-room None never = let no : false ≡ true = never in cc
writing-room (Some m) is = by_test m.held m.writing m.listed refl refl refl
  where
    by_test : (held writing listed : Bool) → m.held ≡ held → m.writing ≡ writing → m.listed ≡ listed → has_room (Some m) ≡ true
    by_test true true true a b c = rw (b, c) refl
    by_test true true false a b c = rw (b, c) refl
    by_test true false listed a b c = let never = rw (a, b) at is in let no : false ≡ true = never in cc
    by_test false writing listed a b c = let never = rw a at is in let no : false ≡ true = never in cc
