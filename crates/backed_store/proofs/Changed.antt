-- What the host is owed once a page was changed.
use Rattle.std.proofs.Common.{◌≡◌, ℕ, ◌==◌, Bool, true, false, IsTrue, if◌then◌else◌, refl, sym, ◌∙◌, ap}
use Rattle.backed_store.specs.Marks.{State, changed}
use Rattle.backed_store.specs.Marks as marks
use Rattle.backed_store.specs.Caches as caches
use Rattle.backed_store.specs.Caches.{state_at, number_at, again_at}
use Rattle.backed_store.specs.Stores.{is_dirty, is_writing, is_rewritten, storage_of, ledger_of, IsOwed, IsHost}
use Rattle.backed_store.specs.declared.backed.BackedStore.{BackedStore}

-- a page of which a write is under way, and that changed too, is so again
rewritten-again : (s : State) → marks.is_rewritten s ≡ true → marks.is_rewritten (changed s) ≡ true
rewritten-again s is = by_test s.held s.writing refl refl
  where
    by_test : (held writing : Bool) → s.held ≡ held → s.writing ≡ writing → marks.is_rewritten (changed s) ≡ true
    by_test true true there gives = rw gives refl
    by_test true false there gives = let never = rw (there, gives) at is in let no : false ≡ true = never in cc
    by_test false writing there gives = let never = rw there at is in let no : false ≡ true = never in cc

writes-on : (s : State) → (IsTrue s.writing → IsTrue s.held) → marks.is_writing (changed s) ≡ marks.is_writing s
writes-on s given = by_test s.held s.writing refl refl
  where
    by_test : (held writing : Bool) → s.held ≡ held → s.writing ≡ writing → marks.is_writing (changed s) ≡ marks.is_writing s
    by_test true writing there gives = rw there refl
    by_test false false there gives = rw (there, gives) refl
    by_test false true there gives =
        let held = given gives in
        let no : false ≡ true = sym there ∙ held in
        cc

module _ (old new : BackedStore) (page : ℕ)
    (marked : (p : ℕ) → state_at new.cache p ≡ (if p == page then changed (state_at old.cache p) else state_at old.cache p))
    (numbers : (p : ℕ) → number_at new.cache p ≡ number_at old.cache p)
    (again : (p : ℕ) → IsTrue (is_rewritten old p) → again_at new.cache p ≡ again_at old.cache p) where
  dirty_on : (p : ℕ) → (t : Bool) → (p == page) ≡ t → IsTrue (is_dirty old p) → IsTrue (is_dirty new p)
  dirty_on p true here is =
      let state : state_at new.cache p ≡ changed (state_at old.cache p) = marked p ∙ rw here refl in
      ap (λ (s : State). marks.is_dirty s) state
  dirty_on p false apart is =
      let state : state_at new.cache p ≡ state_at old.cache p = marked p ∙ rw apart refl in
      ap (λ (s : State). marks.is_dirty s) state ∙ is

  rewritten_on : (p : ℕ) → (t : Bool) → (p == page) ≡ t → IsTrue (is_rewritten old p) → IsTrue (is_rewritten new p)
  rewritten_on p true here is =
      let state : state_at new.cache p ≡ changed (state_at old.cache p) = marked p ∙ rw here refl in
      ap (λ (s : State). marks.is_rewritten s) state ∙ rewritten-again (state_at old.cache p) is
  rewritten_on p false apart is =
      let state : state_at new.cache p ≡ state_at old.cache p = marked p ∙ rw apart refl in
      ap (λ (s : State). marks.is_rewritten s) state ∙ is

  writing_on : (p : ℕ) → (t : Bool) → (p == page) ≡ t → is_writing new p ≡ is_writing old p
  writing_on p true here =
      let state : state_at new.cache p ≡ changed (state_at old.cache p) = marked p ∙ rw here refl in
      ap (λ (s : State). marks.is_writing s) state ∙ writes-on (state_at old.cache p) (old.cache.indexed.given p)
  writing_on p false apart =
      let state : state_at new.cache p ≡ state_at old.cache p = marked p ∙ rw apart refl in
      ap (λ (s : State). marks.is_writing s) state

  changed_owed : (p : ℕ) → IsOwed old new p
  changed_owed p = record {
    dirty = dirty_on p (p == page) refl;
    number = λ is. numbers p;
    rewritten = rewritten_on p (p == page) refl;
    again = again p;
  }

  pub changed-host : storage_of new ≡ storage_of old → ledger_of new ≡ ledger_of old → caches.OwesNoMore old.cache new.cache → IsHost old new
  changed-host storage ledger owing = record {
    storage = storage;
    ledger = ledger;
    owed = changed_owed;
    writing = λ p. writing_on p (p == page) refl;
    owing = record { latest = owing.latest; dues = owing.dues };
  }
