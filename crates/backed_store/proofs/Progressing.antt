-- How far a flush is, as its store changes.
use Rattle.std.proofs.Common.{◌≡◌, ◌≢◌, ℕ, ◌*◌, ◌/◌, ◌%◌, ◌==◌, ◌<◌, ◌≤◌, ◌&&◌, ◌||◌, not, nat_le, nat_lt, Bool, true, false, IsTrue, IsFalse, IfOk, OnOk, OnErr, IfSome, IfNone, Result, Ok, Err, List, [], ◌∷◌, ◌++◌, All, length, drop, Option, Some, None, if◌then◌else◌, refl, sym, ◌∙◌, ap, subst, arith}
use Rattle.std.proofs.lemmas.Bool.Decides.{nat_tests}
use Rattle.std.proofs.lemmas.List.{drop-append-le, length-append}
use Rattle.std.proofs.lemmas.List.Elements.{All-nil, All-cons}
use Rattle.std.proofs.Math.Seq.{drop-length}
use Rattle.block_store.specs.Blocks.{zero_block}
use Rattle.block_store.specs.Pages.{blocks_in}
use Rattle.block_store.specs.Storage.{Storage, Ledger, Dealing, with_page, cut, dealt, and_then, storage_by}
use Rattle.block_store.specs.Progress.{Progress, progress_after, all_progress}
use Rattle.block_store.specs.Inner.Hosted.{hosted_after}
use Rattle.backed_store.specs.Marks.{state_of, has_room}
use Rattle.backed_store.specs.Marks as marks
use Rattle.backed_store.specs.Caches.{mark_at}
use Rattle.backed_store.specs.Stores.{contents, backing_of, storage_of, ledger_of, is_dirty, is_writing, is_rewritten, number_of, again_of, latest_of, IsOwed, IsHost}
use Rattle.backed_store.specs.Flushes.{owes, IsFlushed}
use Rattle.backed_store.specs.Fences.{is_kept_due, is_given_due, begun, done_by, progress_by, hosted_as, hosted_by, IsFenced}
use Rattle.backed_store.specs.declared.mark.Mark.{Mark}
use Rattle.backed_store.specs.declared.backed.BackedStore.{BackedStore}
use Rattle.backed_store.specs.declared.dealing.GivenPage.{GivenPage}
use Rattle.foundation.specs.declared.NoMemory.{NoMemory}
use Rattle.backed_store.proofs.Dealt.{by-ledger, dealt-by}
use Rattle.backed_store.proofs.Fenced.{contents-kept}
use Rattle.backed_store.proofs.Flushing.{contents-given}

-- What was done of the storage, and one thing more

progress-last : (ds : List Dealing) (d : Dealing) (x : Progress) → all_progress (ds ++ d ∷ []) x ≡ progress_after d (all_progress ds x)
progress-last [] d x = refl
progress-last (e ∷ more) d x = progress-last more d (progress_after e x)

pub progress-more : (n : ℕ) (began : List BackedStore) (l : Ledger) (d : Dealing) → done_by began ≤ length l.dealings →
    progress_by n began (and_then d l) ≡ progress_after d (progress_by n began l)
progress-more n began l d behind =
    ap (λ ds. all_progress ds (begun n began)) (drop-append-le (done_by began) l.dealings (d ∷ []) behind)
    ∙ progress-last (drop (done_by began) l.dealings) d (begun n began)

length-more : (n : ℕ) (l : Ledger) (d : Dealing) → n ≤ length l.dealings → n ≤ length (and_then d l).dealings
length-more n l d behind =
    let size = length-append l.dealings (d ∷ []) in
    omega (arith, behind, size)

-- What wasnt due of a page wasn't before

same-test : (p : ℕ) → (p == p) ≡ true
same-test p = grind (arith, nat_tests)

never-both : {A : Type 0} (x : Bool) → x ≡ true → x ≡ false → A
never-both x is wasnt = let bad : true ≡ false = sym is ∙ wasnt in cc

was-clean : (old new : BackedStore) (p : ℕ) → IsOwed old new p → is_dirty new p ≡ false → is_dirty old p ≡ false
was-clean old new p owed clean = by_test (is_dirty old p) refl
  where
    by_test : (t : Bool) → is_dirty old p ≡ t → is_dirty old p ≡ false
    by_test false is = is
    by_test true is = never-both (is_dirty new p) (owed.dirty is) clean

kept-was : (n : ℕ) (old new : BackedStore) (p : ℕ) → IsOwed old new p → is_kept_due new n p ≡ false → is_kept_due old n p ≡ false
kept-was n old new p owed due = by_test (is_dirty old p) refl
  where
    by_test : (t : Bool) → is_dirty old p ≡ t → is_kept_due old n p ≡ false
    by_test false is = rw is refl
    by_test true is =
        let later = rw (owed.dirty is, owed.number is) at due in
        rw is later

given-was : (n : ℕ) (old new : BackedStore) (p : ℕ) → IsOwed old new p → is_writing new p ≡ is_writing old p →
    is_given_due new n p ≡ false → is_given_due old n p ≡ false
given-was n old new p owed writing due = by_test (is_writing old p) refl
  where
    rewritten : is_writing old p ≡ true → (t : Bool) → is_rewritten old p ≡ t → is_given_due old n p ≡ false
    rewritten writes false is = rw (writes, is) refl
    rewritten writes true is =
        let later = rw (writing ∙ writes, owed.rewritten is, owed.again is) at due in
        rw (writes, is) later

    dirty : is_writing old p ≡ false → (t : Bool) → is_dirty old p ≡ t → is_given_due old n p ≡ false
    dirty idle false is = rw (idle, is) refl
    dirty idle true is =
        let later = rw (writing ∙ idle, owed.dirty is, owed.number is) at due in
        rw (idle, is) later

    by_test : (t : Bool) → is_writing old p ≡ t → is_given_due old n p ≡ false
    by_test true writes = rewritten writes (is_rewritten old p) refl
    by_test false idle = dirty idle (is_dirty old p) refl

-- all else that the storage may have of a block is the same
unkept-as : {x y : List ℕ} {l m : List (List ℕ)} → All (λ z. z ≡ x) l → m ≡ l → y ≡ x → All (λ z. z ≡ y) m
unkept-as {x} {y} {l} {m} was same is =
    subst (λ k. All (λ z. z ≡ y) k) (sym same) (subst (λ w. All (λ z. z ≡ w) l) (sym is) was)

-- A store of which nothing was done that counts

pub stays : (n : ℕ) (began : List BackedStore) (old new : BackedStore) → done_by began ≤ length (ledger_of new).dealings →
    ((p : ℕ) → (progress_by n began (ledger_of new)).kept p ≡ (progress_by n began (ledger_of old)).kept p) →
    ((p : ℕ) → (progress_by n began (ledger_of new)).given p ≡ (progress_by n began (ledger_of old)).given p) →
    storage_of new ≡ storage_of old → ((p : ℕ) → IsOwed old new p) → ((p : ℕ) → is_writing new p ≡ is_writing old p) →
    IsFenced n began old → IsFenced n began new
stays n began old new behind kept given storage owed writing was =
    record {
      behind = behind;
      kept = λ p due. kept p ∙ was.kept p (kept-was n old new p (owed p) due);
      given = λ p due. given p ∙ was.given p (given-was n old new p (owed p) (writing p) due);
      idle = λ b clean idle.
          ap (λ (s : Storage). s.given b) storage
          ∙ was.idle b (was-clean old new (b / 8) (owed (b / 8)) clean) (sym (writing (b / 8)) ∙ idle)
          ∙ sym (ap (λ (s : Storage). s.kept b) storage);
      unkept = λ b clean.
          unkept-as (was.unkept b (was-clean old new (b / 8) (owed (b / 8)) clean)) (ap (λ (s : Storage). s.unkept b) storage)
          (ap (λ (s : Storage). s.kept b) storage);
    }

same-storage : (old new : BackedStore) → ledger_of new ≡ ledger_of old → storage_of new ≡ storage_of old
same-storage old new same = by-ledger new ∙ ap storage_by same ∙ sym (by-ledger old)

pub same-ledger : (n : ℕ) (began : List BackedStore) (old new : BackedStore) → ledger_of new ≡ ledger_of old →
    storage_of new ≡ storage_of old → ((p : ℕ) → IsOwed old new p) → ((p : ℕ) → is_writing new p ≡ is_writing old p) →
    IsFenced n began old → IsFenced n began new
same-ledger n began old new ledger storage owed writing was =
    stays n began old new (subst (λ (l : Ledger). done_by began ≤ length l.dealings) (sym ledger) was.behind)
    (λ p. ap (λ (l : Ledger). (progress_by n began l).kept p) ledger) (λ p. ap (λ (l : Ledger). (progress_by n began l).given p) ledger)
    storage owed writing was

pub as-host : (n : ℕ) (began : List BackedStore) (old new : BackedStore) → IsHost old new → IsFenced n began old → IsFenced n began new
as-host n began old new host was = same-ledger n began old new host.ledger host.storage host.owed host.writing was

-- the host said something that makes no difference to how far the flush is
said-more : (n : ℕ) (began : List BackedStore) (old new : BackedStore) (d : Dealing) → ledger_of new ≡ and_then d (ledger_of old) →
    done_by began ≤ length (ledger_of old).dealings → done_by began ≤ length (ledger_of new).dealings
said-more n began old new d ledger behind =
    subst (λ (l : Ledger). done_by began ≤ length l.dealings) (sym ledger) (length-more _ (ledger_of old) d behind)

said-progress : (n : ℕ) (began : List BackedStore) (old new : BackedStore) (d : Dealing) → ledger_of new ≡ and_then d (ledger_of old) →
    ((x : Progress) → progress_after d x ≡ x) → done_by began ≤ length (ledger_of old).dealings →
    progress_by n began (ledger_of new) ≡ progress_by n began (ledger_of old)
said-progress n began old new d ledger nothing behind =
    ap (λ (l : Ledger). progress_by n began l) ledger ∙ progress-more n began (ledger_of old) d behind
    ∙ nothing (progress_by n began (ledger_of old))

-- and isn't about what it was given
pub said : (n : ℕ) (began : List BackedStore) (old new : BackedStore) (d : Dealing) → ledger_of new ≡ and_then d (ledger_of old) →
    ((x : Progress) → progress_after d x ≡ x) → storage_of new ≡ storage_of old → ((p : ℕ) → IsOwed old new p) →
    ((p : ℕ) → is_writing new p ≡ is_writing old p) → IsFenced n began old → IsFenced n began new
said n began old new d ledger nothing storage owed writing was =
    let same = said-progress n began old new d ledger nothing was.behind in
    stays n began old new (said-more n began old new d ledger was.behind)
    (λ p. ap (λ (x : Progress). x.kept p) same) (λ p. ap (λ (x : Progress). x.given p) same) storage owed writing was

-- The host was given a page

module _ (n : ℕ) (began : List BackedStore) (old new : BackedStore) (page : ℕ) (bytes : List ℕ)
    (ledger : ledger_of new ≡ and_then (Dealing.Give page bytes) (ledger_of old)) (owed : (p : ℕ) → IsOwed old new p)
    (writes : is_writing new page ≡ true) (others : (p : ℕ) → p ≢ page → is_writing new p ≡ is_writing old p)
    (given : (b : ℕ) → (storage_of new).given b ≡ with_page page (contents old) (storage_of old).given b)
    (kept : (b : ℕ) → backing_of new b ≡ backing_of old b) (was : IsFenced n began old) where
  now_given : progress_by n began (ledger_of new) ≡ progress_after (Dealing.Give page bytes) (progress_by n began (ledger_of old))
  now_given =
      ap (λ (l : Ledger). progress_by n began l) ledger ∙ progress-more n began (ledger_of old) (Dealing.Give page bytes) was.behind

  given_by_give : (p : ℕ) → is_given_due new n p ≡ false → (t : Bool) → (p == page) ≡ t →
      (p == page || (progress_by n began (ledger_of old)).given p) ≡ true
  given_by_give p due true here = rw here refl
  given_by_give p due false apart =
      let other : p ≢ page = λ same. never-both (p == page) (rw same (same-test page)) apart in
      let before = was.given p (given-was n old new p (owed p) (others p other) due) in
      rw apart before

  idle_by_give : (b : ℕ) → is_dirty new (b / 8) ≡ false → is_writing new (b / 8) ≡ false → (t : Bool) → (b / 8 == page) ≡ t →
      (storage_of new).given b ≡ backing_of new b
  idle_by_give b clean idle true here =
      let same : b / 8 ≡ page = grind (arith, nat_tests, here) in
      never-both (is_writing new (b / 8)) (ap (λ p. is_writing new p) same ∙ writes) idle
  idle_by_give b clean idle false apart =
      let other : b / 8 ≢ page = λ same. never-both (b / 8 == page) (rw same (same-test page)) apart in
      given b ∙ rw apart refl
      ∙ was.idle b (was-clean old new (b / 8) (owed (b / 8)) clean) (sym (others (b / 8) other) ∙ idle) ∙ sym (kept b)

  storage_given : storage_of new ≡ dealt (Dealing.Give page bytes) (storage_of old)
  storage_given = dealt-by old new (Dealing.Give page bytes) ledger

  unkept_by_give : (b : ℕ) → is_dirty new (b / 8) ≡ false → (t : Bool) → (b / 8 == page) ≡ t →
      All (λ x. x ≡ backing_of new b) ((storage_of new).unkept b)
  unkept_by_give b clean true here =
      let clean' = was-clean old new (b / 8) (owed (b / 8)) clean in
      let bytes_now : blocks_in bytes (b % 8) ≡ contents old b =
      sym (ap (λ (s : Storage). s.given b) storage_given ∙ rw here refl) ∙ given b ∙ rw here refl in
      unkept-as {x = backing_of old b} {l = blocks_in bytes (b % 8) ∷ (storage_of old).unkept b}
      (All-cons (λ z. z ≡ backing_of old b) (blocks_in bytes (b % 8)) ((storage_of old).unkept b) (bytes_now ∙ contents-kept old b clean')
      (was.unkept b clean'))
      (ap (λ (s : Storage). s.unkept b) storage_given ∙ rw here refl) (kept b)
  unkept_by_give b clean false apart =
      unkept-as (was.unkept b (was-clean old new (b / 8) (owed (b / 8)) clean))
      (ap (λ (s : Storage). s.unkept b) storage_given ∙ rw apart refl) (kept b)

  pub gave : IsFenced n began new
  gave =
      record {
        behind = subst (λ (l : Ledger). done_by began ≤ length l.dealings) (sym ledger) (length-more _ (ledger_of old) (Dealing.Give page bytes) was.behind);
        kept = λ p due. ap (λ (x : Progress). x.kept p) now_given ∙ was.kept p (kept-was n old new p (owed p) due);
        given = λ p due. ap (λ (x : Progress). x.given p) now_given ∙ given_by_give p due (p == page) refl;
        idle = λ b clean idle. idle_by_give b clean idle (b / 8 == page) refl;
        unkept = λ b clean. unkept_by_give b clean (b / 8 == page) refl;
      }

-- The host said what became of a write

-- what wasnt due of a page once its write is over wasn't due of what the host was given
over-was : (n : ℕ) (old new : BackedStore) (page : ℕ) →
    (IsTrue (is_rewritten old page) → (IsTrue (is_dirty new page) × (n < number_of new page → n < again_of old page))) →
    is_writing old page ≡ true → is_kept_due new n page ≡ false → is_given_due old n page ≡ false
over-was n old new page later writes due = by_test (is_rewritten old page) refl
  where
    by_test : (t : Bool) → is_rewritten old page ≡ t → is_given_due old n page ≡ false
    by_test false is = rw (writes, is) refl
    by_test true is =
        let young = rw ((later is).0) at due in
        let above : n < again_of old page = (later is).1 (grind (arith, nat_tests, young)) in
        let test : nat_le (again_of old page) n ≡ false = grind (arith, nat_tests, above) in
        rw (writes, is, test) refl

module _ (n : ℕ) (began : List BackedStore) (old new : BackedStore) (page : ℕ)
    (ledger : ledger_of new ≡ and_then (Dealing.Keep page) (ledger_of old)) (writes : is_writing old page ≡ true)
    (over : is_writing new page ≡ false) (others : (p : ℕ) → p ≢ page → IsOwed old new p)
    (still : (p : ℕ) → p ≢ page → is_writing new p ≡ is_writing old p)
    (again : IsTrue (is_rewritten old page) → IsTrue (is_dirty new page))
    (later : IsTrue (is_rewritten old page) → number_of new page ≡ again_of old page)
    (given : (b : ℕ) → (storage_of new).given b ≡ (storage_of old).given b)
    (kept : (b : ℕ) → backing_of new b ≡ with_page page (storage_of old).given (backing_of old) b) (was : IsFenced n began old) where
  now_kept : progress_by n began (ledger_of new) ≡ progress_after (Dealing.Keep page) (progress_by n began (ledger_of old))
  now_kept = ap (λ (l : Ledger). progress_by n began l) ledger ∙ progress-more n began (ledger_of old) (Dealing.Keep page) was.behind

  given_there : is_kept_due new n page ≡ false → (progress_by n began (ledger_of old)).given page ≡ true
  given_there due =
      was.given page
      (over-was n old new page (λ is. (again is, λ below. subst (λ x. n < x) (later is) below)) writes due)

  kept_by_keep : (p : ℕ) → is_kept_due new n p ≡ false → (t : Bool) → (p == page) ≡ t →
      (if p == page then (progress_by n began (ledger_of old)).given p else (progress_by n began (ledger_of old)).kept p) ≡ true
  kept_by_keep p due true here =
      let same : p ≡ page = grind (arith, nat_tests, here) in
      let there = given_there (subst (λ q. is_kept_due new n q ≡ false) same due) in
      rw here (ap (λ q. (progress_by n began (ledger_of old)).given q) same ∙ there)
  kept_by_keep p due false apart =
      let other : p ≢ page = λ same. never-both (p == page) (rw same (same-test page)) apart in
      rw apart (was.kept p (kept-was n old new p (others p other) due))

  given_by_keep : (p : ℕ) → is_given_due new n p ≡ false → (t : Bool) → (p == page) ≡ t →
      (progress_by n began (ledger_of old)).given p ≡ true
  given_by_keep p due true here =
      let same : p ≡ page = grind (arith, nat_tests, here) in
      let due' : is_given_due new n page ≡ false = subst (λ q. is_given_due new n q ≡ false) same due in
      let kept_due : is_kept_due new n page ≡ false = rw over at due' in
      ap (λ q. (progress_by n began (ledger_of old)).given q) same ∙ given_there kept_due
  given_by_keep p due false apart =
      let other : p ≢ page = λ same. never-both (p == page) (rw same (same-test page)) apart in
      was.given p (given-was n old new p (others p other) (still p other) due)

  idle_by_keep : (b : ℕ) → is_dirty new (b / 8) ≡ false → is_writing new (b / 8) ≡ false → (t : Bool) → (b / 8 == page) ≡ t →
      (storage_of new).given b ≡ backing_of new b
  idle_by_keep b clean idle true here = given b ∙ sym (kept b ∙ rw here refl)
  idle_by_keep b clean idle false apart =
      let other : b / 8 ≢ page = λ same. never-both (b / 8 == page) (rw same (same-test page)) apart in
      given b
      ∙ was.idle b (was-clean old new (b / 8) (others (b / 8) other) clean) (sym (still (b / 8) other) ∙ idle)
      ∙ sym (kept b ∙ rw apart refl)

  storage_kept : storage_of new ≡ dealt (Dealing.Keep page) (storage_of old)
  storage_kept = dealt-by old new (Dealing.Keep page) ledger

  unkept_by_keep : (b : ℕ) → is_dirty new (b / 8) ≡ false → (t : Bool) → (b / 8 == page) ≡ t →
      All (λ x. x ≡ backing_of new b) ((storage_of new).unkept b)
  unkept_by_keep b clean true here =
      let none : (storage_of new).unkept b ≡ [] = ap (λ (s : Storage). s.unkept b) storage_kept ∙ rw here refl in
      subst (λ l. All (λ x. x ≡ backing_of new b) l) (sym none) (All-nil (λ x. x ≡ backing_of new b))
  unkept_by_keep b clean false apart =
      let other : b / 8 ≢ page = λ same. never-both (b / 8 == page) (rw same (same-test page)) apart in
      unkept-as (was.unkept b (was-clean old new (b / 8) (others (b / 8) other) clean))
      (ap (λ (s : Storage). s.unkept b) storage_kept ∙ rw apart refl) (kept b ∙ rw apart refl)

  pub kept-page : IsFenced n began new
  kept-page =
      record {
        behind = subst (λ (l : Ledger). done_by began ≤ length l.dealings) (sym ledger) (length-more _ (ledger_of old) (Dealing.Keep page) was.behind);
        kept = λ p due. ap (λ (x : Progress). x.kept p) now_kept ∙ kept_by_keep p due (p == page) refl;
        given = λ p due. ap (λ (x : Progress). x.given p) now_kept ∙ given_by_keep p due (p == page) refl;
        idle = λ b clean idle. idle_by_keep b clean idle (b / 8 == page) refl;
        unkept = λ b clean. unkept_by_keep b clean (b / 8 == page) refl;
      }

-- The host couldn't write a page

number-again : (s : BackedStore) (p : ℕ) → IsTrue (is_rewritten s p) → number_of s p ≤ again_of s p
number-again s p is = s.cache.indexed.later p is

module _ (n : ℕ) (began : List BackedStore) (old new : BackedStore) (page : ℕ)
    (behind : done_by began ≤ length (ledger_of new).dealings) (same : progress_by n began (ledger_of new) ≡ progress_by n began (ledger_of old))
    (storage : storage_of new ≡ storage_of old)
    (over : is_writing new page ≡ false) (others : (p : ℕ) → p ≢ page → IsOwed old new p)
    (still : (p : ℕ) → p ≢ page → is_writing new p ≡ is_writing old p)
    (dirty : IsTrue (is_dirty old page) → IsTrue (is_dirty new page))
    (number : number_of new page ≡ number_of old page)
    (unkept : IsTrue (is_writing old page) → IsTrue (is_dirty new page)) (was : IsFenced n began old) where
  kept_here : is_kept_due new n page ≡ false → (t : Bool) → is_dirty old page ≡ t → is_kept_due old n page ≡ false
  kept_here due false is = rw is refl
  kept_here due true is = let later = rw (dirty is, number) at due in rw is later

  given_here : is_given_due new n page ≡ false → (t : Bool) → is_writing old page ≡ t → is_given_due old n page ≡ false
  given_here due true writes =
      let kept_due : is_kept_due new n page ≡ false = rw over at due in
      over-was n old new page
      (λ is. (unkept writes, λ below. let before = number-again old page is in let same = number in omega (arith, before, below, same)))
      writes kept_due
  given_here due false idle =
      let kept_due : is_kept_due new n page ≡ false = rw over at due in
      let before : is_kept_due old n page ≡ false = kept_here kept_due (is_dirty old page) refl in
      rw idle before

  idle_here : is_dirty new page ≡ false → (t : Bool) → is_writing old page ≡ t → is_writing old page ≡ false
  idle_here clean true writes = never-both (is_dirty new page) (unkept writes) clean
  idle_here clean false idle = idle

  was_clean_fail : is_dirty new page ≡ false → (t : Bool) → is_dirty old page ≡ t → is_dirty old page ≡ false
  was_clean_fail clean true is = never-both (is_dirty new page) (dirty is) clean
  was_clean_fail clean false is = is

  kept_by_fail : (p : ℕ) → is_kept_due new n p ≡ false → (t : Bool) → (p == page) ≡ t → is_kept_due old n p ≡ false
  kept_by_fail p due true here =
      let same : p ≡ page = grind (arith, nat_tests, here) in
      let there = kept_here (subst (λ q. is_kept_due new n q ≡ false) same due) (is_dirty old page) refl in
      ap (λ q. is_kept_due old n q) same ∙ there
  kept_by_fail p due false apart =
      let other : p ≢ page = λ same. never-both (p == page) (rw same (same-test page)) apart in
      kept-was n old new p (others p other) due

  given_by_fail : (p : ℕ) → is_given_due new n p ≡ false → (t : Bool) → (p == page) ≡ t → is_given_due old n p ≡ false
  given_by_fail p due true here =
      let same : p ≡ page = grind (arith, nat_tests, here) in
      let there = given_here (subst (λ q. is_given_due new n q ≡ false) same due) (is_writing old page) refl in
      ap (λ q. is_given_due old n q) same ∙ there
  given_by_fail p due false apart =
      let other : p ≢ page = λ same. never-both (p == page) (rw same (same-test page)) apart in
      given-was n old new p (others p other) (still p other) due

  idle_by_fail : (b : ℕ) → is_dirty new (b / 8) ≡ false → is_writing new (b / 8) ≡ false → (t : Bool) → (b / 8 == page) ≡ t →
      (storage_of old).given b ≡ backing_of old b
  idle_by_fail b clean idle true here =
      let same : b / 8 ≡ page = grind (arith, nat_tests, here) in
      let clean' : is_dirty new page ≡ false = ap (λ p. is_dirty new p) (sym same) ∙ clean in
      was.idle b (ap (λ p. is_dirty old p) same ∙ was_clean_fail clean' (is_dirty old page) refl)
      (ap (λ p. is_writing old p) same ∙ idle_here clean' (is_writing old page) refl)
  idle_by_fail b clean idle false apart =
      let other : b / 8 ≢ page = λ same. never-both (b / 8 == page) (rw same (same-test page)) apart in
      was.idle b (was-clean old new (b / 8) (others (b / 8) other) clean) (sym (still (b / 8) other) ∙ idle)

  unkept_by_fail : (b : ℕ) → is_dirty new (b / 8) ≡ false → (t : Bool) → (b / 8 == page) ≡ t →
      All (λ x. x ≡ backing_of old b) ((storage_of old).unkept b)
  unkept_by_fail b clean true here =
      let same : b / 8 ≡ page = grind (arith, nat_tests, here) in
      let clean' : is_dirty new page ≡ false = ap (λ p. is_dirty new p) (sym same) ∙ clean in
      was.unkept b (ap (λ p. is_dirty old p) same ∙ was_clean_fail clean' (is_dirty old page) refl)
  unkept_by_fail b clean false apart =
      let other : b / 8 ≢ page = λ same. never-both (b / 8 == page) (rw same (same-test page)) apart in
      was.unkept b (was-clean old new (b / 8) (others (b / 8) other) clean)

  pub unkept-page : IsFenced n began new
  unkept-page =
      record {
        behind = behind;
        kept = λ p due. ap (λ (x : Progress). x.kept p) same ∙ was.kept p (kept_by_fail p due (p == page) refl);
        given = λ p due. ap (λ (x : Progress). x.given p) same ∙ was.given p (given_by_fail p due (p == page) refl);
        idle = λ b clean idle.
            ap (λ (s : Storage). s.given b) storage ∙ idle_by_fail b clean idle (b / 8 == page) refl ∙ sym (ap (λ (s : Storage). s.kept b) storage);
        unkept = λ b clean.
            unkept-as (unkept_by_fail b clean (b / 8 == page) refl) (ap (λ (s : Storage). s.unkept b) storage)
            (ap (λ (s : Storage). s.kept b) storage);
      }

-- the same where nothing was recorded
unkept-unsaid : (n : ℕ) (began : List BackedStore) (old new : BackedStore) (page : ℕ) → ledger_of new ≡ ledger_of old →
    is_writing new page ≡ false → ((p : ℕ) → p ≢ page → IsOwed old new p) →
    ((p : ℕ) → p ≢ page → is_writing new p ≡ is_writing old p) → (IsTrue (is_dirty old page) → IsTrue (is_dirty new page)) →
    number_of new page ≡ number_of old page → (IsTrue (is_writing old page) → IsTrue (is_dirty new page)) → IsFenced n began old →
    IsFenced n began new
unkept-unsaid n began old new page ledger over others still dirty number unkept was =
    unkept-page n began old new page (subst (λ (l : Ledger). done_by began ≤ length l.dealings) (sym ledger) was.behind)
    (ap (λ (l : Ledger). progress_by n began l) ledger) (same-storage old new ledger) over others still dirty number unkept was

-- The storage was cut off

module _ (n : ℕ) (began : List BackedStore) (old new : BackedStore) (end : ℕ)
    (ledger : ledger_of new ≡ and_then (Dealing.Cut end) (ledger_of old))
    (marked : (p : ℕ) → mark_at new.cache p ≡ (if nat_lt (8 * p) end then mark_at old.cache p else None))
    (given : (b : ℕ) → (storage_of new).given b ≡ cut end (storage_of old).given b)
    (kept : (b : ℕ) → backing_of new b ≡ cut end (backing_of old) b) (was : IsFenced n began old) where
  now_cut : progress_by n began (ledger_of new) ≡ progress_after (Dealing.Cut end) (progress_by n began (ledger_of old))
  now_cut = ap (λ (l : Ledger). progress_by n began l) ledger ∙ progress-more n began (ledger_of old) (Dealing.Cut end) was.behind

  same_mark : (p : ℕ) → nat_le end (8 * p) ≡ false → mark_at new.cache p ≡ mark_at old.cache p
  same_mark p short =
      let test : nat_lt (8 * p) end ≡ true = grind (arith, nat_tests, short) in
      marked p ∙ rw test refl

  kept_by_cut : (p : ℕ) → is_kept_due new n p ≡ false → (t : Bool) → nat_le end (8 * p) ≡ t →
      (nat_le end (8 * p) || (progress_by n began (ledger_of old)).kept p) ≡ true
  kept_by_cut p due true past = rw past refl
  kept_by_cut p due false short =
      let before : is_kept_due old n p ≡ false =
      subst (λ (m : Option Mark). (marks.is_dirty (state_of m) && nat_le (marks.number_of m) n) ≡ false) (same_mark p short) due in
      rw short (was.kept p before)

  given_by_cut : (p : ℕ) → is_given_due new n p ≡ false → (t : Bool) → nat_le end (8 * p) ≡ t →
      (nat_le end (8 * p) || (progress_by n began (ledger_of old)).given p) ≡ true
  given_by_cut p due true past = rw past refl
  given_by_cut p due false short =
      let before : is_given_due old n p ≡ false =
      subst (λ (m : Option Mark). (if marks.is_writing (state_of m) then marks.is_rewritten (state_of m) && nat_le (marks.again_of m) n
      else marks.is_dirty (state_of m) && nat_le (marks.number_of m) n) ≡ false) (same_mark p short) due in
      rw short (was.given p before)

  idle_by_cut : (b : ℕ) → is_dirty new (b / 8) ≡ false → is_writing new (b / 8) ≡ false → (t : Bool) → nat_lt b end ≡ t →
      (storage_of new).given b ≡ backing_of new b
  idle_by_cut b clean idle false past =
      let one : (storage_of new).given b ≡ zero_block = given b ∙ rw past refl in
      let two : backing_of new b ≡ zero_block = kept b ∙ rw past refl in
      one ∙ sym two
  idle_by_cut b clean idle true short =
      let test : nat_le end (8 * (b / 8)) ≡ false = grind (arith, nat_tests, short) in
      let same = same_mark (b / 8) test in
      let clean' : is_dirty old (b / 8) ≡ false = subst (λ (m : Option Mark). marks.is_dirty (state_of m) ≡ false) same clean in
      let idle' : is_writing old (b / 8) ≡ false = subst (λ (m : Option Mark). marks.is_writing (state_of m) ≡ false) same idle in
      given b ∙ rw short refl ∙ was.idle b clean' idle' ∙ sym (kept b ∙ rw short refl)

  storage_cut : storage_of new ≡ dealt (Dealing.Cut end) (storage_of old)
  storage_cut = dealt-by old new (Dealing.Cut end) ledger

  unkept_by_cut : (b : ℕ) → is_dirty new (b / 8) ≡ false → (t : Bool) → nat_lt b end ≡ t →
      All (λ x. x ≡ backing_of new b) ((storage_of new).unkept b)
  unkept_by_cut b clean false past =
      let none : (storage_of new).unkept b ≡ [] = ap (λ (s : Storage). s.unkept b) storage_cut ∙ rw past refl in
      subst (λ l. All (λ x. x ≡ backing_of new b) l) (sym none) (All-nil (λ x. x ≡ backing_of new b))
  unkept_by_cut b clean true short =
      let test : nat_le end (8 * (b / 8)) ≡ false = grind (arith, nat_tests, short) in
      let same = same_mark (b / 8) test in
      let clean' : is_dirty old (b / 8) ≡ false = subst (λ (m : Option Mark). marks.is_dirty (state_of m) ≡ false) same clean in
      unkept-as (was.unkept b clean') (ap (λ (s : Storage). s.unkept b) storage_cut ∙ rw short refl) (kept b ∙ rw short refl)

  pub cut-off : IsFenced n began new
  cut-off =
      record {
        behind = subst (λ (l : Ledger). done_by began ≤ length l.dealings) (sym ledger) (length-more _ (ledger_of old) (Dealing.Cut end) was.behind);
        kept = λ p due. ap (λ (x : Progress). x.kept p) now_cut ∙ kept_by_cut p due (nat_le end (8 * p)) refl;
        given = λ p due. ap (λ (x : Progress). x.given p) now_cut ∙ given_by_cut p due (nat_le end (8 * p)) refl;
        idle = λ b clean idle. idle_by_cut b clean idle (nat_lt b end) refl;
        unkept = λ b clean. unkept_by_cut b clean (nat_lt b end) refl;
      }

-- A flush begins

pub begins-fenced : (n : ℕ) (s : BackedStore) →
    ((b : ℕ) → is_dirty s (b / 8) ≡ false → is_writing s (b / 8) ≡ false → (storage_of s).given b ≡ backing_of s b) →
    ((b : ℕ) → is_dirty s (b / 8) ≡ false → All (λ x. x ≡ backing_of s b) ((storage_of s).unkept b)) →
    IsFenced n (s ∷ []) s
begins-fenced n s idle unkept =
    record {
      behind = omega arith;
      kept = λ p due. ap (λ (x : Progress). x.kept p) none ∙ rw due refl;
      given = λ p due. ap (λ (x : Progress). x.given p) none ∙ rw due refl;
      idle = idle;
      unkept = unkept;
    }
  where
    none : progress_by n (s ∷ []) (ledger_of s) ≡ begun n (s ∷ [])
    none = ap (λ ds. all_progress ds (begun n (s ∷ []))) (drop-length (ledger_of s).dealings)

none-done : (n : ℕ) (s : BackedStore) → progress_by n (s ∷ []) (ledger_of s) ≡ begun n (s ∷ [])
none-done n s = ap (λ ds. all_progress ds (begun n (s ∷ []))) (drop-length (ledger_of s).dealings)

not-false : (x : Bool) → not x ≡ true → x ≡ false
not-false false is = refl
not-false true is = never-both false is refl

clean-at : (s : BackedStore) (p : ℕ) → is_kept_due s (latest_of s) p ≡ false → (t : Bool) → is_dirty s p ≡ t → is_dirty s p ≡ false
clean-at s p due false is = is
clean-at s p due true is =
    let number = s.cache.indexed.numbers p in
    let test : nat_le (number_of s p) (latest_of s) ≡ true = grind (arith, nat_tests, number) in
    let bad : true ≡ false = rw (is, test) at due in
    never-both true refl bad

pub kept-at : (s : BackedStore) (b : ℕ) → (progress_by (latest_of s) (s ∷ []) (ledger_of s)).kept (b / 8) ≡ true →
    backing_of s b ≡ contents s b
kept-at s b is =
    let due = not-false _ (sym (ap (λ (x : Progress). x.kept (b / 8)) (none-done (latest_of s) s)) ∙ is) in
    sym (contents-kept s b (clean-at s (b / 8) due (is_dirty s (b / 8)) refl))

pub unkept-at : (s : BackedStore) (b : ℕ) →
    ((b : ℕ) → is_dirty s (b / 8) ≡ false → All (λ x. x ≡ backing_of s b) ((storage_of s).unkept b)) →
    (progress_by (latest_of s) (s ∷ []) (ledger_of s)).kept (b / 8) ≡ true → All (λ x. x ≡ contents s b) ((storage_of s).unkept b)
unkept-at s b unkept is =
    let due = not-false _ (sym (ap (λ (x : Progress). x.kept (b / 8)) (none-done (latest_of s) s)) ∙ is) in
    let clean = clean-at s (b / 8) due (is_dirty s (b / 8)) refl in
    unkept-as (unkept b clean) refl (contents-kept s b clean)

pub given-at : (s : BackedStore) (b : ℕ) →
    ((b : ℕ) → is_dirty s (b / 8) ≡ false → is_writing s (b / 8) ≡ false → (storage_of s).given b ≡ backing_of s b) →
    (progress_by (latest_of s) (s ∷ []) (ledger_of s)).given (b / 8) ≡ true → (storage_of s).given b ≡ contents s b
given-at s b idle is =
    by_test (is_writing s (b / 8)) refl (not-false _ (sym (ap (λ (x : Progress). x.given (b / 8)) (none-done (latest_of s) s)) ∙ is))
  where
    rewritten : is_writing s (b / 8) ≡ true → is_given_due s (latest_of s) (b / 8) ≡ false → (t : Bool) → is_rewritten s (b / 8) ≡ t →
        is_rewritten s (b / 8) ≡ false
    rewritten writes due false is = is
    rewritten writes due true is =
        let number = s.cache.indexed.again (b / 8) in
        let test : nat_le (again_of s (b / 8)) (latest_of s) ≡ true = grind (arith, nat_tests, number) in
        let bad : true ≡ false = rw (writes, is, test) at due in
        never-both true refl bad

    by_test : (t : Bool) → is_writing s (b / 8) ≡ t → is_given_due s (latest_of s) (b / 8) ≡ false → (storage_of s).given b ≡ contents s b
    by_test true writes due = contents-given s b writes (rewritten writes due (is_rewritten s (b / 8)) refl)
    by_test false unwritten due =
        let due' : is_kept_due s (latest_of s) (b / 8) ≡ false = rw unwritten at due in
        let clean = clean-at s (b / 8) due' (is_dirty s (b / 8)) refl in
        idle b clean unwritten ∙ sym (contents-kept s b clean)

-- A flush is over

kept-paid : (s : BackedStore) (n p : ℕ) → owes s n p ≡ false → (t : Bool) → is_dirty s p ≡ t → is_kept_due s n p ≡ false
kept-paid s n p paid false is = rw is refl
kept-paid s n p paid true is =
    let room : has_room (mark_at s.cache p) ≡ true = s.cache.indexed.dirty p is in
    let later = rw room at paid in
    rw is later

pub kept-over : (n : ℕ) (began : List BackedStore) (s : BackedStore) → IsFenced n began s → IsFlushed s n →
    (p : ℕ) → (progress_by n began (ledger_of s)).kept p ≡ true
kept-over n began s was flushed p = was.kept p (kept-paid s n p (flushed p) (is_dirty s p) refl)

-- The storage has each block as it is

unwritten : (s : BackedStore) (p : ℕ) → owes s (latest_of s) p ≡ false → has_room (mark_at s.cache p) ≡ false
unwritten s p paid = by_test (has_room (mark_at s.cache p)) refl
  where
    by_test : (t : Bool) → has_room (mark_at s.cache p) ≡ t → has_room (mark_at s.cache p) ≡ false
    by_test false is = is
    by_test true is =
        let number = s.cache.indexed.numbers p in
        let test : nat_le (number_of s p) (latest_of s) ≡ true = grind (arith, nat_tests, number) in
        let bad : true ≡ false = rw (is, test) at paid in
        never-both true refl bad

clean-now : (s : BackedStore) → IsFlushed s (latest_of s) → (b : ℕ) → (t : Bool) → is_dirty s (b / 8) ≡ t → is_dirty s (b / 8) ≡ false
clean-now s flushed b false is = is
clean-now s flushed b true is =
    never-both (has_room (mark_at s.cache (b / 8))) (s.cache.indexed.dirty (b / 8) is) (unwritten s (b / 8) (flushed (b / 8)))

pub kept-now : (s : BackedStore) → IsFlushed s (latest_of s) → (b : ℕ) → backing_of s b ≡ contents s b
kept-now s flushed b = sym (contents-kept s b (clean-now s flushed b (is_dirty s (b / 8)) refl))

pub unkept-now : (s : BackedStore) →
    ((b : ℕ) → is_dirty s (b / 8) ≡ false → All (λ x. x ≡ backing_of s b) ((storage_of s).unkept b)) →
    IsFlushed s (latest_of s) → (b : ℕ) → All (λ x. x ≡ contents s b) ((storage_of s).unkept b)
unkept-now s unkept flushed b =
    let clean = clean-now s flushed b (is_dirty s (b / 8)) refl in
    unkept-as (unkept b clean) refl (contents-kept s b clean)

both-true : (x y : Bool) → (x && y) ≡ true → (x ≡ true) × (y ≡ true)
both-true true true is = (refl, refl)
both-true true false is = never-both false is refl
both-true false y is = never-both false is refl

-- The ledger with one thing more, and how far the flush is by that

pub hosted-more : (n : ℕ) (began : List BackedStore) (l m : Ledger) (d : Dealing) → done_by began ≤ length l.dealings →
    m ≡ and_then d l →
    hosted_by n began m ≡ hosted_after d (hosted_by n began l)
hosted-more n began l m d behind is =
    ap (λ (k : Ledger). hosted_by n began k) is
    ∙ ap (λ (x : Progress). hosted_as (and_then d l) x) (progress-more n began l d behind)

-- By what came of a call

pub gave-fenced : (r : Result (Option GivenPage) NoMemory) (n : ℕ) (began : List BackedStore) (old new : BackedStore) → IsFenced n began old →
    IfOk r (λ given. IfSome given (λ g. (is_writing old g.page ≡ false) × IsTrue (is_writing new g.page))) →
    IfOk r (λ given. IfSome given (λ g. (p : ℕ) → p ≢ g.page → is_writing new p ≡ is_writing old p)) →
    IfOk r (λ given. IfNone given ((p : ℕ) → is_writing new p ≡ is_writing old p)) →
    OnErr r ((p : ℕ) → is_writing new p ≡ is_writing old p) →
    IfOk r (λ given. IfSome given (λ g. (b : ℕ) → (storage_of new).given b ≡ with_page g.page (contents old) (storage_of old).given b)) →
    IfOk r (λ given. IfSome given (λ g. ledger_of new ≡ and_then (Dealing.Give g.page g.bytes.items) (ledger_of old))) →
    IfOk r (λ given. IfNone given (ledger_of new ≡ ledger_of old)) →
    OnErr r (ledger_of new ≡ ledger_of old) →
    ((b : ℕ) → backing_of new b ≡ backing_of old b) → ((p : ℕ) → IsOwed old new p) → IsFenced n began new
gave-fenced (Ok (Some g)) n began old new was alone others still unchanged given taken untaken refused kept owed =
    gave n began old new g.page g.bytes.items taken owed (alone.1) others given kept was
gave-fenced (Ok None) n began old new was alone others still unchanged given taken untaken refused kept owed =
    same-ledger n began old new untaken (same-storage old new untaken) owed still was
gave-fenced (Err e) n began old new was alone others still unchanged given taken untaken refused kept owed =
    same-ledger n began old new refused (same-storage old new refused) owed unchanged was

pub gave-hosted : (r : Result (Option GivenPage) NoMemory) (n : ℕ) (began : List BackedStore) (old new : BackedStore) → IsFenced n began old →
    IfOk r (λ given. IfSome given (λ g. ledger_of new ≡ and_then (Dealing.Give g.page g.bytes.items) (ledger_of old))) →
    IfOk r (λ given. IfSome given (λ g. hosted_by n began (ledger_of new)
    ≡ hosted_after (Dealing.Give g.page g.bytes.items) (hosted_by n began (ledger_of old))))
gave-hosted (Ok (Some g)) n began old new was taken = hosted-more n began (ledger_of old) (ledger_of new) (Dealing.Give g.page g.bytes.items) was.behind taken
gave-hosted (Ok None) n began old new was taken = taken
gave-hosted (Err e) n began old new was taken = taken

pub wrote-fenced : (r : Result Bool NoMemory) (kept : Bool) (n : ℕ) (began : List BackedStore) (old new : BackedStore) (page : ℕ) →
    IsFenced n began old →
    ((b : ℕ) → (storage_of new).given b ≡ (storage_of old).given b) →
    OnOk r ((b : ℕ) → backing_of new b
    ≡ (if kept && is_writing old page then with_page page (storage_of old).given (backing_of old) b else backing_of old b)) →
    IfOk r (λ done. done ≡ (kept && is_writing old page)) →
    IfOk r (λ done. ledger_of new ≡ (if done then and_then (Dealing.Keep page) (ledger_of old) else ledger_of old)) →
    OnErr r (ledger_of new ≡ ledger_of old) →
    OnOk r (is_writing new page ≡ false) →
    OnOk r ((p : ℕ) → p ≢ page → is_writing new p ≡ is_writing old p) →
    OnErr r ((p : ℕ) → is_writing new p ≡ is_writing old p) →
    OnOk r (IsTrue kept → IsTrue (is_rewritten old page) → IsTrue (is_dirty new page)) →
    OnOk r (IsTrue kept → IsTrue (is_rewritten old page) → number_of new page ≡ again_of old page) →
    IfOk r (λ done. IsFalse done → IsTrue (is_dirty old page) → IsTrue (is_dirty new page)) →
    IfOk r (λ done. IsFalse done → number_of new page ≡ number_of old page) →
    IfOk r (λ done. IsFalse done → IsTrue (is_writing old page) → IsTrue (is_dirty new page)) →
    OnOk r ((p : ℕ) → p ≢ page → IsOwed old new p) →
    OnErr r ((p : ℕ) → IsOwed old new p) → IsFenced n began new
wrote-fenced (Err e) kept n began old new page was given keeps told storage err over still unchanged again later failed earlier unkept others owed =
    same-ledger n began old new err (same-storage old new err) owed unchanged was
wrote-fenced (Ok true) kept n began old new page was given keeps told storage err over still unchanged again later failed earlier unkept others owed =
    let both = both-true kept (is_writing old page) (sym told) in
    kept-page n began old new page storage both.1 over others still (again both.0) (later both.0) given
    (λ b. keeps b ∙ rw (both.0, both.1) refl) was
wrote-fenced (Ok false) kept n began old new page was given keeps told storage err over still unchanged again later failed earlier unkept others owed =
    unkept-unsaid n began old new page storage over others still (failed refl) (earlier refl) (unkept refl) was

pub denied-fenced : (r : Result Bool NoMemory) (n : ℕ) (began : List BackedStore) (old new : BackedStore) (page : ℕ) → IsFenced n began old →
    IfOk r (λ done. ledger_of new ≡ (if done then and_then (Dealing.Deny page) (ledger_of old) else ledger_of old)) →
    OnErr r (ledger_of new ≡ ledger_of old) → storage_of new ≡ storage_of old →
    OnOk r (is_writing new page ≡ false) →
    OnOk r ((p : ℕ) → p ≢ page → is_writing new p ≡ is_writing old p) →
    OnErr r ((p : ℕ) → is_writing new p ≡ is_writing old p) →
    OnOk r (IsTrue (is_dirty old page) → IsTrue (is_dirty new page)) →
    OnOk r (number_of new page ≡ number_of old page) →
    OnOk r (IsTrue (is_writing old page) → IsTrue (is_dirty new page)) →
    OnOk r ((p : ℕ) → p ≢ page → IsOwed old new p) →
    OnErr r ((p : ℕ) → IsOwed old new p) → IsFenced n began new
denied-fenced (Err e) n began old new page was told err storage over still unchanged dirty earlier unkept others owed =
    same-ledger n began old new err storage owed unchanged was
denied-fenced (Ok true) n began old new page was told err storage over still unchanged dirty earlier unkept others owed =
    unkept-page n began old new page (said-more n began old new (Dealing.Deny page) told was.behind)
    (said-progress n began old new (Dealing.Deny page) told (λ x. refl) was.behind) storage over others still dirty earlier unkept was
denied-fenced (Ok false) n began old new page was told err storage over still unchanged dirty earlier unkept others owed =
    unkept-unsaid n began old new page told over others still dirty earlier unkept was

pub told-hosted : (r : Result Bool NoMemory) (n : ℕ) (began : List BackedStore) (old new : BackedStore) (d : Dealing) → IsFenced n began old →
    IfOk r (λ done. ledger_of new ≡ (if done then and_then d (ledger_of old) else ledger_of old)) →
    IfOk r (λ done. IsTrue done → hosted_by n began (ledger_of new) ≡ hosted_after d (hosted_by n began (ledger_of old)))
told-hosted (Ok true) n began old new d was told = λ _. hosted-more n began (ledger_of old) (ledger_of new) d was.behind told
told-hosted (Ok false) n began old new d was told = λ never. never-both false never refl
told-hosted (Err e) n began old new d was told = told

pub lost-fenced : (r : Bool) (n : ℕ) (began : List BackedStore) (old new : BackedStore) (page : ℕ) → IsFenced n began old →
    (IsTrue r → ledger_of new ≡ and_then (Dealing.Lose page) (ledger_of old)) → (IsFalse r → ledger_of new ≡ ledger_of old) →
    storage_of new ≡ storage_of old → ((p : ℕ) → IsOwed old new p) → ((p : ℕ) → is_writing new p ≡ is_writing old p) → IsFenced n began new
lost-fenced true n began old new page was lost otherwise storage owed writing =
    said n began old new (Dealing.Lose page) (lost refl) (λ x. refl) storage owed writing was
lost-fenced false n began old new page was lost otherwise storage owed writing =
    same-ledger n began old new (otherwise refl) storage owed writing was

pub idle-at-opening : (s : BackedStore) (content : List ℕ) → ledger_of s ≡ record { content = content; dealings = [] } →
    (b : ℕ) → (storage_of s).given b ≡ backing_of s b
idle-at-opening s content is b =
    let same = by-ledger s ∙ ap storage_by is in
    ap (λ (h : Storage). h.given b) same ∙ sym (ap (λ (h : Storage). h.kept b) same)

pub unkept-at-opening : (s : BackedStore) (content : List ℕ) → ledger_of s ≡ record { content = content; dealings = [] } →
    (b : ℕ) → All (λ x. x ≡ backing_of s b) ((storage_of s).unkept b)
unkept-at-opening s content is b =
    let none : (storage_of s).unkept b ≡ [] = ap (λ (h : Storage). h.unkept b) (by-ledger s ∙ ap storage_by is) in
    subst (λ l. All (λ x. x ≡ backing_of s b) l) (sym none) (All-nil (λ x. x ≡ backing_of s b))

pub gave-now : (r : Result (Option GivenPage) NoMemory) (old new : BackedStore) →
    IfOk r (λ given. IfSome given (λ g. (b : ℕ) → (storage_of new).given b ≡ with_page g.page (contents old) (storage_of old).given b)) →
    IfOk r (λ given. IfSome given (λ g. (b : ℕ) → b / 8 ≡ g.page → (storage_by (ledger_of new)).given b ≡ contents old b))
gave-now (Ok (Some g)) old new given = λ b here.
    let test : (b / 8 == g.page) ≡ true = grind (arith, nat_tests, here) in
    ap (λ (h : Storage). h.given b) (sym (by-ledger new)) ∙ given b ∙ rw test refl
gave-now (Ok None) old new given = given
gave-now (Err e) old new given = given

pub loaded-fenced : (r : Result Bool NoMemory) (n : ℕ) (began : List BackedStore) (old new : BackedStore) (page : ℕ) → IsFenced n began old →
    IfOk r (λ done. ledger_of new ≡ (if done then and_then (Dealing.Load page) (ledger_of old) else ledger_of old)) →
    OnErr r (ledger_of new ≡ ledger_of old) → storage_of new ≡ storage_of old → ((p : ℕ) → IsOwed old new p) →
    ((p : ℕ) → is_writing new p ≡ is_writing old p) → IsFenced n began new
loaded-fenced (Ok true) n began old new page was told err storage owed writing =
    said n began old new (Dealing.Load page) told (λ x. refl) storage owed writing was
loaded-fenced (Ok false) n began old new page was told err storage owed writing = same-ledger n began old new told storage owed writing was
loaded-fenced (Err e) n began old new page was told err storage owed writing = same-ledger n began old new err storage owed writing was
