-- What the storage of a unit's disk has of its blocks, since the task of a flush entered.
use Rattle.std.proofs.Common.{◌≡◌, ◌⊎◌, ℕ, zero, suc, ◌-◌, drop, ◌*◌, ◌/◌, ◌%◌, ◌==◌, ◌<◌, ◌≤◌, ◌||◌, nat_le, nat_lt, min, Bool, true, false, inl, inr, List, [], ◌∷◌, All, Contains, length, Option, Some, None, not, is_some, IfSome, IfNone, IfOk, OnErr, IsTrue, IsFalse, Result, Ok, Err, if◌then◌else◌, refl, sym, ◌∙◌, ap, subst, arith}
use Rattle.std.proofs.lemmas.Bool.Decides.{nat_tests}
use Rattle.std.specs.Option.{option_map}
use Rattle.std.proofs.lemmas.List.Elements.{All-nil, All-cons, All-contains}
use Rattle.block_store.specs.Blocks.{Blocks, zero_block}
use Rattle.block_store.specs.Pages.{blocks_in}
use Rattle.block_store.specs.Storage.{Storage, Ledger, Dealing, and_then, dealt, storage_by}
use Rattle.block_store.specs.Progress.{Progress, progress_after}
use Rattle.block_store.specs.Inner.Hosted.{Hosted, hosted_after}
use Rattle.backed_store.specs.Stores as backed
use Rattle.backed_store.specs.Disks as disks
use Rattle.backed_store.specs.Disks.{IsKeptAs, IsBegun, IsOver, IsKeptWhole}
use Rattle.backed_store.specs.declared.disk.Disk.{Disk}
use Rattle.backed_store.specs.declared.disk.Disk.TheVariants.{Whole, Backed}
use Rattle.ring_core.specs.declared.log.Ticket.{Ticket}
use Rattle.unit_model.specs.Tasks.{Entry, same_ticket}
use Rattle.unit_model.specs.Steps.{Step, alive, as_of, done}
use Rattle.unit_model.specs.Seen.{entered_at}
use Rattle.unit_model.specs.Enabling.{enabled}
use Rattle.unit_model.specs.Lawful.{IsReady}
use Rattle.unit_model.proofs.Leaving.{task_ticket}
use Rattle.unit_model.specs.Contents.{Opening, blocks_of, capacity_of}
use Rattle.unit_model.specs.Flushing.{HasBeen, IsDurable, HasBeenBehind, IsThrough}
use Rattle.logical_unit.specs.Inner.Flushes.{HasBeenSince, IsLeftSince, AreSince, EnteredAs, Might, MayBegin, HasBegun, AreFenced, fence_of, without}
use Rattle.logical_unit.proofs.Begun.{StandsAs, might_more, might_now, entered_as}
use Rattle.logical_unit.specs.declared.flushing.Fence.{Fence}
use Rattle.backed_store.specs.declared.dealing.GivenPage.{GivenPage}
use Rattle.foundation.specs.declared.NoMemory.{NoMemory}
use Rattle.unit_model.proofs.Past.{as_of-more, as_of-now, enabled_since}
use Rattle.block_store.proofs.Dealt.{storage_then}
use Rattle.block_store.specs.Storage.{IsLostIn, IsDeniedIn}
use Rattle.cdb.specs.declared.commands.Command.{Command}
use Rattle.command_model.specs.Facts.{Facts}
use Rattle.unit_attention.specs.declared.code.Code.{Code}
use Rattle.unit_model.specs.Seen.{Seen}
use Rattle.task_set.specs.Tasks.{PlainTask}
use Rattle.task_set.specs.Inner.Tasks.{task_at}
use Rattle.logical_unit.specs.Inner.Parts.{AreKept}
use Rattle.logical_unit.specs.Inner.Performing.{PlainPerformed, Comes, RanUnwritten}
use Rattle.logical_unit.proofs.Keeping.{task_at_alive}

-- the ledger of a disk, by that and how far its flush is
pub ledger_hosted : (d : Disk) → option_map (λ (h : Hosted). h.ledger) (disks.hosted_of d) ≡ disks.storage_of d
ledger_hosted (Whole s) = refl
ledger_hosted (Backed s) = refl

pub hosted_ledger : (new old : Disk) → disks.hosted_of new ≡ disks.hosted_of old → disks.storage_of new ≡ disks.storage_of old
hosted_ledger new old same =
    sym (ledger_hosted new) ∙ ap (λ (x : Option Hosted). option_map (λ (h : Hosted). h.ledger) x) same ∙ ledger_hosted old

ledger_after : (d : Dealing) (x : Option Hosted) → option_map (λ (h : Hosted). h.ledger) (option_map (hosted_after d) x)
    ≡ option_map (and_then d) (option_map (λ (h : Hosted). h.ledger) x)
ledger_after d None = refl
ledger_after d (Some h) = refl

pub ledger_then : (d : Dealing) (new old : Disk) → disks.hosted_of new ≡ option_map (hosted_after d) (disks.hosted_of old)
    → disks.storage_of new ≡ option_map (and_then d) (disks.storage_of old)
ledger_then d new old is =
    sym (ledger_hosted new) ∙ ap (λ (x : Option Hosted). option_map (λ (h : Hosted). h.ledger) x) is
    ∙ ledger_after d (disks.hosted_of old) ∙ ap (λ (x : Option Ledger). option_map (and_then d) x) (ledger_hosted old)

-- What has been stays so

pub been_more : (o : Opening) (s : Step) (steps : List Step) (since b : ℕ) (x : List ℕ) → HasBeenSince o steps since b x
    → HasBeenSince o (s ∷ steps) since b x
been_more o s steps since b x was =
    record {
      place = was.place;
      later = was.later;
      past = let below = was.past in omega (arith, below);
      is = was.is ∙ ap (λ w. blocks_of o w b) (sym (as_of-more was.place s steps was.past));
    }

-- it is so now
pub been_now : (o : Opening) (steps : List Step) (since b : ℕ) (x : List ℕ) → since ≤ length steps → x ≡ blocks_of o steps b
    → HasBeenSince o steps since b x
been_now o steps since b x before is =
    record {
      place = length steps;
      later = before;
      past = omega arith;
      is = is ∙ ap (λ w. blocks_of o w b) (sym (as_of-now (length steps) steps (omega arith)));
    }

been_as : {o : Opening} {steps : List Step} {since b : ℕ} {x y : List ℕ} → HasBeenSince o steps since b x → y ≡ x → HasBeenSince o steps since b y
been_as was same = record { place = was.place; later = was.later; past = was.past; is = same ∙ was.is }

-- so of all that the storage may have of a block
left_as : (o : Opening) (steps : List Step) (since b : ℕ) (x y : Storage) → IsLeftSince o steps since x b → y.kept b ≡ x.kept b
    → y.unkept b ≡ x.unkept b → IsLeftSince o steps since y b
left_as o steps since b x y was kept unkept =
    (been_as was.0 kept, subst (λ l. All (HasBeenSince o steps since b) l) (sym unkept) was.1)

left_more : (o : Opening) (s : Step) (steps : List Step) (since b : ℕ) (x : Storage) → IsLeftSince o steps since x b
    → IsLeftSince o (s ∷ steps) since x b
left_more o s steps since b x was = (been_more o s steps since b _ was.0, λ k d lt. been_more o s steps since b _ (was.1 k d lt))

left_now : (o : Opening) (steps : List Step) (b : ℕ) (l : Ledger) (blocks : Blocks) → blocks b ≡ blocks_of o steps b → IsKeptAs l blocks b
    → IsLeftSince o steps (length steps) (storage_by l) b
left_now o steps b l blocks stored is = (
  been_now o steps (length steps) b _ (omega arith) (is.0 ∙ stored),
  λ k d lt. been_now o steps (length steps) b _ (omega arith) (is.1 k d lt ∙ stored),
)

since_more : (o : Opening) (s : Step) (steps : List Step) (since : ℕ) (x : Option Hosted) → AreSince o steps since x
    → AreSince o (s ∷ steps) since x
since_more o s steps since None was = was
since_more o s steps since (Some h) was =
    λ b. (λ is. left_more o s steps since b (storage_by h.ledger) ((was b).0 is), λ is. been_more o s steps since b _ ((was b).1 is))

-- with this storage after one more step
begun_more : (o : Opening) (s : Step) (steps : List Step) (f : Fence) (x y : Option Hosted) (was : HasBegun o steps f x)
    → AreSince o (s ∷ steps) was.since y → HasBegun o (s ∷ steps) f y
begun_more o s steps f x y was has =
    record {
      since = was.since;
      before = (let lt = was.before in omega (arith, lt));
      past = (let le = was.past in omega (arith, le));
      might = λ is. might_more f.place was.since s steps was.before was.past (was.might is);
      ran = λ is. ap (λ w. done f.ticket w) (as_of-more was.since s steps was.past) ∙ was.ran is;
      has = has;
    }

-- with this storage
begun_with : (o : Opening) (steps : List Step) (f : Fence) (x y : Option Hosted) (was : HasBegun o steps f x)
    → AreSince o steps was.since y → HasBegun o steps f y
begun_with o steps f x y was has =
    record { since = was.since; before = was.before; past = was.past; might = was.might; ran = was.ran; has = has }

-- after one more step
pub fenced_more : (o : Opening) (s : Step) (steps steps' : List Step) (f : Option Fence) (x : Option Hosted) → AreFenced o steps f x
    → steps' ≡ s ∷ steps → AreFenced o steps' f x
fenced_more o s steps steps' None x was is = tt
fenced_more o s steps steps' (Some f) x was is =
    subst (λ w. AreFenced o w (Some f) x) (sym is) (begun_more o s steps f x x was (since_more o s steps was.since x was.has))

-- the storage has the same
pub fenced_same : (o : Opening) (steps : List Step) (f : Option Fence) (x y : Option Hosted) → AreFenced o steps f x → y ≡ x
    → AreFenced o steps f y
fenced_same o steps f x y was same = subst (λ z. AreFenced o steps f z) (sym same) was

-- a flush is given up
pub fenced_without : (o : Opening) (steps : List Step) (f : Option Fence) (t : Ticket) (x : Option Hosted) → AreFenced o steps f x
    → AreFenced o steps (without f t) x
fenced_without o steps None t x was = tt
fenced_without o steps (Some f) t x was = by_test (same_ticket f.ticket t)
  where
    by_test : (b : Bool) → AreFenced o steps (if b then None else Some f) x
    by_test true = tt
    by_test false = was

-- A flush begins, and is over

since_now : (o : Opening) (steps : List Step) (d : Disk) → ((b : ℕ) → disks.blocks_of d b ≡ blocks_of o steps b) → IsBegun d
    → AreSince o steps (length steps) (disks.hosted_of d)
since_now o steps (Whole s) stored begun = tt
since_now o steps (Backed s) stored begun = λ b. (
  λ is. left_now o steps b (backed.ledger_of s.store) (disks.blocks_of (Backed s)) (stored b) ((begun b).0 is),
  λ is. been_now o steps (length steps) b _ (omega arith) ((begun b).1 is ∙ stored b),
)

pub begun_now : (o : Opening) (steps : List Step) (f : Fence) (d : Disk) → MayBegin steps f
    → ((b : ℕ) → disks.blocks_of d b ≡ blocks_of o steps b) → IsBegun d → HasBegun o steps f (disks.hosted_of d)
begun_now o steps f d may stored begun =
    record {
      since = length steps;
      before = may.before;
      past = omega arith;
      might = may.might;
      ran = λ is. ap (λ w. done f.ticket w) (as_of-now (length steps) steps (omega arith)) ∙ may.ran is;
      has = since_now o steps d stored begun;
    }

-- of a disk that isn't backed it has all that it waits for
pub begun_whole : (o : Opening) (steps : List Step) (f : Fence) (d : Disk) → MayBegin steps f
    → not (disks.is_backed d) ≡ true → HasBegun o steps f (disks.hosted_of d)
begun_whole o steps f (Whole s) may whole =
    record {
      since = length steps;
      before = may.before;
      past = omega arith;
      might = may.might;
      ran = λ is. ap (λ w. done f.ticket w) (as_of-now (length steps) steps (omega arith)) ∙ may.ran is;
      has = tt;
    }
begun_whole o steps f (Backed s) may never = let no : false ≡ true = never in absurd (cc)

-- whatever is left then is durable
left_been : (o : Opening) (steps : List Step) (e : Entry) (since b : ℕ) (s : Storage) (left : List ℕ) → enabled e (as_of since steps) ≡ true
    → IsLeftSince o steps since s b → (left ≡ s.kept b) ⊎ Contains (s.unkept b) left → HasBeen o steps e b left
left_been o steps e since b s left might was leaves = elim leaves [
  | inl same ↦ been (s.kept b) was.0 same
  | inr is ↦ been left (All-contains (HasBeenSince o steps since b) (s.unkept b) left was.1 is) refl
]
  where
    been : (x : List ℕ) → HasBeenSince o steps since b x → left ≡ x → HasBeen o steps e b left
    been x was same =
        record {
          place = was.place;
          past = was.past;
          might = enabled_since e since was.place steps was.later might;
          is = same ∙ was.is;
        }

pub over_durable : (o : Opening) (steps : List Step) (f : Fence) (e : Entry) (d : Disk) → f.ran ≡ false → EnteredAs e f.place steps
    → HasBegun o steps f (disks.hosted_of d) → IsOver d → IfSome (disks.storage_of d) (λ l. IsDurable o steps l e)
over_durable o steps f e (Whole s) first at was over = tt
over_durable o steps f e (Backed s) first at was over = λ left leaves b named.
    left_been o steps e was.since b (storage_by (backed.ledger_of s.store)) (left b) (was.might first e at) ((was.has b).0 (over (b / 8))) (leaves b)

or_right : (a b : Bool) → b ≡ true → (a || b) ≡ true
or_right true b is = refl
or_right false b is = is

-- what is done stays so
done_more : (t : Ticket) (s : Step) (past : List Step) → done t past ≡ true → done t (s ∷ past) ≡ true
done_more t (Step.Commit u r) past is = or_right (same_ticket u t) (done t past) is
done_more t (Step.Busy u) past is = or_right (same_ticket u t) (done t past) is
done_more t (Step.Enter e) past is = is
done_more t (Step.Full u) past is = is
done_more t (Step.Abort rule) past is = is
done_more t (Step.Reset c) past is = is
done_more t (Step.Resize n) past is = is
done_more t (Step.Leave u) past is = is

done_drop : (t : Ticket) (n m : ℕ) (h : List Step) → m ≤ n → done t (drop n h) ≡ true → done t (drop m h) ≡ true
done_drop t n m [] le is = let none : done t (drop n []) ≡ false = of_none t n in absurd (let no : false ≡ true = sym none ∙ is in cc)
  where
    of_none : (t : Ticket) (n : ℕ) → done t (drop n []) ≡ false
    of_none t zero = refl
    of_none t (suc n) = refl
done_drop t zero zero (s ∷ past) le is = is
done_drop t zero (suc m) (s ∷ past) le is = absurd (omega (arith, le))
done_drop t (suc n) zero (s ∷ past) le is = done_more t s past (done_drop t n zero past (omega arith) is)
done_drop t (suc n) (suc m) (s ∷ past) le is = done_drop t n m past (omega (arith, le)) is

-- whatever is left once the flush behind a command is over has all that it changed
through_been : (o : Opening) (steps : List Step) (t : Ticket) (since b : ℕ) (s : Storage) (left : List ℕ) → done t (as_of since steps) ≡ true
    → IsLeftSince o steps since s b → (left ≡ s.kept b) ⊎ Contains (s.unkept b) left → HasBeenBehind o steps t b left
through_been o steps t since b s left ran was leaves = elim leaves [
  | inl same ↦ been (s.kept b) was.0 same
  | inr is ↦ been left (All-contains (HasBeenSince o steps since b) (s.unkept b) left was.1 is) refl
]
  where
    been : (x : List ℕ) → HasBeenSince o steps since b x → left ≡ x → HasBeenBehind o steps t b left
    been x was same =
        record {
          place = was.place;
          past = was.past;
          ran = (let later = was.later in done_drop t (length steps - since) (length steps - was.place) steps (omega (arith, later)) ran);
          is = same ∙ was.is;
        }

pub over_through : (o : Opening) (steps : List Step) (f : Fence) (d : Disk) → f.ran ≡ true → HasBegun o steps f (disks.hosted_of d) → IsOver d
    → IfSome (disks.storage_of d) (λ l. IsThrough o steps l f.ticket)
over_through o steps f (Whole s) behind was over = tt
over_through o steps f (Backed s) behind was over = λ left leaves b.
    through_been o steps f.ticket was.since b (storage_by (backed.ledger_of s.store)) (left b) (was.ran behind) ((was.has b).0 (over (b / 8))) (leaves b)

pub kept_durable : (o : Opening) (steps : List Step) (e : Entry) (d : Disk) → enabled e steps ≡ true
    → ((b : ℕ) → disks.blocks_of d b ≡ blocks_of o steps b) → IsKeptWhole d → IfSome (disks.storage_of d) (λ l. IsDurable o steps l e)
kept_durable o steps e (Whole s) might stored kept = tt
kept_durable o steps e (Backed s) might stored kept = λ left leaves b named.
    left_been o steps e (length steps) b (storage_by (backed.ledger_of s.store)) (left b) (ap (λ w. enabled e w) (as_of-now (length steps) steps (omega arith)) ∙ might)
    (left_now o steps b (backed.ledger_of s.store) (disks.blocks_of (Backed s)) (stored b) (kept b)) (leaves b)

-- The host says something

-- that isn't about what it was given
pub said_fenced : (o : Opening) (steps : List Step) (f : Option Fence) (d : Dealing) (x : Option Hosted)
    → ((s : Storage) → dealt d s ≡ s) → ((p : Progress) → progress_after d p ≡ p)
    → AreFenced o steps f x → AreFenced o steps f (option_map (hosted_after d) x)
said_fenced o steps None d x same still was = tt
said_fenced o steps (Some f) d None same still was = was
said_fenced o steps (Some f) d (Some h) same still was = begun_with o steps f (Some h) (Some (hosted_after d h)) was (
    λ b. (
      λ is. left_as o steps was.since b (storage_by h.ledger) (storage_by (and_then d h.ledger)) ((was.has b).0 (ap (λ (p : Progress). p.kept (b / 8)) (sym (still h.progress)) ∙ is))
          (ap (λ (s : Storage). s.kept b) (storage_then d h.ledger ∙ same (storage_by h.ledger)))
          (ap (λ (s : Storage). s.unkept b) (storage_then d h.ledger ∙ same (storage_by h.ledger))),
      λ is. been_as ((was.has b).1 (ap (λ (p : Progress). p.given (b / 8)) (sym (still h.progress)) ∙ is)) (ap (λ (s : Storage). s.given b) (storage_then d h.ledger ∙ same (storage_by h.ledger))),
    )
    )

-- it takes a page
pub gave_fenced : (o : Opening) (steps : List Step) (f : Option Fence) (page : ℕ) (bytes : List ℕ) (x : Option Hosted)
    → IfSome (option_map (and_then (Dealing.Give page bytes)) (option_map (λ (h : Hosted). h.ledger) x)) (λ l. (b : ℕ) → b / 8 ≡ page → (storage_by l).given b ≡ blocks_of o steps b)
    → AreFenced o steps f x → AreFenced o steps f (option_map (hosted_after (Dealing.Give page bytes)) x)
gave_fenced o steps None page bytes x now was = tt
gave_fenced o steps (Some f) page bytes None now was = was
gave_fenced o steps (Some f) page bytes (Some h) now was =
    begun_with o steps f (Some h) (Some (hosted_after (Dealing.Give page bytes) h)) was
    (λ b. (λ is. left_of b is (b / 8 == page) refl, λ is. by_test b (b / 8 == page) refl is))
  where
    after : storage_by (and_then (Dealing.Give page bytes) h.ledger) ≡ dealt (Dealing.Give page bytes) (storage_by h.ledger)
    after = storage_then (Dealing.Give page bytes) h.ledger

    left_of : (b : ℕ) → h.progress.kept (b / 8) ≡ true → (t : Bool) → (b / 8 == page) ≡ t
        → IsLeftSince o steps was.since (storage_by (and_then (Dealing.Give page bytes) h.ledger)) b
    left_of b is true here =
        let given : (storage_by (and_then (Dealing.Give page bytes) h.ledger)).given b ≡ blocks_in bytes (b % 8) =
        ap (λ (s : Storage). s.given b) after ∙ rw here refl in
        let unkept : (storage_by (and_then (Dealing.Give page bytes) h.ledger)).unkept b ≡ blocks_in bytes (b % 8) ∷ (storage_by h.ledger).unkept b =
        ap (λ (s : Storage). s.unkept b) after ∙ rw here refl in
        let more = All-cons (HasBeenSince o steps was.since b) (blocks_in bytes (b % 8)) ((storage_by h.ledger).unkept b)
        (been_now o steps was.since b _ was.past (sym given ∙ now b (grind (arith, nat_tests, here)))) ((was.has b).0 is).1 in (
          been_as ((was.has b).0 is).0 (ap (λ (s : Storage). s.kept b) after),
          subst (λ l. All (HasBeenSince o steps was.since b) l) (sym unkept) more,
        )
    left_of b is false apart =
        left_as o steps was.since b (storage_by h.ledger) (storage_by (and_then (Dealing.Give page bytes) h.ledger)) ((was.has b).0 is)
        (ap (λ (s : Storage). s.kept b) after) (ap (λ (s : Storage). s.unkept b) after ∙ rw apart refl)

    by_test : (b : ℕ) (t : Bool) → (b / 8 == page) ≡ t → (b / 8 == page || h.progress.given (b / 8)) ≡ true
        → HasBeenSince o steps was.since b ((storage_by (and_then (Dealing.Give page bytes) h.ledger)).given b)
    by_test b true here is = been_now o steps was.since b _ was.past (now b (grind (arith, nat_tests, here)))
    by_test b false apart is =
        been_as ((was.has b).1 (rw apart at is)) (ap (λ (s : Storage). s.given b) (storage_then (Dealing.Give page bytes) h.ledger) ∙ rw apart refl)

-- it has written a page
pub kept_fenced : (o : Opening) (steps : List Step) (f : Option Fence) (page : ℕ) (x : Option Hosted)
    → AreFenced o steps f x → AreFenced o steps f (option_map (hosted_after (Dealing.Keep page)) x)
kept_fenced o steps None page x was = tt
kept_fenced o steps (Some f) page None was = was
kept_fenced o steps (Some f) page (Some h) was =
    begun_with o steps f (Some h) (Some (hosted_after (Dealing.Keep page) h)) was
    (λ b. (λ is. by_test b (b / 8 == page) refl is, λ is. been_as ((was.has b).1 is) (ap (λ (s : Storage). s.given b) after)))
  where
    after : storage_by (and_then (Dealing.Keep page) h.ledger) ≡ dealt (Dealing.Keep page) (storage_by h.ledger)
    after = storage_then (Dealing.Keep page) h.ledger

    by_test : (b : ℕ) (t : Bool) → (b / 8 == page) ≡ t → (if b / 8 == page then h.progress.given (b / 8) else h.progress.kept (b / 8)) ≡ true
        → IsLeftSince o steps was.since (storage_by (and_then (Dealing.Keep page) h.ledger)) b
    by_test b true here is =
        let none : (storage_by (and_then (Dealing.Keep page) h.ledger)).unkept b ≡ [] = ap (λ (s : Storage). s.unkept b) after ∙ rw here refl in (
          been_as ((was.has b).1 (rw here at is)) (ap (λ (s : Storage). s.kept b) after ∙ rw here refl),
          subst (λ l. All (HasBeenSince o steps was.since b) l) (sym none) (All-nil (HasBeenSince o steps was.since b)),
        )
    by_test b false apart is =
        left_as o steps was.since b (storage_by h.ledger) (storage_by (and_then (Dealing.Keep page) h.ledger)) ((was.has b).0 (rw apart at is))
        (ap (λ (s : Storage). s.kept b) after ∙ rw apart refl)
        (ap (λ (s : Storage). s.unkept b) after ∙ rw apart refl)

-- it is resized
pub cut_fenced : (o : Opening) (steps steps' : List Step) (f : Option Fence) (blocks : ℕ) (x : Option Hosted)
    → steps' ≡ Step.Resize blocks ∷ steps
    → AreFenced o steps f x
    → AreFenced o steps' f (option_map (hosted_after (Dealing.Cut (min (capacity_of o steps) blocks))) x)
cut_fenced o steps steps' None blocks x is was = tt
cut_fenced o steps steps' (Some f) blocks None is was =
    subst (λ w. AreFenced o w (Some f) None) (sym is) (begun_more o (Step.Resize blocks) steps f None None was tt)
cut_fenced o steps steps' (Some f) blocks (Some h) is was =
    subst (λ w. AreFenced o w (Some f) (Some (hosted_after (Dealing.Cut end) h))) (sym is)
    (begun_more o (Step.Resize blocks) steps f (Some h) (Some (hosted_after (Dealing.Cut end) h)) was
    (λ b. (λ so. kept_at b (nat_lt b end) refl so, λ so. given_at b (nat_lt b end) refl so)))
  where
    end : ℕ
    end = min (capacity_of o steps) blocks

    below : was.since ≤ length (Step.Resize blocks ∷ steps)
    below = let before = was.past in omega (arith, before)

    zero_now : (b : ℕ) (y : List ℕ) → nat_lt b end ≡ false → y ≡ zero_block → HasBeenSince o (Step.Resize blocks ∷ steps) was.since b y
    zero_now b y past is = been_now o (Step.Resize blocks ∷ steps) was.since b y below (is ∙ sym (rw past refl))

    inside : (b : ℕ) (t : Bool) → nat_lt b end ≡ true → (nat_le end (8 * (b / 8)) || t) ≡ true → t ≡ true
    inside b t short is =
        let test : nat_le end (8 * (b / 8)) ≡ false = grind (arith, nat_tests, short) in
        rw test at is

    after : storage_by (and_then (Dealing.Cut end) h.ledger) ≡ dealt (Dealing.Cut end) (storage_by h.ledger)
    after = storage_then (Dealing.Cut end) h.ledger

    kept_at : (b : ℕ) (t : Bool) → nat_lt b end ≡ t → (nat_le end (8 * (b / 8)) || h.progress.kept (b / 8)) ≡ true
        → IsLeftSince o (Step.Resize blocks ∷ steps) was.since (storage_by (and_then (Dealing.Cut end) h.ledger)) b
    kept_at b true short is =
        left_as o (Step.Resize blocks ∷ steps) was.since b (storage_by h.ledger) (storage_by (and_then (Dealing.Cut end) h.ledger))
        (left_more o (Step.Resize blocks) steps was.since b (storage_by h.ledger) ((was.has b).0 (inside b _ short is)))
        (ap (λ (s : Storage). s.kept b) after ∙ rw short refl) (ap (λ (s : Storage). s.unkept b) after ∙ rw short refl)
    kept_at b false past is =
        let none : (storage_by (and_then (Dealing.Cut end) h.ledger)).unkept b ≡ [] = ap (λ (s : Storage). s.unkept b) after ∙ rw past refl in (
          zero_now b _ past (ap (λ (s : Storage). s.kept b) after ∙ rw past refl),
          subst (λ l. All (HasBeenSince o (Step.Resize blocks ∷ steps) was.since b) l) (sym none)
              (All-nil (HasBeenSince o (Step.Resize blocks ∷ steps) was.since b)),
        )

    given_at : (b : ℕ) (t : Bool) → nat_lt b end ≡ t → (nat_le end (8 * (b / 8)) || h.progress.given (b / 8)) ≡ true
        → HasBeenSince o (Step.Resize blocks ∷ steps) was.since b ((storage_by (and_then (Dealing.Cut end) h.ledger)).given b)
    given_at b true short is =
        been_as (been_more o (Step.Resize blocks) steps was.since b _ ((was.has b).1 (inside b _ short is)))
        (ap (λ (s : Storage). s.given b) (storage_then (Dealing.Cut end) h.ledger) ∙ rw short refl)
    given_at b false past is = zero_now b _ past (ap (λ (s : Storage). s.given b) (storage_then (Dealing.Cut end) h.ledger) ∙ rw past refl)

-- A unit's parts, on a disk with the same blocks

pub kept_on : (o : Opening) (past : List Step) (block_at block_at' : Blocks) (pending : List Code) (tasks : List PlainTask)
    (last_tickets : List (Option ℕ)) (room : ℕ) → AreKept o past block_at pending tasks last_tickets room → block_at' ≡ block_at
    → AreKept o past block_at' pending tasks last_tickets room
kept_on o past block_at block_at' pending tasks last_tickets room k same =
    subst (λ f. AreKept o past f pending tasks last_tickets room) (sym same) k

-- the place of a task that is alive is that of its Enter
pub task_place : {o : Opening} {past : List Step} {block_at : Blocks} {pending : List Code} {tasks : List PlainTask}
    {last_tickets : List (Option ℕ)} {room : ℕ} (k : AreKept o past block_at pending tasks last_tickets room)
    (t : Ticket) (x : PlainTask) → task_at t tasks ≡ Some x → x.seen.place ≡ entered_at x.seen.entry.ticket past
task_place k t x at = ap (λ (s : Seen). s.place) (task_at_alive k t x at).1

-- it stands there, and its flush may begin where it may run
pub stands_at : {o : Opening} {past : List Step} {block_at : Blocks} {pending : List Code} {tasks : List PlainTask}
    {last_tickets : List (Option ℕ)} {room : ℕ} (k : AreKept o past block_at pending tasks last_tickets room)
    (t : Ticket) (x : PlainTask) (place : ℕ) → task_at t tasks ≡ Some x → place ≡ x.seen.place → StandsAs x.seen.entry place past
stands_at {o} {past} k t x place at is =
    let there = (task_at_alive k t x at).0 in
    subst (λ n. StandsAs x.seen.entry n past)
    (ap (λ u. entered_at u past) (task_ticket t (alive past) x.seen.entry there) ∙ sym (task_place k t x at) ∙ sym is)
    (entered_as o t x.seen.entry past k.lawful there)

pub may_begin : {o : Opening} {past : List Step} {block_at : Blocks} {pending : List Code} {tasks : List PlainTask}
    {last_tickets : List (Option ℕ)} {room : ℕ} (k : AreKept o past block_at pending tasks last_tickets room)
    (t : Ticket) (x : PlainTask) (place : ℕ) → task_at t tasks ≡ Some x → place ≡ x.seen.place → IsReady t x.seen.entry past
    → MayBegin past (fence_of t place false)
may_begin {o} {past} k t x place at is ready =
    let stands = stands_at k t x place at is in
    record {
      before = stands.before;
      might = λ first. might_now x.seen.entry place past stands.entered ready.is_enabled;
      ran = λ never. let no : false ≡ true = never in absurd (cc);
    }

-- the flush behind its command, once that ran
pub may_follow : {o : Opening} {past : List Step} {block_at : Blocks} {pending : List Code} {tasks : List PlainTask}
    {last_tickets : List (Option ℕ)} {room : ℕ} (k : AreKept o past block_at pending tasks last_tickets room)
    (t : Ticket) (x : PlainTask) (place : ℕ) → task_at t tasks ≡ Some x → place ≡ x.seen.place → done t past ≡ true
    → MayBegin past (fence_of t place true)
may_follow {o} {past} k t x place at is ran =
    record {
      before = (stands_at k t x place at is).before;
      might = λ never. let no : true ≡ false = never in absurd (cc);
      ran = λ behind. ran;
    }

pub came_on : (keeps : Bool) (facts : Facts) (storage storage' : Option Ledger) (command : Command) (bytes : List ℕ) (p : Option PlainPerformed)
    (blocks blocks' : Blocks) (pending pending' : List Code) → storage' ≡ storage
    → Comes keeps facts (IsLostIn storage') command bytes p blocks blocks' pending pending'
    → Comes keeps facts (IsLostIn storage) command bytes p blocks blocks' pending pending'
came_on keeps facts storage storage' command bytes p blocks blocks' pending pending' same ran =
    subst (λ x. Comes keeps facts (IsLostIn x) command bytes p blocks blocks' pending pending') same ran

pub unwritten_on : (keeps : Bool) (facts : Facts) (asks_medium : Bool) (storage storage' : Option Ledger) (command : Command) (p : PlainPerformed)
    (blocks blocks' : Blocks) (pending pending' : List Code) → storage' ≡ storage
    → RanUnwritten keeps facts asks_medium (IsDeniedIn storage') command p blocks blocks' pending pending'
    → RanUnwritten keeps facts asks_medium (IsDeniedIn storage) command p blocks blocks' pending pending'
unwritten_on keeps facts asks_medium storage storage' command p blocks blocks' pending pending' same ran =
    subst (λ x. RanUnwritten keeps facts asks_medium (IsDeniedIn x) command p blocks blocks' pending pending') same ran

pub backed_on : (storage storage' : Option Ledger) → storage' ≡ storage → is_some storage' ≡ true → is_some storage ≡ true
backed_on storage storage' same is = ap (λ x. is_some x) (sym same) ∙ is

pub kept_each : (o : Opening) (past : List Step) (block_at block_at' : Blocks) (pending : List Code) (tasks : List PlainTask)
    (last_tickets : List (Option ℕ)) (room : ℕ) → AreKept o past block_at pending tasks last_tickets room
    → ((b : ℕ) → block_at' b ≡ block_at b) → AreKept o past block_at' pending tasks last_tickets room
kept_each o past block_at block_at' pending tasks last_tickets room k same =
    record {
      lawful = k.lawful;
      stored = λ b. same b ∙ k.stored b;
      pends = k.pends;
      set = k.set;
      fit = k.fit;
      floors = k.floors;
      reserved = k.reserved;
    }

-- By what came of a call

now_by : (page : ℕ) (bytes : List ℕ) (o : Opening) (steps : List Step) (new old : Disk)
    → ((b : ℕ) → disks.blocks_of old b ≡ blocks_of o steps b)
    → disks.hosted_of new ≡ option_map (hosted_after (Dealing.Give page bytes)) (disks.hosted_of old)
    → IfSome (disks.storage_of new) (λ l. (b : ℕ) → b / 8 ≡ page → (storage_by l).given b ≡ disks.blocks_of old b)
    → IfSome (option_map (and_then (Dealing.Give page bytes)) (option_map (λ (h : Hosted). h.ledger) (disks.hosted_of old)))
    (λ l. (b : ℕ) → b / 8 ≡ page → (storage_by l).given b ≡ blocks_of o steps b)
now_by page bytes o steps new old stored is now =
    by_ledger (disks.storage_of new) _
    (ledger_then (Dealing.Give page bytes) new old is ∙ ap (λ (x : Option Ledger). option_map (and_then (Dealing.Give page bytes)) x) (sym (ledger_hosted old))) now
  where
    by_ledger : (x y : Option Ledger) → x ≡ y → IfSome x (λ l. (b : ℕ) → b / 8 ≡ page → (storage_by l).given b ≡ disks.blocks_of old b)
        → IfSome y (λ l. (b : ℕ) → b / 8 ≡ page → (storage_by l).given b ≡ blocks_of o steps b)
    by_ledger x None same now = tt
    by_ledger x (Some l) same now = λ b here.
        subst (λ (z : Option Ledger). IfSome z (λ l. (b : ℕ) → b / 8 ≡ page → (storage_by l).given b ≡ disks.blocks_of old b)) same now b here ∙ stored b

pub gave_by : (o : Opening) (steps : List Step) (f : Option Fence) (r : Result (Option GivenPage) NoMemory) (new old : Disk)
    → ((b : ℕ) → disks.blocks_of old b ≡ blocks_of o steps b)
    → IfOk r (λ given. IfSome given (λ g. disks.hosted_of new ≡ option_map (hosted_after (Dealing.Give g.page g.bytes.items)) (disks.hosted_of old)))
    → IfOk r (λ given. IfSome given (λ g. IfSome (disks.storage_of new) (λ l. (b : ℕ) → b / 8 ≡ g.page → (storage_by l).given b ≡ disks.blocks_of old b)))
    → IfOk r (λ given. IfNone given (disks.hosted_of new ≡ disks.hosted_of old)) → OnErr r (disks.hosted_of new ≡ disks.hosted_of old)
    → AreFenced o steps f (disks.hosted_of old) → AreFenced o steps f (disks.hosted_of new)
gave_by o steps f (Ok (Some g)) new old stored given now none err was =
    fenced_same o steps f _ (disks.hosted_of new)
    (gave_fenced o steps f g.page g.bytes.items (disks.hosted_of old) (now_by g.page g.bytes.items o steps new old stored given now) was) given
gave_by o steps f (Ok None) new old stored given now none err was = fenced_same o steps f (disks.hosted_of old) (disks.hosted_of new) was none
gave_by o steps f (Err e) new old stored given now none err was = fenced_same o steps f (disks.hosted_of old) (disks.hosted_of new) was err

pub lost_by : (o : Opening) (steps : List Step) (f : Option Fence) (r : Bool) (page : ℕ) (new old : Disk)
    → (IsTrue r → disks.hosted_of new ≡ option_map (hosted_after (Dealing.Lose page)) (disks.hosted_of old))
    → (IsFalse r → disks.hosted_of new ≡ disks.hosted_of old)
    → AreFenced o steps f (disks.hosted_of old) → AreFenced o steps f (disks.hosted_of new)
lost_by o steps f true page new old lost otherwise was =
    fenced_same o steps f _ (disks.hosted_of new)
    (said_fenced o steps f (Dealing.Lose page) (disks.hosted_of old) (λ s. refl) (λ p. refl) was) (lost refl)
lost_by o steps f false page new old lost otherwise was =
    fenced_same o steps f (disks.hosted_of old) (disks.hosted_of new) was (otherwise refl)

pub wrote_by : (o : Opening) (steps : List Step) (f : Option Fence) (r : Result Bool NoMemory) (page : ℕ) (new old : Disk)
    → IfOk r (λ done. IsTrue done → disks.hosted_of new ≡ option_map (hosted_after (Dealing.Keep page)) (disks.hosted_of old))
    → IfOk r (λ done. IsFalse done → disks.hosted_of new ≡ disks.hosted_of old) → OnErr r (disks.hosted_of new ≡ disks.hosted_of old)
    → AreFenced o steps f (disks.hosted_of old) → AreFenced o steps f (disks.hosted_of new)
wrote_by o steps f (Ok true) page new old kept otherwise err was =
    fenced_same o steps f _ (disks.hosted_of new) (kept_fenced o steps f page (disks.hosted_of old) was) (kept refl)
wrote_by o steps f (Ok false) page new old kept otherwise err was =
    fenced_same o steps f (disks.hosted_of old) (disks.hosted_of new) was (otherwise refl)
wrote_by o steps f (Err e) page new old kept otherwise err was = fenced_same o steps f (disks.hosted_of old) (disks.hosted_of new) was err

pub said_by : (o : Opening) (steps : List Step) (f : Option Fence) (r : Result Bool NoMemory) (d : Dealing) (new old : Disk)
    → ((s : Storage) → dealt d s ≡ s) → ((p : Progress) → progress_after d p ≡ p)
    → IfOk r (λ done. IsTrue done → disks.hosted_of new ≡ option_map (hosted_after d) (disks.hosted_of old))
    → IfOk r (λ done. IsFalse done → disks.hosted_of new ≡ disks.hosted_of old) → OnErr r (disks.hosted_of new ≡ disks.hosted_of old)
    → AreFenced o steps f (disks.hosted_of old) → AreFenced o steps f (disks.hosted_of new)
said_by o steps f (Ok true) d new old same still said otherwise err was =
    fenced_same o steps f _ (disks.hosted_of new) (said_fenced o steps f d (disks.hosted_of old) same still was) (said refl)
said_by o steps f (Ok false) d new old same still said otherwise err was =
    fenced_same o steps f (disks.hosted_of old) (disks.hosted_of new) was (otherwise refl)
said_by o steps f (Err e) d new old same still said otherwise err was = fenced_same o steps f (disks.hosted_of old) (disks.hosted_of new) was err
