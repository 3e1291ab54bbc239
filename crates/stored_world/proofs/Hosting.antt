-- The storages of a device's disks, as the device goes on.
use Rattle.std.proofs.Common.{◌≡◌, ℕ, ◌<◌, ◌/◌, ◌%◌, ◌==◌, Bool, true, false, nat_lt, min, List, [], ◌∷◌, if◌then◌else◌, Option, Some, None, IfSome, IfNone, IfOk, OnErr, IsTrue, IsFalse, Result, Ok, Err, zero, suc, length, ◌*◌, ◌+◌, ◌≤◌, refl, sym, ◌∙◌, ap, subst, inl, inr}
use Rattle.std.specs.Prelude.{slice_get, option_map, ◌⊎◌}
use Rattle.std.proofs.lemmas.Bool.Decides.{nat_tests}
use native.Mathlib.Omega.{arith}
use Rattle.foundation.specs.declared.NoMemory.{NoMemory}
use Rattle.std.proofs.Math.ListN.{set}
use Rattle.block_store.specs.Blocks.{Blocks, zero_block}
use Rattle.block_store.specs.Pages.{blocks_in}
use Rattle.block_store.specs.Storage as plain
use Rattle.block_store.specs.Storage.{Storage, Ledger, Dealing, IsPageOf, dealt, storage_by, with_page, cut, and_then}
use Rattle.block_store.proofs.Dealt.{storage_then}
use Rattle.host_storage.specs.Inner.Storage.{given_blocks, kept_blocks}
use Rattle.host_storage.specs.declared.storage.Storage as host
use Rattle.unit_model.specs.Steps.{Step}
use Rattle.unit_model.specs.Contents.{capacity_of}
use Rattle.unit_model.specs.Unit.{PlainUnit, after as stepped, dealing}
use Rattle.device_model.specs.World.{PlainWorld, change}
use Rattle.device_model.specs.Events.{Event}
use Rattle.device_model.specs.Transitions.{Transition, event_of, action_of}
use Rattle.device_model.specs.After.{after}
use Rattle.device_model.specs.Happens.{Happens}
use Rattle.device_model.specs.Turns.{Turns, IsStep}
use Rattle.device_model.proofs.Lists.{at_other, nothing, same}
use Rattle.backed_store.specs.declared.dealing.GivenPage.{GivenPage}
use Rattle.device_steps.specs.Paging.{IsKeptPage}
use Rattle.world.specs.Steps.{Steps}
use Rattle.world.specs.Paging.{DealsAsPromised}
use Rattle.stored_world.specs.Keeping.{HasDiskOf, KeepsDisks}
use Rattle.stored_world.specs.Inner.Stored.{IsStorageBy, IsHosted, AreHosted}
use Rattle.stored_world.specs.declared.hosted.HostedDisk.{HostedDisk}

-- a unit with the same disk
pub hosted_same : (u v : PlainUnit) (h : HostedDisk) → HasDiskOf u v → IsHosted u h → IsHosted v h
hosted_same u v h alike is =
    record {
      storage = λ l at. is.storage l (sym alike.storage ∙ at);
      capacity = is.capacity ∙ sym alike.capacity;
    }

pub hosted_on : (w w' : PlainWorld) (hs : List (Option HostedDisk)) → KeepsDisks w w' → AreHosted w.units hs → AreHosted w'.units hs
hosted_on w w' hs keeps are k v h at there =
    let was = keeps k v at in
    hosted_same was.0 v h was.2 (are k was.0 h was.1 there)

-- an item of a list of which one was set
set_at : {X : Type 0} (xs : List X) (i j : ℕ) (x y : X) → slice_get (set xs i x) j ≡ Some y → ((j ≡ i) × (y ≡ x)) ⊎ (slice_get xs j ≡ Some y)
set_at [] i j x y e = inr e
set_at (z ∷ xs) zero zero x y e = inl (refl, sym (same e))
set_at (z ∷ xs) zero (suc j) x y e = inr e
set_at (z ∷ xs) (suc i) zero x y e = inr e
set_at (z ∷ xs) (suc i) (suc j) x y e = elim (set_at xs i j x y e) [ inl h ↦ inl (ap (λ n. suc n) h.0, h.1) | inr h ↦ inr h ]

-- one storage is put, or taken out
pub hosted_set : (us : List PlainUnit) (hs : List (Option HostedDisk)) (unit_index : ℕ) (o : Option HostedDisk)
    → ((h : HostedDisk) → o ≡ Some h → (u : PlainUnit) → slice_get us unit_index ≡ Some u → IsHosted u h) → AreHosted us hs → AreHosted us (set hs unit_index o)
hosted_set us hs unit_index o puts are k u h at there =
    elim (set_at hs unit_index k o (Some h) there) [
      | inl here ↦ puts h (sym here.1) u (subst (λ i. slice_get us i ≡ Some u) here.0 at)
      | inr was ↦ are k u h at was
    ]

-- what was set at an index in the list stands there
pub gone_at : (hs : List (Option HostedDisk)) (unit_index : ℕ) (h : HostedDisk) → unit_index < length hs → slice_get (set hs unit_index None) unit_index ≡ Some (Some h) → ⊥
gone_at [] unit_index h within e = absurd (let w = within in omega (arith, w))
gone_at (z ∷ hs) zero h within e = nothing (same e)
gone_at (z ∷ hs) (suc i) h within e = gone_at hs i h (let w = within in omega (arith, w)) e

pub none_at : (hs : List (Option HostedDisk)) (unit_index : ℕ) (h : HostedDisk) → length hs ≤ unit_index → slice_get hs unit_index ≡ Some (Some h) → ⊥
none_at [] unit_index h behind e = nothing e
none_at (z ∷ hs) zero h behind e = absurd (let w = behind in omega (arith, w))
none_at (z ∷ hs) (suc i) h behind e = none_at hs i h (let w = behind in omega (arith, w)) e

pub on_some : {X : Type 0} (o : Option X) (P : X → Type 0) → ((x : X) → o ≡ Some x → P x) → IfSome o P
on_some None P f = tt
on_some (Some x) P f = f x refl

pub if_some_is : {X : Type 0} (o : Option X) (P : X → Type 0) (x : X) → o ≡ Some x → IfSome o P → P x
if_some_is None P x e p = absurd (nothing e)
if_some_is (Some y) P x e p = subst P (same e) p

pub if_none_is : {X : Type 0} (o : Option X) (P : Type 0) → o ≡ None → IfNone o P → P
if_none_is None P e p = p
if_none_is (Some y) P e p = absurd (nothing (sym e))

-- what the host's storage keeps of a page of a unit
pub page_kept : (us : List PlainUnit) (hs : List (Option HostedDisk)) (unit_index page : ℕ) (h : HostedDisk) (bytes : List ℕ) → AreHosted us hs
    → slice_get hs unit_index ≡ Some (Some h) → IsPageOf (kept_blocks h.storage) page bytes → IsKeptPage us unit_index page bytes
page_kept us hs unit_index page h bytes are there is u at =
    on_some u.storage (λ s. IsPageOf (storage_by s).kept page bytes)
    (λ l has k below. is k below ∙ ((are unit_index u h at there).storage l has).kept (8 * page + k))

-- units of which one changed, whose disk has no storage here
pub hosted_beside : (g : PlainUnit → PlainUnit) (unit_index : ℕ) (us : List PlainUnit) (hs : List (Option HostedDisk))
    → ((h : HostedDisk) → slice_get hs unit_index ≡ Some (Some h) → ⊥) → AreHosted us hs → AreHosted (change g unit_index us) hs
hosted_beside g unit_index us hs gone are k v h at there =
    let o = at_other g unit_index us k v at in
    elim o.2 [
      | inl here ↦ absurd (gone h (subst (λ i. slice_get hs i ≡ Some (Some h)) here.0 there))
      | inr beside ↦ subst (λ x. IsHosted x h) (sym beside.1) (are k o.0 h o.1 there)
    ]

-- the one that changed
pub hosted_there : (g : PlainUnit → PlainUnit) (unit_index : ℕ) (us : List PlainUnit) (h h' : HostedDisk)
    → ((u : PlainUnit) → slice_get us unit_index ≡ Some u → IsHosted u h) → ((u : PlainUnit) → IsHosted u h → IsHosted (g u) h')
    → (v : PlainUnit) → slice_get (change g unit_index us) unit_index ≡ Some v → IsHosted v h'
hosted_there g unit_index us h h' was goes v at = by_index (at_other g unit_index us unit_index v at)
  where
    by_index : (x : PlainUnit) × (slice_get us unit_index ≡ Some x) × (((unit_index ≡ unit_index) × (v ≡ g x)) ⊎ (((unit_index == unit_index) ≡ false) × (v ≡ x)))
        → IsHosted v h'
    by_index (x, there, inl here) = subst (λ y. IsHosted y h') (sym here.1) (goes x (was x there))
    by_index (x, there, inr beside) = absurd (let no = beside.0 in grind (arith, nat_tests, no))

-- a page in one of two storages that agree
page_same : (p b : ℕ) (f g old new : Blocks) → f b ≡ g b → old b ≡ new b → with_page p f old b ≡ with_page p g new b
page_same p b f g old new one other =
    elim (b / 8 == p) as (λ t. (if t then f b else old b) ≡ (if t then g b else new b)) [ true ↦ one | false ↦ other ]

cut_same : (n b : ℕ) (old new : Blocks) → old b ≡ new b → cut n old b ≡ cut n new b
cut_same n b old new same =
    elim (nat_lt b n) as (λ t. (if t then old b else zero_block) ≡ (if t then new b else zero_block)) [ true ↦ same | false ↦ refl ]

-- the storage is dealt as its ledger says
pub by_dealt : (l : Ledger) (d : Dealing) (s s' : host.Storage) → IsStorageBy l s
    → ((b : ℕ) → given_blocks s' b ≡ (dealt d (record { given = given_blocks s; kept = kept_blocks s; unkept = λ c. [] })).given b)
    → ((b : ℕ) → kept_blocks s' b ≡ (dealt d (record { given = given_blocks s; kept = kept_blocks s; unkept = λ c. [] })).kept b)
    → IsStorageBy (and_then d l) s'
by_dealt l d s s' is given kept =
    record {
      given = λ b. given b ∙ given_same d b ∙ ap (λ (x : Storage). x.given b) (sym (storage_then d l));
      kept = λ b. kept b ∙ kept_same d b ∙ ap (λ (x : Storage). x.kept b) (sym (storage_then d l));
    }
  where
    had : Storage
    had = record { given = given_blocks s; kept = kept_blocks s; unkept = λ c. [] }

    given_same : (d : Dealing) (b : ℕ) → (dealt d had).given b ≡ (dealt d (storage_by l)).given b
    given_same (Dealing.Give p bytes) b = page_same p b (λ i. blocks_in bytes (i % 8)) (λ i. blocks_in bytes (i % 8)) had.given (storage_by l).given refl (is.given b)
    given_same (Dealing.Keep p) b = is.given b
    given_same (Dealing.Lose p) b = is.given b
    given_same (Dealing.Deny p) b = is.given b
    given_same (Dealing.Load p) b = is.given b
    given_same (Dealing.Cut n) b = cut_same n b had.given (storage_by l).given (is.given b)

    kept_same : (d : Dealing) (b : ℕ) → (dealt d had).kept b ≡ (dealt d (storage_by l)).kept b
    kept_same (Dealing.Give p bytes) b = is.kept b
    kept_same (Dealing.Keep p) b = page_same p b had.given (storage_by l).given had.kept (storage_by l).kept (is.given b) (is.kept b)
    kept_same (Dealing.Lose p) b = is.kept b
    kept_same (Dealing.Deny p) b = is.kept b
    kept_same (Dealing.Load p) b = is.kept b
    kept_same (Dealing.Cut n) b = cut_same n b had.kept (storage_by l).kept (is.kept b)

by_option : (o : Option Ledger) (d : Dealing) (s s' : host.Storage) → ((l : Ledger) → o ≡ Some l → IsStorageBy l s)
    → ((b : ℕ) → given_blocks s' b ≡ (dealt d (record { given = given_blocks s; kept = kept_blocks s; unkept = λ c. [] })).given b)
    → ((b : ℕ) → kept_blocks s' b ≡ (dealt d (record { given = given_blocks s; kept = kept_blocks s; unkept = λ c. [] })).kept b)
    → (l : Ledger) → option_map (and_then d) o ≡ Some l → IsStorageBy l s'
by_option None d s s' is given kept l at = absurd (nothing at)
by_option (Some k) d s s' is given kept l at = subst (λ x. IsStorageBy x s') (same at) (by_dealt k d s s' (is k refl) given kept)

-- a unit whose host dealt with its storage
pub hosted_dealt : (d : Dealing) (u : PlainUnit) (h h' : HostedDisk)
    → ((b : ℕ) → given_blocks h'.storage b ≡ (dealt d (record { given = given_blocks h.storage; kept = kept_blocks h.storage; unkept = λ c. [] })).given b)
    → ((b : ℕ) → kept_blocks h'.storage b ≡ (dealt d (record { given = given_blocks h.storage; kept = kept_blocks h.storage; unkept = λ c. [] })).kept b)
    → h'.capacity ≡ h.capacity → IsHosted u h → IsHosted (dealing d u) h'
hosted_dealt d u h h' given kept size is =
    record { storage = by_option u.storage d h.storage h'.storage is.storage given kept; capacity = size ∙ is.capacity }

-- one that was resized, with its storage
pub hosted_resized : (blocks : ℕ) (u : PlainUnit) (h h' : HostedDisk)
    → ((b : ℕ) → given_blocks h'.storage b ≡ cut (min h.capacity blocks) (given_blocks h.storage) b)
    → ((b : ℕ) → kept_blocks h'.storage b ≡ cut (min h.capacity blocks) (kept_blocks h.storage) b)
    → h'.capacity ≡ blocks → IsHosted u h → IsHosted (stepped (Step.Resize blocks) u) h'
hosted_resized blocks u h h' given kept size is =
    let end = min (capacity_of u.opening u.steps) blocks in
    let less : min h.capacity blocks ≡ end = ap (λ n. min n blocks) is.capacity in
    record {
      storage = by_option u.storage (Dealing.Cut end) h.storage h'.storage is.storage
          (λ b. given b ∙ ap (λ n. cut n (given_blocks h.storage) b) less) (λ b. kept b ∙ ap (λ n. cut n (kept_blocks h.storage) b) less);
      capacity = size;
    }

-- What a deal and a resize change

abbrev is_deal : Event → Bool
is_deal (Event.Deal unit_index d) = true
is_deal e = false

abbrev deal_index : Event → ℕ
deal_index (Event.Deal unit_index d) = unit_index
deal_index e = 0

abbrev deal_of : Event → Dealing
deal_of (Event.Deal unit_index d) = d
deal_of e = Dealing.Load 0

deal_units : (t : Transition) (w : PlainWorld) (unit_index : ℕ) (d : Dealing) → event_of t ≡ Event.Deal unit_index d → Happens t w
    → (after t w).units ≡ change (dealing d) unit_index w.units
deal_units (Transition.Deal k x) w unit_index d event happens =
    ap (λ (i : ℕ). change (dealing x) i w.units) (ap deal_index event) ∙ ap (λ (y : Dealing). change (dealing y) unit_index w.units) (ap deal_of event)
deal_units (Transition.Idle e) w unit_index d event happens = absurd happens
deal_units t w unit_index d event happens = absurd (let no : false ≡ true = ap is_deal event in cc)

pub dealt_units : (w w' : PlainWorld) (unit_index : ℕ) (d : Dealing) → Turns w (Event.Deal unit_index d) true w' → w'.units ≡ change (dealing d) unit_index w.units
dealt_units w w' unit_index d (t, event, happens, is) = ap (λ (x : PlainWorld). x.units) is ∙ deal_units t w unit_index d event happens

abbrev is_resize : Event → Bool
is_resize (Event.Resize unit_index blocks) = true
is_resize e = false

abbrev resize_index : Event → ℕ
resize_index (Event.Resize unit_index blocks) = unit_index
resize_index e = 0

abbrev resize_blocks : Event → ℕ
resize_blocks (Event.Resize unit_index blocks) = blocks
resize_blocks e = 0

-- a resize that happened
resize_units : (t : Transition) (w : PlainWorld) (unit_index blocks : ℕ) → event_of t ≡ Event.Resize unit_index blocks → (action_of t).changed ≡ true
    → (after t w).units ≡ change (stepped (Step.Resize blocks)) unit_index w.units
resize_units (Transition.Resize k n) w unit_index blocks event told =
    ap (λ (i : ℕ). change (stepped (Step.Resize n)) i w.units) (ap resize_index event)
    ∙ ap (λ (m : ℕ). change (stepped (Step.Resize m)) unit_index w.units) (ap resize_blocks event)
resize_units (Transition.Idle e) w unit_index blocks event told = absurd (let no : false ≡ true = told in cc)
resize_units t w unit_index blocks event told = absurd (let no : false ≡ true = ap is_resize event in cc)

pub resized_units : (w w' : PlainWorld) (unit_index blocks : ℕ) → IsStep w (Event.Resize unit_index blocks) true w'
    → w'.units ≡ change (stepped (Step.Resize blocks)) unit_index w.units
resized_units w w' unit_index blocks s =
    let t = s.step in
    ap (λ (x : PlainWorld). x.units) t.is
    ∙ resize_units t.transition w unit_index blocks t.event (ap (λ a. a.changed) t.action ∙ s.told)

-- one that didn't
unresized : (t : Transition) (w : PlainWorld) (unit_index blocks : ℕ) → event_of t ≡ Event.Resize unit_index blocks → (action_of t).changed ≡ false
    → (after t w).units ≡ w.units
unresized (Transition.Idle e) w unit_index blocks event told = refl
unresized (Transition.Resize k n) w unit_index blocks event told = absurd (let no : true ≡ false = told in cc)
unresized t w unit_index blocks event told = absurd (let no : false ≡ true = ap is_resize event in cc)

pub unresized_units : (w w' : PlainWorld) (unit_index blocks : ℕ) → IsStep w (Event.Resize unit_index blocks) false w' → w'.units ≡ w.units
unresized_units w w' unit_index blocks s =
    let t = s.step in
    ap (λ (x : PlainWorld). x.units) t.is ∙ unresized t.transition w unit_index blocks t.event (ap (λ a. a.changed) t.action ∙ s.told)

-- What the calls do to the storages

-- a deal of the host with a unit whose storage is taken out
pub hosted_by_deal : (w w' : PlainWorld) (unit_index : ℕ) (d : Dealing) (hs : List (Option HostedDisk)) → DealsAsPromised w unit_index d w'
    → ((h : HostedDisk) → slice_get hs unit_index ≡ Some (Some h) → ⊥) → AreHosted w.units hs → AreHosted w'.units hs
hosted_by_deal w w' unit_index d hs deals gone are =
    subst (λ us. AreHosted us hs) (sym (dealt_units w w' unit_index d deals.turns)) (hosted_beside (dealing d) unit_index w.units hs gone are)

-- the storage of that unit, dealt with alike
pub hosted_of_deal : (w w' : PlainWorld) (unit_index : ℕ) (d : Dealing) (h h' : HostedDisk) → DealsAsPromised w unit_index d w'
    → ((u : PlainUnit) → slice_get w.units unit_index ≡ Some u → IsHosted u h)
    → ((b : ℕ) → given_blocks h'.storage b ≡ (dealt d (record { given = given_blocks h.storage; kept = kept_blocks h.storage; unkept = λ c. [] })).given b)
    → ((b : ℕ) → kept_blocks h'.storage b ≡ (dealt d (record { given = given_blocks h.storage; kept = kept_blocks h.storage; unkept = λ c. [] })).kept b)
    → h'.capacity ≡ h.capacity → (v : PlainUnit) → slice_get w'.units unit_index ≡ Some v → IsHosted v h'
hosted_of_deal w w' unit_index d h h' deals was given kept size v at =
    hosted_there (dealing d) unit_index w.units h h' was (λ u is. hosted_dealt d u h h' given kept size is) v
    (ap (λ us. slice_get us unit_index) (sym (dealt_units w w' unit_index d deals.turns)) ∙ at)

-- one that leaves each storage
pub hosted_told : (w w' : PlainWorld) (unit_index : ℕ) (d : Dealing) (hs : List (Option HostedDisk)) → DealsAsPromised w unit_index d w'
    → ((s : Storage) (b : ℕ) → (dealt d s).given b ≡ s.given b) → ((s : Storage) (b : ℕ) → (dealt d s).kept b ≡ s.kept b)
    → AreHosted w.units hs → AreHosted w'.units hs
hosted_told w w' unit_index d hs deals given kept are k v h at there =
    let o = at_other (dealing d) unit_index w.units k v (ap (λ us. slice_get us k) (sym (dealt_units w w' unit_index d deals.turns)) ∙ at) in
    let had : Storage = record { given = given_blocks h.storage; kept = kept_blocks h.storage; unkept = λ c. [] } in
    elim o.2 [
      | inl here ↦ subst (λ x. IsHosted x h) (sym here.1)
          (hosted_dealt d o.0 h h (λ b. sym (given had b)) (λ b. sym (kept had b)) refl (are k o.0 h o.1 there))
      | inr beside ↦ subst (λ x. IsHosted x h) (sym beside.1) (are k o.0 h o.1 there)
    ]

pub hosted_by_told : (told : Bool) (w w' : PlainWorld) (unit_index : ℕ) (d : Dealing) (hs : List (Option HostedDisk))
    → (IsTrue told → DealsAsPromised w unit_index d w') → (IsFalse told → w' ≡ w)
    → ((s : Storage) (b : ℕ) → (dealt d s).given b ≡ s.given b) → ((s : Storage) (b : ℕ) → (dealt d s).kept b ≡ s.kept b)
    → AreHosted w.units hs → AreHosted w'.units hs
hosted_by_told true w w' unit_index d hs deals still given kept are = hosted_told w w' unit_index d hs (deals refl) given kept are
hosted_by_told false w w' unit_index d hs deals still given kept are = subst (λ (x : PlainWorld). AreHosted x.units hs) (sym (still refl)) are

pub hosted_by_load : (r : Result Bool NoMemory) (w w' : PlainWorld) (unit_index : ℕ) (d : Dealing) (hs : List (Option HostedDisk))
    → IfOk r (λ told. IsTrue told → DealsAsPromised w unit_index d w') → IfOk r (λ told. IsFalse told → w' ≡ w) → OnErr r (w' ≡ w)
    → ((s : Storage) (b : ℕ) → (dealt d s).given b ≡ s.given b) → ((s : Storage) (b : ℕ) → (dealt d s).kept b ≡ s.kept b)
    → AreHosted w.units hs → AreHosted w'.units hs
hosted_by_load (Ok told) w w' unit_index d hs deals still err given kept are = hosted_by_told told w w' unit_index d hs deals still given kept are
hosted_by_load (Err x) w w' unit_index d hs deals still err given kept are = subst (λ (y : PlainWorld). AreHosted y.units hs) (sym err) are

-- what a unit at an index has, where the units are the same
pub hosted_still : (us us' : List PlainUnit) (unit_index : ℕ) (h : HostedDisk) → us' ≡ us → ((u : PlainUnit) → slice_get us unit_index ≡ Some u → IsHosted u h)
    → (u : PlainUnit) → slice_get us' unit_index ≡ Some u → IsHosted u h
hosted_still us us' unit_index h alike was u at = was u (ap (λ x. slice_get x unit_index) (sym alike) ∙ at)

pub hosted_by_give : (r : Result (Option GivenPage) NoMemory) (w w' : PlainWorld) (unit_index : ℕ) (hs : List (Option HostedDisk))
    → IfOk r (λ given. IfSome given (λ g. DealsAsPromised w unit_index (Dealing.Give g.page g.bytes.items) w'))
    → IfOk r (λ given. IfNone given (w' ≡ w)) → OnErr r (w' ≡ w) → ((h : HostedDisk) → slice_get hs unit_index ≡ Some (Some h) → ⊥)
    → AreHosted w.units hs → AreHosted w'.units hs
hosted_by_give (Ok (Some g)) w w' unit_index hs deals none err gone are = hosted_by_deal w w' unit_index (Dealing.Give g.page g.bytes.items) hs deals gone are
hosted_by_give (Ok None) w w' unit_index hs deals none err gone are = subst (λ (x : PlainWorld). AreHosted x.units hs) (sym none) are
hosted_by_give (Err x) w w' unit_index hs deals none err gone are = subst (λ (y : PlainWorld). AreHosted y.units hs) (sym err) are

pub hosted_by_written : (r : Result Bool NoMemory) (w w' : PlainWorld) (unit_index : ℕ) (d : Dealing) (hs : List (Option HostedDisk))
    → IfOk r (λ told. IsTrue told → DealsAsPromised w unit_index d w') → IfOk r (λ told. IsFalse told → w' ≡ w) → OnErr r (w' ≡ w)
    → ((h : HostedDisk) → slice_get hs unit_index ≡ Some (Some h) → ⊥) → AreHosted w.units hs → AreHosted w'.units hs
hosted_by_written (Ok true) w w' unit_index d hs deals still err gone are = hosted_by_deal w w' unit_index d hs (deals refl) gone are
hosted_by_written (Ok false) w w' unit_index d hs deals still err gone are = subst (λ (x : PlainWorld). AreHosted x.units hs) (sym (still refl)) are
hosted_by_written (Err x) w w' unit_index d hs deals still err gone are = subst (λ (y : PlainWorld). AreHosted y.units hs) (sym err) are

pub hosted_by_resize : (r : Result Bool NoMemory) (w w' : PlainWorld) (unit_index blocks : ℕ) (hs : List (Option HostedDisk))
    → Steps w (Event.Resize unit_index blocks) r w' → ((h : HostedDisk) → slice_get hs unit_index ≡ Some (Some h) → ⊥) → AreHosted w.units hs
    → AreHosted w'.units hs
hosted_by_resize (Ok true) w w' unit_index blocks hs steps gone are =
    subst (λ us. AreHosted us hs) (sym (resized_units w w' unit_index blocks steps)) (hosted_beside (stepped (Step.Resize blocks)) unit_index w.units hs gone are)
hosted_by_resize (Ok false) w w' unit_index blocks hs steps gone are =
    subst (λ us. AreHosted us hs) (sym (unresized_units w w' unit_index blocks steps)) are
hosted_by_resize (Err x) w w' unit_index blocks hs steps gone are = subst (λ (y : PlainWorld). AreHosted y.units hs) (sym steps.1) are

-- the unit that was resized, with its storage
pub hosted_of_resize : (w w' : PlainWorld) (unit_index blocks : ℕ) (h h' : HostedDisk) → IsStep w (Event.Resize unit_index blocks) true w'
    → ((u : PlainUnit) → slice_get w.units unit_index ≡ Some u → IsHosted u h)
    → ((b : ℕ) → given_blocks h'.storage b ≡ cut (min h.capacity blocks) (given_blocks h.storage) b)
    → ((b : ℕ) → kept_blocks h'.storage b ≡ cut (min h.capacity blocks) (kept_blocks h.storage) b)
    → h'.capacity ≡ blocks → (v : PlainUnit) → slice_get w'.units unit_index ≡ Some v → IsHosted v h'
hosted_of_resize w w' unit_index blocks h h' steps was given kept size v at =
    hosted_there (stepped (Step.Resize blocks)) unit_index w.units h h' was (λ u is. hosted_resized blocks u h h' given kept size is) v
    (ap (λ us. slice_get us unit_index) (sym (resized_units w w' unit_index blocks steps)) ∙ at)
