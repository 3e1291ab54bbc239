-- Transitions but for a few leave what the host's storage has of a unit's disk.
use Rattle.std.proofs.Common.{◌≡◌, ℕ, Bool, true, false, ◌&&◌, eqb, List, Option, Some, None, is_some, refl, sym, ◌∙◌, ap, subst, IfSome, ◌∷◌}
use Rattle.std.specs.Prelude.{slice_get, option_map, unwrap_or, min}
use Rattle.block_store.specs.Storage as storage
use Rattle.block_store.specs.Storage.{Storage, Dealing, Ledger, dealt, opening, storage_by, and_then, lost_after, lost_by, denied_after, denied_by}
use Rattle.block_store.proofs.Dealt.{last_dealt}
use Rattle.block_store.proofs.Losing.{lost-last, lose-last, load-last, keep-last, lose-else, load-else, keep-else, denied-last, deny-last, keep-denied, deny-else, keep-denied-else}
use Rattle.unit_model.specs.Steps.{Step}
use Rattle.unit_model.specs.Contents.{capacity_of, blocks_of}
use Rattle.unit_model.specs.Unit.{PlainUnit, is_backed, after as stepped, parking, dealing, waits_behind, MayCommit, MayConclude}
use Rattle.block_store.specs.Blocks.{Blocks}
use Rattle.block_store.specs.Storage.{IsLeft}
use Rattle.command_model.specs.PlainReply.{PlainReply}
use Rattle.command_model.specs.Statuses.{good}
use Rattle.command_model.specs.Waiting.{flushes, is_read}
use Rattle.unit_model.specs.Tasks.{Entry, task_of}
use Rattle.unit_model.specs.Steps.{alive}
use Rattle.unit_model.specs.Flushing.{HasBeen, is_in_flush, HasBeenBehind, IsThrough}
use Rattle.unit_model.specs.Jobs.{PlainJob}
use Rattle.unit_model.proofs.Flushing.{durable, as_left}
use Rattle.device_model.specs.Happens.{Happens}
use Rattle.task_mgmt.specs.Functions.{step_by}
use Rattle.task_mgmt.specs.declared.kind.MarkBy.TheVariants.{Abort, Reset}
use Rattle.device_model.specs.World.{PlainWorld, change}
use Rattle.device_model.specs.Transitions.{Transition}
use Rattle.device_model.specs.Event.Hard.{hard_code}
use Rattle.device_model.specs.After.{after}
use Rattle.device_model.specs.Found.{UnitIs}
use Rattle.device_model.specs.Storing.{given_of, kept_of, unkept_of, lost_of, denied_of, gives, keeps, tells, tells_writing}
use Rattle.device_model.proofs.Lists.{same, stays, get_other, get_change}

-- what a change leaves of a unit
unchanged : {X : Type 0} (f : PlainUnit → X) (g : PlainUnit → PlainUnit) (k : ℕ) (us : List PlainUnit)
    → ((u : PlainUnit) → f (g u) ≡ f u) → (i : ℕ) (u v : PlainUnit) → slice_get us i ≡ Some u
    → slice_get (change g k us) i ≡ Some v → f v ≡ f u
unchanged f g k us e i u v at now =
    let s = stays f g k us e i u at in
    ap f (same (sym now ∙ s.1)) ∙ s.2

-- another unit
elsewhere : (g : PlainUnit → PlainUnit) (k : ℕ) (us : List PlainUnit) (i : ℕ) (u v : PlainUnit) → eqb k i ≡ false
    → slice_get us i ≡ Some u → slice_get (change g k us) i ≡ Some v → v ≡ u
elsewhere g k us i u v off at now = same (sym now ∙ get_other g k us i off ∙ at)

kept_given : (page : ℕ) (bytes : List ℕ) (o : Option Ledger)
    → option_map (λ (l : Ledger). (storage_by l).kept) (option_map (and_then (Dealing.Give page bytes)) o)
    ≡ option_map (λ (l : Ledger). (storage_by l).kept) o
kept_given page bytes None = refl
kept_given page bytes (Some l) =
    ap (λ (s : Storage). Some s.kept) (last_dealt l.dealings (Dealing.Give page bytes) (opening l.content))

given_kept : (page : ℕ) (o : Option Ledger)
    → option_map (λ (l : Ledger). (storage_by l).given) (option_map (and_then (Dealing.Keep page)) o)
    ≡ option_map (λ (l : Ledger). (storage_by l).given) o
given_kept page None = refl
given_kept page (Some l) = ap (λ (s : Storage). Some s.given) (last_dealt l.dealings (Dealing.Keep page) (opening l.content))

-- what is said of a page changes nothing that the storage has
said : {X : Type 0} (f : Storage → X) (d : Dealing) → ((s : Storage) → dealt d s ≡ s) → (o : Option Ledger)
    → option_map (λ (l : Ledger). f (storage_by l)) (option_map (and_then d) o) ≡ option_map (λ (l : Ledger). f (storage_by l)) o
said f d still None = refl
said f d still (Some l) =
    ap (λ (s : Storage). Some (f s)) (last_dealt l.dealings d (opening l.content) ∙ still (storage_by l))

-- whether a transition is one of a storage
abbrev deals : Transition → Bool
deals (Transition.Deal k x) = true
deals (Transition.Resize k blocks) = true
deals d = false

-- others leave it
storage_stays : (d : Transition) (w : PlainWorld) (unit_index : ℕ) (u v : PlainUnit) → UnitIs w unit_index u → UnitIs (after d w) unit_index v
    → deals d ≡ false → v.storage ≡ u.storage
storage_stays (Transition.Run x) w unit_index u v at now off =
    unchanged (λ (z : PlainUnit). z.storage) (stepped (Step.Enter x.entry)) x.unit w.units (λ z. refl) unit_index u v at now
storage_stays (Transition.Park x) w unit_index u v at now off =
    unchanged (λ (z : PlainUnit). z.storage) (parking x) x.unit w.units (λ z. refl) unit_index u v at now
storage_stays (Transition.EnterFull x) w unit_index u v at now off =
    unchanged (λ (z : PlainUnit). z.storage) (stepped (Step.Full x.entry.ticket)) x.unit w.units (λ z. refl) unit_index u v at now
storage_stays (Transition.Commit k x r) w unit_index u v at now off =
    unchanged (λ (z : PlainUnit). z.storage) (stepped (Step.Commit x.entry.ticket r)) x.unit w.units (λ z. refl) unit_index u v at now
storage_stays (Transition.Withhold k x r) w unit_index u v at now off =
    unchanged (λ (z : PlainUnit). z.storage) (stepped (Step.Commit x.entry.ticket r)) x.unit w.units (λ z. refl) unit_index u v at now
storage_stays (Transition.CommitBusy k x) w unit_index u v at now off =
    unchanged (λ (z : PlainUnit). z.storage) (stepped (Step.Busy x.entry.ticket)) x.unit w.units (λ z. refl) unit_index u v at now
storage_stays (Transition.Leave k i t jobs) w unit_index u v at now off =
    unchanged (λ (z : PlainUnit). z.storage) (stepped (Step.Leave t)) i w.units (λ z. refl) unit_index u v at now
storage_stays (Transition.Mark t p (Abort rule) jobs) w unit_index u v at now off =
    unchanged (λ (z : PlainUnit). z.storage) (stepped (step_by (Abort rule))) p.unit w.units (λ z. refl) unit_index u v at now
storage_stays (Transition.Mark t p (Reset c) jobs) w unit_index u v at now off =
    unchanged (λ (z : PlainUnit). z.storage) (stepped (step_by (Reset c))) p.unit w.units (λ z. refl) unit_index u v at now
storage_stays (Transition.Hard p jobs) w unit_index u v at now off =
    unchanged (λ (z : PlainUnit). z.storage) (stepped (Step.Reset hard_code)) p.unit w.units (λ z. refl) unit_index u v at now
storage_stays (Transition.Resize k blocks) w unit_index u v at now never = absurd (let no : true ≡ false = never in cc)
storage_stays (Transition.Deal k x) w unit_index u v at now never = absurd (let no : true ≡ false = never in cc)
storage_stays d w unit_index u v at now off = ap (λ (z : PlainUnit). z.storage) (same (sym now ∙ at))

pub given_stays : (d : Transition) (w : PlainWorld) (unit_index : ℕ) (u v : PlainUnit) → UnitIs w unit_index u → UnitIs (after d w) unit_index v
    → gives unit_index d ≡ false → given_of v ≡ given_of u
given_stays (Transition.Resize k blocks) w unit_index u v at now off =
    ap (λ z. given_of z) (elsewhere (stepped (Step.Resize blocks)) k w.units unit_index u v off at now)
given_stays (Transition.Deal k (Dealing.Keep page)) w unit_index u v at now off =
    unchanged given_of (dealing (Dealing.Keep page)) k w.units (λ z. given_kept page z.storage) unit_index u v at now
given_stays (Transition.Deal k (Dealing.Lose page)) w unit_index u v at now off =
    unchanged given_of (dealing (Dealing.Lose page)) k w.units (λ z. said (λ (s : Storage). s.given) (Dealing.Lose page) (λ s. refl) z.storage) unit_index u v at now
given_stays (Transition.Deal k (Dealing.Deny page)) w unit_index u v at now off =
    unchanged given_of (dealing (Dealing.Deny page)) k w.units (λ z. said (λ (s : Storage). s.given) (Dealing.Deny page) (λ s. refl) z.storage) unit_index u v at now
given_stays (Transition.Deal k (Dealing.Load page)) w unit_index u v at now off =
    unchanged given_of (dealing (Dealing.Load page)) k w.units (λ z. said (λ (s : Storage). s.given) (Dealing.Load page) (λ s. refl) z.storage) unit_index u v at now
given_stays (Transition.Deal k (Dealing.Give page bytes)) w unit_index u v at now off =
    ap (λ z. given_of z) (elsewhere (dealing (Dealing.Give page bytes)) k w.units unit_index u v off at now)
given_stays (Transition.Deal k (Dealing.Cut blocks)) w unit_index u v at now off =
    ap (λ z. given_of z) (elsewhere (dealing (Dealing.Cut blocks)) k w.units unit_index u v off at now)
given_stays d w unit_index u v at now off =
    ap (λ (o : Option Ledger). option_map (λ (l : Ledger). (storage_by l).given) o) (storage_stays d w unit_index u v at now refl)

pub kept_stays : (d : Transition) (w : PlainWorld) (unit_index : ℕ) (u v : PlainUnit) → UnitIs w unit_index u → UnitIs (after d w) unit_index v
    → keeps unit_index d ≡ false → kept_of v ≡ kept_of u
kept_stays (Transition.Resize k blocks) w unit_index u v at now off =
    ap (λ z. kept_of z) (elsewhere (stepped (Step.Resize blocks)) k w.units unit_index u v off at now)
kept_stays (Transition.Deal k (Dealing.Give page bytes)) w unit_index u v at now off =
    unchanged kept_of (dealing (Dealing.Give page bytes)) k w.units (λ z. kept_given page bytes z.storage) unit_index u v at now
kept_stays (Transition.Deal k (Dealing.Lose page)) w unit_index u v at now off =
    unchanged kept_of (dealing (Dealing.Lose page)) k w.units (λ z. said (λ (s : Storage). s.kept) (Dealing.Lose page) (λ s. refl) z.storage) unit_index u v at now
kept_stays (Transition.Deal k (Dealing.Deny page)) w unit_index u v at now off =
    unchanged kept_of (dealing (Dealing.Deny page)) k w.units (λ z. said (λ (s : Storage). s.kept) (Dealing.Deny page) (λ s. refl) z.storage) unit_index u v at now
kept_stays (Transition.Deal k (Dealing.Load page)) w unit_index u v at now off =
    unchanged kept_of (dealing (Dealing.Load page)) k w.units (λ z. said (λ (s : Storage). s.kept) (Dealing.Load page) (λ s. refl) z.storage) unit_index u v at now
kept_stays (Transition.Deal k (Dealing.Keep page)) w unit_index u v at now off =
    ap (λ z. kept_of z) (elsewhere (dealing (Dealing.Keep page)) k w.units unit_index u v off at now)
kept_stays (Transition.Deal k (Dealing.Cut blocks)) w unit_index u v at now off =
    ap (λ z. kept_of z) (elsewhere (dealing (Dealing.Cut blocks)) k w.units unit_index u v off at now)
kept_stays d w unit_index u v at now off =
    ap (λ (o : Option Ledger). option_map (λ (l : Ledger). (storage_by l).kept) o) (storage_stays d w unit_index u v at now refl)

pub unkept_stays : (d : Transition) (w : PlainWorld) (unit_index : ℕ) (u v : PlainUnit) → UnitIs w unit_index u → UnitIs (after d w) unit_index v
    → gives unit_index d ≡ false → keeps unit_index d ≡ false → unkept_of v ≡ unkept_of u
unkept_stays (Transition.Resize k blocks) w unit_index u v at now ungiven unkept =
    ap (λ z. unkept_of z) (elsewhere (stepped (Step.Resize blocks)) k w.units unit_index u v unkept at now)
unkept_stays (Transition.Deal k (Dealing.Give page bytes)) w unit_index u v at now ungiven unkept =
    ap (λ z. unkept_of z) (elsewhere (dealing (Dealing.Give page bytes)) k w.units unit_index u v ungiven at now)
unkept_stays (Transition.Deal k (Dealing.Lose page)) w unit_index u v at now ungiven unkept =
    unchanged unkept_of (dealing (Dealing.Lose page)) k w.units (λ z. said (λ (s : Storage). s.unkept) (Dealing.Lose page) (λ s. refl) z.storage) unit_index u v at now
unkept_stays (Transition.Deal k (Dealing.Deny page)) w unit_index u v at now ungiven unkept =
    unchanged unkept_of (dealing (Dealing.Deny page)) k w.units (λ z. said (λ (s : Storage). s.unkept) (Dealing.Deny page) (λ s. refl) z.storage) unit_index u v at now
unkept_stays (Transition.Deal k (Dealing.Load page)) w unit_index u v at now ungiven unkept =
    unchanged unkept_of (dealing (Dealing.Load page)) k w.units (λ z. said (λ (s : Storage). s.unkept) (Dealing.Load page) (λ s. refl) z.storage) unit_index u v at now
unkept_stays (Transition.Deal k (Dealing.Keep page)) w unit_index u v at now ungiven unkept =
    ap (λ z. unkept_of z) (elsewhere (dealing (Dealing.Keep page)) k w.units unit_index u v unkept at now)
unkept_stays (Transition.Deal k (Dealing.Cut blocks)) w unit_index u v at now ungiven unkept =
    ap (λ z. unkept_of z) (elsewhere (dealing (Dealing.Cut blocks)) k w.units unit_index u v unkept at now)
unkept_stays d w unit_index u v at now ungiven unkept =
    ap (λ (o : Option Ledger). option_map (λ (l : Ledger). (storage_by l).unkept) o) (storage_stays d w unit_index u v at now refl)

-- whether a page is lost, by a storage
abbrev lost_by_storage : ℕ → Option Ledger → Bool
lost_by_storage p o = unwrap_or (option_map (λ (l : Ledger). storage.is_lost p l) o) false

-- a deal that says nothing of a page leaves whether it is lost
lost_on : (p : ℕ) (x : Dealing) (o : Option Ledger) → ((was : Bool) → lost_after p was x ≡ was)
    → lost_by_storage p (option_map (and_then x) o) ≡ lost_by_storage p o
lost_on p x None off = refl
lost_on p x (Some l) off = lost-last p false l.dealings x ∙ off (lost_by p false l.dealings)

-- it is said of another unit's page, or of another page
told_else : (f : PlainUnit → Bool) (k page : ℕ) (x : Dealing) (w : PlainWorld) (unit_index p : ℕ) (u v : PlainUnit)
    → (eqb p page ≡ false → (z : PlainUnit) → f (dealing x z) ≡ f z) → UnitIs w unit_index u
    → UnitIs (after (Transition.Deal k x) w) unit_index v → (here : Bool) → eqb k unit_index ≡ here → (same_page : Bool)
    → eqb p page ≡ same_page → (here && same_page) ≡ false → f v ≡ f u
told_else f k page x w unit_index p u v else_same at now false off same_page is untold =
    ap f (elsewhere (dealing x) k w.units unit_index u v off at now)
told_else f k page x w unit_index p u v else_same at now true on false off untold =
    unchanged f (dealing x) k w.units (else_same off) unit_index u v at now
told_else f k page x w unit_index p u v else_same at now true on true off untold = absurd (let no : false ≡ true = sym untold in cc)

pub lost_stays : (d : Transition) (w : PlainWorld) (unit_index p : ℕ) (u v : PlainUnit) → UnitIs w unit_index u → UnitIs (after d w) unit_index v
    → tells unit_index p d ≡ false → lost_of p v ≡ lost_of p u
lost_stays (Transition.Resize k blocks) w unit_index p u v at now off =
    unchanged (lost_of p) (stepped (Step.Resize blocks)) k w.units
    (λ z. lost_on p (Dealing.Cut (min (capacity_of z.opening z.steps) blocks)) z.storage (λ was. refl)) unit_index u v at now
lost_stays (Transition.Deal k (Dealing.Give page bytes)) w unit_index p u v at now off =
    unchanged (lost_of p) (dealing (Dealing.Give page bytes)) k w.units (λ z. lost_on p (Dealing.Give page bytes) z.storage (λ was. refl)) unit_index u v at now
lost_stays (Transition.Deal k (Dealing.Cut blocks)) w unit_index p u v at now off =
    unchanged (lost_of p) (dealing (Dealing.Cut blocks)) k w.units (λ z. lost_on p (Dealing.Cut blocks) z.storage (λ was. refl)) unit_index u v at now
lost_stays (Transition.Deal k (Dealing.Deny page)) w unit_index p u v at now off =
    unchanged (lost_of p) (dealing (Dealing.Deny page)) k w.units (λ z. lost_on p (Dealing.Deny page) z.storage (λ was. refl)) unit_index u v at now
lost_stays (Transition.Deal k (Dealing.Lose page)) w unit_index p u v at now off =
    told_else (lost_of p) k page (Dealing.Lose page) w unit_index p u v (λ apart z. lost_on p (Dealing.Lose page) z.storage (lose-else p page apart)) at now
    (eqb k unit_index) refl (eqb p page) refl off
lost_stays (Transition.Deal k (Dealing.Load page)) w unit_index p u v at now off =
    told_else (lost_of p) k page (Dealing.Load page) w unit_index p u v (λ apart z. lost_on p (Dealing.Load page) z.storage (load-else p page apart)) at now
    (eqb k unit_index) refl (eqb p page) refl off
lost_stays (Transition.Deal k (Dealing.Keep page)) w unit_index p u v at now off =
    told_else (lost_of p) k page (Dealing.Keep page) w unit_index p u v (λ apart z. lost_on p (Dealing.Keep page) z.storage (keep-else p page apart)) at now
    (eqb k unit_index) refl (eqb p page) refl off
lost_stays d w unit_index p u v at now off = ap (λ o. lost_by_storage p o) (storage_stays d w unit_index u v at now refl)

-- whether a page is denied, by a storage
abbrev denied_by_storage : ℕ → Option Ledger → Bool
denied_by_storage p o = unwrap_or (option_map (λ (l : Ledger). storage.is_denied p l) o) false

denied_on : (p : ℕ) (x : Dealing) (o : Option Ledger) → ((was : Bool) → denied_after p was x ≡ was)
    → denied_by_storage p (option_map (and_then x) o) ≡ denied_by_storage p o
denied_on p x None off = refl
denied_on p x (Some l) off = denied-last p false l.dealings x ∙ off (denied_by p false l.dealings)

pub denied_stays : (d : Transition) (w : PlainWorld) (unit_index p : ℕ) (u v : PlainUnit) → UnitIs w unit_index u → UnitIs (after d w) unit_index v
    → tells_writing unit_index p d ≡ false → denied_of p v ≡ denied_of p u
denied_stays (Transition.Resize k blocks) w unit_index p u v at now off =
    ap (λ z. denied_of p z) (elsewhere (stepped (Step.Resize blocks)) k w.units unit_index u v off at now)
denied_stays (Transition.Deal k (Dealing.Cut blocks)) w unit_index p u v at now off =
    ap (λ z. denied_of p z) (elsewhere (dealing (Dealing.Cut blocks)) k w.units unit_index u v off at now)
denied_stays (Transition.Deal k (Dealing.Give page bytes)) w unit_index p u v at now off =
    unchanged (denied_of p) (dealing (Dealing.Give page bytes)) k w.units (λ z. denied_on p (Dealing.Give page bytes) z.storage (λ was. refl)) unit_index u v at now
denied_stays (Transition.Deal k (Dealing.Lose page)) w unit_index p u v at now off =
    unchanged (denied_of p) (dealing (Dealing.Lose page)) k w.units (λ z. denied_on p (Dealing.Lose page) z.storage (λ was. refl)) unit_index u v at now
denied_stays (Transition.Deal k (Dealing.Load page)) w unit_index p u v at now off =
    unchanged (denied_of p) (dealing (Dealing.Load page)) k w.units (λ z. denied_on p (Dealing.Load page) z.storage (λ was. refl)) unit_index u v at now
denied_stays (Transition.Deal k (Dealing.Deny page)) w unit_index p u v at now off =
    told_else (denied_of p) k page (Dealing.Deny page) w unit_index p u v (λ apart z. denied_on p (Dealing.Deny page) z.storage (deny-else p page apart)) at now
    (eqb k unit_index) refl (eqb p page) refl off
denied_stays (Transition.Deal k (Dealing.Keep page)) w unit_index p u v at now off =
    told_else (denied_of p) k page (Dealing.Keep page) w unit_index p u v (λ apart z. denied_on p (Dealing.Keep page) z.storage (keep-denied-else p page apart)) at now
    (eqb k unit_index) refl (eqb p page) refl off
denied_stays d w unit_index p u v at now off = ap (λ o. denied_by_storage p o) (storage_stays d w unit_index u v at now refl)

-- a deal is one of the unit's storage alone
pub deals_alone : (w : PlainWorld) (unit_index : ℕ) (x : Dealing) (u : PlainUnit) → UnitIs w unit_index u
    → UnitIs (after (Transition.Deal unit_index x) w) unit_index (dealing x u)
deals_alone w unit_index x u at = get_change (dealing x) unit_index w.units u at

-- what a unit is behind a deal with its storage
dealt_so : (w : PlainWorld) (unit_index : ℕ) (x : Dealing) (u v : PlainUnit) → UnitIs w unit_index u
    → UnitIs (after (Transition.Deal unit_index x) w) unit_index v → v ≡ dealing x u
dealt_so w unit_index x u v at now = same (sym now ∙ deals_alone w unit_index x u at)

lost_now : (p : ℕ) (o : Option Ledger) → is_some o ≡ true → lost_by_storage p (option_map (and_then (Dealing.Lose p)) o) ≡ true
lost_now p None never = let no : false ≡ true = never in cc
lost_now p (Some l) there = lose-last p false l.dealings

loaded_now : (p : ℕ) (o : Option Ledger) → lost_by_storage p (option_map (and_then (Dealing.Load p)) o) ≡ false
loaded_now p None = refl
loaded_now p (Some l) = load-last p false l.dealings

kept_now : (p : ℕ) (o : Option Ledger) → lost_by_storage p (option_map (and_then (Dealing.Keep p)) o) ≡ false
kept_now p None = refl
kept_now p (Some l) = keep-last p false l.dealings

-- a page is lost once the host said that it can't read it
pub lost_then : (w : PlainWorld) (unit_index p : ℕ) (u v : PlainUnit) → UnitIs w unit_index u
    → UnitIs (after (Transition.Deal unit_index (Dealing.Lose p)) w) unit_index v → is_backed u ≡ true → lost_of p v ≡ true
lost_then w unit_index p u v at now backed =
    ap (λ (z : PlainUnit). lost_of p z) (dealt_so w unit_index (Dealing.Lose p) u v at now) ∙ lost_now p u.storage backed

-- and isn't once it read it, or wrote it
pub loaded_then : (w : PlainWorld) (unit_index p : ℕ) (u v : PlainUnit) → UnitIs w unit_index u
    → UnitIs (after (Transition.Deal unit_index (Dealing.Load p)) w) unit_index v → lost_of p v ≡ false
loaded_then w unit_index p u v at now =
    ap (λ (z : PlainUnit). lost_of p z) (dealt_so w unit_index (Dealing.Load p) u v at now) ∙ loaded_now p u.storage

pub kept_then : (w : PlainWorld) (unit_index p : ℕ) (u v : PlainUnit) → UnitIs w unit_index u
    → UnitIs (after (Transition.Deal unit_index (Dealing.Keep p)) w) unit_index v → lost_of p v ≡ false
kept_then w unit_index p u v at now =
    ap (λ (z : PlainUnit). lost_of p z) (dealt_so w unit_index (Dealing.Keep p) u v at now) ∙ kept_now p u.storage

denied_now : (p : ℕ) (o : Option Ledger) → is_some o ≡ true → denied_by_storage p (option_map (and_then (Dealing.Deny p)) o) ≡ true
denied_now p None never = let no : false ≡ true = never in cc
denied_now p (Some l) there = deny-last p false l.dealings

written_now : (p : ℕ) (o : Option Ledger) → denied_by_storage p (option_map (and_then (Dealing.Keep p)) o) ≡ false
written_now p None = refl
written_now p (Some l) = keep-denied p false l.dealings

-- a page is denied once the host said that it can't write it
pub denied_then : (w : PlainWorld) (unit_index p : ℕ) (u v : PlainUnit) → UnitIs w unit_index u
    → UnitIs (after (Transition.Deal unit_index (Dealing.Deny p)) w) unit_index v → is_backed u ≡ true → denied_of p v ≡ true
denied_then w unit_index p u v at now backed =
    ap (λ (z : PlainUnit). denied_of p z) (dealt_so w unit_index (Dealing.Deny p) u v at now) ∙ denied_now p u.storage backed

-- and isn't once it wrote it
pub written_then : (w : PlainWorld) (unit_index p : ℕ) (u v : PlainUnit) → UnitIs w unit_index u
    → UnitIs (after (Transition.Deal unit_index (Dealing.Keep p)) w) unit_index v → denied_of p v ≡ false
written_then w unit_index p u v at now =
    ap (λ (z : PlainUnit). denied_of p z) (dealt_so w unit_index (Dealing.Keep p) u v at now) ∙ written_now p u.storage

-- a flush that may end with GOOD is durable
pub flush_kept : (w : PlainWorld) (k : ℕ) (x : PlainJob) (r : PlainReply) (u : PlainUnit) (e : Entry) (l : Ledger) (left : Blocks) (b : ℕ)
    → Happens (Transition.Commit k x r) w → UnitIs w x.unit u → r.status ≡ good → task_of x.entry.ticket (alive u.steps) ≡ Some e
    → flushes e.asks_medium e.command ≡ true → u.storage ≡ Some l → IsLeft l left → is_in_flush e.command b ≡ true
    → HasBeen u.opening u.steps e b (left b)
flush_kept w k x r u e l left b h at ends there flush has leaves named =
    let one : h.holds.unit ≡ u = same (sym h.holds.there ∙ at) in
    durable u x.entry.ticket e r l left b (subst (λ v. MayCommit v x.entry.ticket r) one h.may) ends there flush has leaves named

-- so is what a READ of the medium reads what a crash leaves
pub read_kept : (w : PlainWorld) (k : ℕ) (x : PlainJob) (r : PlainReply) (u : PlainUnit) (e : Entry) (l : Ledger) (left : Blocks) (b : ℕ)
    → Happens (Transition.Commit k x r) w → UnitIs w x.unit u → r.status ≡ good → task_of x.entry.ticket (alive u.steps) ≡ Some e
    → flushes e.asks_medium e.command ≡ true → is_read e.command ≡ true → u.storage ≡ Some l → IsLeft l left → is_in_flush e.command b ≡ true
    → left b ≡ blocks_of u.opening u.steps b
read_kept w k x r u e l left b h at ends there flush reads has leaves named =
    let one : h.holds.unit ≡ u = same (sym h.holds.there ∙ at) in
    as_left u x.entry.ticket e r l left b (subst (λ v. MayCommit v x.entry.ticket r) one h.may) ends there flush reads has leaves named

-- what a unit's storage is to be, where it has one
if_stored : (P : Ledger → Type 0) (o : Option Ledger) (l : Ledger) → IfSome o P → o ≡ Some l → P l
if_stored P o l h e = subst (λ z. IfSome z P) e h

-- a command whose answer waits is answered as it runs where what it changed is kept
pub command_kept : (w : PlainWorld) (k : ℕ) (x : PlainJob) (r : PlainReply) (u : PlainUnit) (e : Entry) (l : Ledger) (left : Blocks) (b : ℕ)
    → Happens (Transition.Commit k x r) w → UnitIs w x.unit u → task_of x.entry.ticket (alive u.steps) ≡ Some e
    → waits_behind u e r.status ≡ true → u.storage ≡ Some l → IsLeft l left
    → HasBeenBehind u.opening (Step.Commit x.entry.ticket r ∷ u.steps) x.entry.ticket b (left b)
command_kept w k x r u e l left b h at there waits has leaves =
    let t = x.entry.ticket in
    let one : h.holds.unit ≡ u = same (sym h.holds.there ∙ at) in
    let may = subst (λ v. MayCommit v t r) one h.may in
    let its : e ≡ may.0 = same (sym there ∙ may.1.is_there) in
    let ends = may.3 (subst (λ (z : Entry). waits_behind u z r.status ≡ true) its waits) in
    if_stored (λ z. IsThrough u.opening (Step.Commit t r ∷ u.steps) z t) u.storage l ends has left leaves b

-- and is concluded where it is
pub conclusion_kept : (w : PlainWorld) (k : ℕ) (x : PlainJob) (r : PlainReply) (u : PlainUnit) (l : Ledger) (left : Blocks) (b : ℕ)
    → Happens (Transition.Conclude k x r) w → UnitIs w x.unit u → u.storage ≡ Some l → IsLeft l left
    → HasBeenBehind u.opening u.steps x.entry.ticket b (left b)
conclusion_kept w k x r u l left b h at has leaves =
    let t = x.entry.ticket in
    let one : h.holds.unit ≡ u = same (sym h.holds.there ∙ at) in
    let may = subst (λ v. MayConclude v t r) one h.may in
    if_stored (λ z. IsThrough u.opening u.steps z t) u.storage l may.2 has left leaves b
