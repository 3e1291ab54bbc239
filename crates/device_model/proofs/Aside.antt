-- Jobs that wait: their units' disks are such ones, and their commands may run, or their replies are withheld.
use Rattle.std.proofs.Common.{◌≡◌, ℕ, Bool, true, false, ◌||◌, ◌&&◌, ◌==◌, List, [], ◌∷◌, ◌++◌, Some, refl, sym, ◌∙◌, ap, subst, inl, inr}
use Rattle.std.specs.Prelude.{slice_get, ◌⊎◌}
use Rattle.std.specs.List.{AllByRecursion}
use Rattle.ring_core.specs.declared.log.Ticket.{Ticket}
use Rattle.block_store.specs.Storage.{Dealing, and_then}
use Rattle.command_model.specs.PlainReply.{PlainReply}
use Rattle.command_model.specs.Effects.{changes_medium}
use Rattle.command_model.specs.Statuses.{good}
use Rattle.command_model.specs.Waiting.{waits_at}
use Rattle.unit_model.specs.Contents.{capacity_of}
use Rattle.unit_model.specs.Lawful.{IsReady}
use Rattle.unit_model.specs.Tasks.{Entry}
use Rattle.unit_model.specs.Steps.{Step, done}
use Rattle.unit_model.specs.Marks.{marked}
use Rattle.unit_model.specs.Enabling.{enabled}
use Rattle.unit_model.proofs.Marking.{done_on}
use Rattle.unit_model.proofs.Tickets.{clash, itself}
use Rattle.unit_model.specs.Jobs.{PlainJob}
use Rattle.unit_model.specs.Unit.{PlainUnit, IsWithheld, HasToWait, is_backed, needs_medium, after as stepped, parking, dealing}
use Rattle.device_model.specs.Event.Commit.{Withholds}
use Rattle.device_model.proofs.Withheld.{IsTaken, some_still, step_backed, ran_done}
use Rattle.task_mgmt.specs.Functions.{step_by}
use Rattle.task_mgmt.specs.declared.kind.MarkBy.{MarkBy}
use Rattle.device_model.specs.World.{PlainWorld, Opens, change, Everywhere, all_off}
use Rattle.device_model.specs.Transitions.{Transition}
use Rattle.device_model.specs.Event.Hard.{hard_code}
use Rattle.device_model.specs.After.{after}
use Rattle.device_model.specs.Event.Wake.{Defers}
use Rattle.device_model.specs.Happens.{MayHappen, Occurrence, Runs}
use Rattle.device_model.specs.Standing.{IsAside, AreAside, NoneIsBacked}
use Rattle.device_model.proofs.Lists.{same, get_change, there_change, at_other}
use Rattle.device_model.proofs.Staying.{run_keeps, everywhere}
use Rattle.device_model.proofs.Working.{ToCommit, run_works}
use Rattle.device_model.proofs.Off.{between_parts, each_push}

abbrev NotMarked : PlainJob → PlainUnit → Type 0
NotMarked x u = (marked x.entry.ticket u.steps ≡ false) ⊎ (done x.entry.ticket u.steps ≡ true)

-- its unit is there, has such a disk, and didn't mark it, or its command ran
abbrev AsideAt : List PlainUnit → PlainJob → Type 0
AsideAt us x =
    (u : PlainUnit) × (slice_get us x.unit ≡ Some u) × (is_backed u ≡ true)
    × NotMarked x u

abbrev AllAside : List PlainUnit → List PlainJob → Type 0
AllAside us xs = AllByRecursion (AsideAt us) xs

-- the steps that change what the storage has leave that there is one

pub backed_resize : (blocks : ℕ) (u : PlainUnit) → is_backed (stepped (Step.Resize blocks) u) ≡ is_backed u
backed_resize blocks u = step_backed (Step.Resize blocks) u

pub backed_deal : (x : Dealing) (u : PlainUnit) → is_backed (dealing x u) ≡ is_backed u
backed_deal x u = some_still (and_then x) u.storage

pub backed_mark : (how : MarkBy) (u : PlainUnit) → is_backed (stepped (step_by how) u) ≡ is_backed u
backed_mark how u = step_backed (step_by how) u

-- a unit's change that marks no task
record MarksNone (g : PlainUnit → PlainUnit) : Type 0 where
  pub backed : (u : PlainUnit) → is_backed (g u) ≡ is_backed u
  pub marks : (u : PlainUnit) (t : Ticket) → marked t (g u).steps ≡ marked t u.steps
  pub ran : (u : PlainUnit) (t : Ticket) → done t u.steps ≡ true → done t (g u).steps ≡ true

-- a step that marks none
marks_none : (s : Step) → ((past : List Step) (t : Ticket) → marked t (s ∷ past) ≡ marked t past) → MarksNone (stepped s)
marks_none s f =
    record {
      backed = λ u. step_backed s u;
      marks = λ u t. f u.steps t;
      ran = λ u t h. done_on s t u.steps h;
    }

parking_none : (x : PlainJob) → MarksNone (parking x)
parking_none x = record { backed = λ u. refl; marks = λ u t. refl; ran = λ u t h. h }

deal_none : (x : Dealing) → MarksNone (dealing x)
deal_none x = record { backed = λ u. backed_deal x u; marks = λ u t. refl; ran = λ u t h. h }

still_aside : (t : Ticket) (old new : List Step) → marked t new ≡ marked t old → (done t old ≡ true → done t new ≡ true)
    → (marked t old ≡ false) ⊎ (done t old ≡ true) → (marked t new ≡ false) ⊎ (done t new ≡ true)
still_aside t old new m d (inl off) = inl (m ∙ off)
still_aside t old new m d (inr on) = inr (d on)

aside_on : (g : PlainUnit → PlainUnit) (k : ℕ) (us : List PlainUnit) (x : PlainJob) → MarksNone g → AsideAt us x
    → AsideAt (change g k us) x
aside_on g k us x f (u, at, backed, off) =
    let t = there_change g k us x.unit u at in
    let o = at_other g k us x.unit t.0 t.1 in
    let was : o.0 ≡ u = same (sym o.1 ∙ at) in
    elim o.2 [
      | inl p ↦
          let is : t.0 ≡ g u = p.1 ∙ ap g was in (
            t.0,
            t.1,
            ap (λ (z : PlainUnit). is_backed z) is ∙ f.backed u ∙ backed,
            subst (λ (z : PlainUnit). NotMarked x z) (sym is)
                (still_aside x.entry.ticket u.steps (g u).steps (f.marks u x.entry.ticket) (f.ran u x.entry.ticket) off),
          )
      | inr p ↦
          let is : t.0 ≡ u = p.1 ∙ was in (
            t.0,
            t.1,
            ap (λ (z : PlainUnit). is_backed z) is ∙ backed,
            subst (λ (z : PlainUnit). NotMarked x z) (sym is) off,
          )
    ]

all_on : (g : PlainUnit → PlainUnit) (k : ℕ) (us : List PlainUnit) (xs : List PlainJob) → MarksNone g → AllAside us xs
    → AllAside (change g k us) xs
all_on g k us [] f h = tt
all_on g k us (x ∷ xs) f h = (aside_on g k us x f h.0, all_on g k us xs f h.1)

both_first : (a b : Bool) → (a && b) ≡ true → a ≡ true
both_first true b h = refl
both_first false b h = h

-- what may have to wait, or has its reply withheld, is of such a unit
has_to_wait : (u : PlainUnit) (t : Ticket) (e : Entry) → HasToWait u t e → is_backed u ≡ true
has_to_wait u t e (inl h) =
    both_first (is_backed u) (waits_at (capacity_of u.opening u.steps) e.asks_medium e.command || (needs_medium u e && changes_medium e.command)) h.1
has_to_wait u t e (inr h) =
    both_first (is_backed u) (needs_medium u e && (changes_medium e.command && h.0.status == good)) h.1.waits

-- and isn't marked, or ran
may_wait_so : (x : PlainJob) (u : PlainUnit) (e : Entry) → HasToWait u x.entry.ticket e → NotMarked x u
may_wait_so x u e (inl h) = inl h.0.is_unmarked
may_wait_so x u e (inr h) = inr (ran_done x.entry.ticket h.0 u.steps h.1.ran)

waits_backed : (w : PlainWorld) (k : ℕ) (x : PlainJob) (m : Defers w k x) → is_backed m.holds.unit ≡ true
waits_backed w k x m = has_to_wait m.holds.unit x.entry.ticket m.entry m.waits

withheld_backed : (w : PlainWorld) (k : ℕ) (x : PlainJob) (r : PlainReply) (m : Withholds w k x r) → is_backed m.holds.unit ≡ true
withheld_backed w k x r m =
    let u = m.holds.unit in
    both_first (is_backed u) (needs_medium u m.may.0 && (changes_medium m.may.0.command && r.status == good)) m.may.3

abbrev Waits : PlainWorld → Type 0
Waits w = AllAside w.units w.aside

transition_waits : (d : Transition) (w : PlainWorld) → MayHappen d w → Waits w → Waits (after d w)
transition_waits (Transition.Run x) w m h =
    all_on (stepped (Step.Enter x.entry)) x.unit w.units w.aside (marks_none (Step.Enter x.entry) (λ past t. refl)) h
transition_waits (Transition.Park x) w m h = all_on (parking x) x.unit w.units w.aside (parking_none x) h
transition_waits (Transition.EnterFull x) w m h =
    all_on (stepped (Step.Full x.entry.ticket)) x.unit w.units w.aside (marks_none (Step.Full x.entry.ticket) (λ past t. refl)) h
transition_waits (Transition.Commit k x r) w m h =
    all_on (stepped (Step.Commit x.entry.ticket r)) x.unit w.units w.aside (marks_none (Step.Commit x.entry.ticket r) (λ past t. refl)) h
transition_waits (Transition.CommitBusy k x) w m h =
    all_on (stepped (Step.Busy x.entry.ticket)) x.unit w.units w.aside (marks_none (Step.Busy x.entry.ticket) (λ past t. refl)) h
transition_waits (Transition.Defer k x) w m h =
    each_push (AsideAt w.units) w.aside x h (m.holds.unit, m.holds.there, waits_backed w k x m, may_wait_so x m.holds.unit m.entry m.waits)
transition_waits (Transition.Withhold k x r) w m h =
    let s = Step.Commit x.entry.ticket r in
    let u = m.holds.unit in
    each_push (AsideAt (change (stepped s) x.unit w.units)) w.aside x
    (all_on (stepped s) x.unit w.units w.aside (marks_none s (λ past t. refl)) h) (
      stepped s u,
      get_change (stepped s) x.unit w.units u m.holds.there,
      withheld_backed w k x r m,
      inr (ap (λ b. b || done x.entry.ticket u.steps) (itself x.entry.ticket)),
    )
transition_waits Transition.Wake w m h = tt
transition_waits (Transition.Leave k unit_index t jobs) w m h =
    all_on (stepped (Step.Leave t)) unit_index w.units w.aside (marks_none (Step.Leave t) (λ past t. refl)) h
transition_waits (Transition.Mark t p how jobs) w m h = tt
transition_waits (Transition.Hard p jobs) w m h = tt
transition_waits (Transition.Resize unit_index blocks) w m h =
    all_on (stepped (Step.Resize blocks)) unit_index w.units w.aside (marks_none (Step.Resize blocks) (λ past t. refl)) h
transition_waits (Transition.Deal unit_index x) w m h =
    all_on (dealing x) unit_index w.units w.aside (deal_none x) h
transition_waits d w m h = h

left_on : (a b : Bool) → b ≡ false → (a || b) ≡ true → a ≡ true
left_on true b off h = refl
left_on false b off h = sym off ∙ h

-- it may run, or its reply is withheld
waits_so : (x : PlainJob) (u : PlainUnit) → IsTaken x.entry u → NotMarked x u
    → IsReady x.entry.ticket x.entry u.steps ⊎ ((r : PlainReply) × IsWithheld u x.entry.ticket x.entry r)
waits_so x u c off =
    let t = x.entry.ticket in
    elim c.2 [
      | inl undone ↦
          inl (elim off [
            | inl mark ↦
                record {
                  is_there = c.0;
                  is_enabled = left_on (enabled x.entry u.steps) (marked t u.steps) mark c.1;
                  is_unmarked = mark;
                  is_undone = undone;
                }
            | inr ran ↦ absurd (clash (sym ran ∙ undone))
          ])
      | inr r ↦ inr r
    ]

is_aside : (w : PlainWorld) (x : PlainJob) → ToCommit w.units x → AsideAt w.units x → IsAside w x
is_aside w x c (u, at, backed, off) =
    let is : c.0 ≡ u = same (sym c.1 ∙ at) in
    record {
      unit = c.0;
      there = c.1;
      backed = ap (λ (v : PlainUnit). is_backed v) is ∙ backed;
      waits = waits_so x c.0 c.2 (subst (NotMarked x) (sym is) off);
    }

all_aside : (w : PlainWorld) (xs : List PlainJob) → AllByRecursion (ToCommit w.units) xs → AllAside w.units xs
    → AllByRecursion (IsAside w) xs
all_aside w [] c h = tt
all_aside w (x ∷ xs) c h = (is_aside w x c.0 h.0, all_aside w xs c.1 h.1)

-- each job that waits may run, or has its reply withheld, and its unit's disk is one whose pages come and go
pub run_aside : (old : PlainWorld) (trace : List Occurrence) (w : PlainWorld) → Opens old → Runs old trace w → AreAside w
run_aside old trace w o r =
    let works = run_works old trace w o r in
    let parts = between_parts (ToCommit w.units) (all_off w) w.aside w.woken works.3.1 in
    let waits = run_keeps Waits transition_waits old trace w (subst (AllAside old.units) (sym o.aside) tt) r in
    all_aside w w.aside parts.1 waits

-- Where no disk is such a one

abbrev pub Bare : PlainWorld → Type 0
Bare w = NoneIsBacked w × (w.aside ≡ []) × (w.woken ≡ [])

not_backed : (g : PlainUnit → PlainUnit) (k : ℕ) (us : List PlainUnit) → ((u : PlainUnit) → is_backed (g u) ≡ is_backed u)
    → Everywhere (λ i u. is_backed u ≡ false) us → Everywhere (λ i u. is_backed u ≡ false) (change g k us)
not_backed g k us e h = everywhere (λ i u. is_backed u ≡ false) g k us (λ u at n. e u ∙ n) h

no_job : {x : PlainJob} {xs : List PlainJob} → [] ≡ x ∷ xs → ⊥
no_job e = cc

none_woken : (w : PlainWorld) → w.aside ≡ [] → w.woken ≡ [] → w.woken ++ w.aside ≡ []
none_woken w a b = ap (λ l. l ++ w.aside) b ∙ a

pub transition_bare : (d : Transition) (w : PlainWorld) → MayHappen d w → Bare w → Bare (after d w)
transition_bare (Transition.Run x) w m h =
    (not_backed (stepped (Step.Enter x.entry)) x.unit w.units (λ u. refl) h.0, h.1, h.2)
transition_bare (Transition.Park x) w m h = (not_backed (parking x) x.unit w.units (λ u. refl) h.0, h.1, h.2)
transition_bare (Transition.EnterFull x) w m h =
    (not_backed (stepped (Step.Full x.entry.ticket)) x.unit w.units (λ u. refl) h.0, h.1, h.2)
transition_bare (Transition.Commit k x r) w m h =
    (not_backed (stepped (Step.Commit x.entry.ticket r)) x.unit w.units (λ u. refl) h.0, h.1, h.2)
transition_bare (Transition.CommitBusy k x) w m h =
    (not_backed (stepped (Step.Busy x.entry.ticket)) x.unit w.units (λ u. refl) h.0, h.1, h.2)
transition_bare (Transition.Defer k x) w m h =
    absurd (clash (sym (waits_backed w k x m) ∙ h.0 x.unit m.holds.unit m.holds.there))
transition_bare (Transition.Withhold k x r) w m h =
    absurd (clash (sym (withheld_backed w k x r m) ∙ h.0 x.unit m.holds.unit m.holds.there))
transition_bare Transition.Wake w m h = absurd (no_job (sym h.1 ∙ m.waits))
transition_bare (Transition.Resume k x) w m h = absurd (no_job (sym h.2 ∙ m.first))
transition_bare (Transition.Leave k unit_index t jobs) w m h =
    (not_backed (stepped (Step.Leave t)) unit_index w.units (λ u. refl) h.0, h.1, h.2)
transition_bare (Transition.Mark t p how jobs) w m h =
    (not_backed (stepped (step_by how)) p.unit w.units (backed_mark how) h.0, refl, none_woken w h.1 h.2)
transition_bare (Transition.Hard p jobs) w m h =
    (not_backed (stepped (Step.Reset hard_code)) p.unit w.units (λ u. refl) h.0, refl, none_woken w h.1 h.2)
transition_bare (Transition.Resize unit_index blocks) w m h =
    (not_backed (stepped (Step.Resize blocks)) unit_index w.units (backed_resize blocks) h.0, h.1, h.2)
transition_bare (Transition.Deal unit_index x) w m h =
    (not_backed (dealing x) unit_index w.units (backed_deal x) h.0, h.1, h.2)
transition_bare d w m h = h

pub run_bare : (old : PlainWorld) (trace : List Occurrence) (w : PlainWorld) → Opens old → Runs old trace w
    → NoneIsBacked old → NoneIsBacked w × (w.aside ≡ []) × (w.woken ≡ [])
run_bare old trace w o r none = run_keeps Bare transition_bare old trace w (none, o.aside, o.woken) r
