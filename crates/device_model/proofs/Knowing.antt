-- What is known of the world that transitions lead to.
use Rattle.std.proofs.Common.{◌≡◌, ℕ, ◌<◌, Bool, true, false, ◌||◌, is_some, List, [], ◌∷◌, map, length, Option, Some, None, inl, inr, refl, sym, ◌∙◌, ap, subst, zero, suc, arith}
use Rattle.std.specs.Prelude.{slice_get}
use Rattle.ring_core.specs.declared.log.Ticket.{Ticket}
use Rattle.unit_model.specs.declared.reason.Reason.{Reason}
use Rattle.unit_model.specs.Tasks.{task_of}
use Rattle.unit_model.specs.Steps.{Step, alive, done, next_number}
use Rattle.unit_model.specs.Marks.{mark_of, marked}
use Rattle.unit_model.specs.Enabling.{enabled}
use Rattle.unit_model.specs.Jobs.{PlainJob}
use Rattle.unit_model.specs.Unit.{PlainUnit, IsWithheld}
use Rattle.unit_model.specs.Receipts.{unit_address}
use Rattle.unit_model.specs.Asking.{IsOf}
use Rattle.task_mgmt.specs.declared.kind.MarkBy.TheVariants.{Abort, Reset}
use Rattle.device_model.specs.Parts.{Hand}
use Rattle.device_model.specs.World.{PlainWorld, Opens, AreAddressed}
use Rattle.device_model.specs.Addressed.{IsAddressed}
use Rattle.device_model.specs.Transitions.{Transition}
use Rattle.device_model.specs.Happens.{MayHappen, Occurrence, Reached, occurrence_of, world_of, Leads}
use Rattle.device_model.specs.Event.Commit.{CommitsUnknown}
use Rattle.device_model.specs.Event.Enter.{EntersStale}
use Rattle.device_model.specs.Found.{UnitIs}
use Rattle.device_model.specs.Lawful.{KeepsParts}
use Rattle.device_model.specs.Standing.{AreAtWork, AreBehind, AreNamedThere, front_of}
use Rattle.device_model.proofs.Lists.{nothing, same}
use Rattle.device_model.proofs.Staying.{run_keeps, run_stays, units_listed}
use Rattle.device_model.proofs.Floors.{AreOrdered, new_ordered, transition_orders, all_behind}
use Rattle.device_model.proofs.Working.{Works, run_works, all_work}
use Rattle.device_model.specs.Happened.{Happened, IsFetch, IsLoss, NoneIsLost}
use Rattle.device_model.specs.Inner.Happened.{IsEnter}
use Rattle.device_model.specs.Histories.{history_of, Stands, AreHistories}
use Rattle.device_model.specs.Entering.{IsSent}
use Rattle.device_model.proofs.Traces.{in_run, leads_run, leads_beginning, told_at, beginning_tail, told_on}
use Rattle.device_model.proofs.Steps.{step_in, index_in, step_is, done_at}
use Rattle.device_model.proofs.Saying.{Says, says_transition, says_new, sent_there}

pub works_at : (old : PlainWorld) (ds : List Transition) → Opens old → Leads old ds → Works (world_of old ds)
works_at old ds o l = run_works old (map occurrence_of ds) (world_of old ds) o (leads_run old ds l)

pub parts_at : (old : PlainWorld) (ds : List Transition) → Leads old ds → KeepsParts old (world_of old ds)
parts_at old ds l = run_stays old (map occurrence_of ds) (world_of old ds) (leads_run old ds l)

behind_at : (old : PlainWorld) (ds : List Transition) → Opens old → Leads old ds → AreBehind (world_of old ds)
behind_at old ds o l =
    let trace = map occurrence_of ds in
    let w = world_of old ds in
    let r = leads_run old ds l in
    all_behind w (units_listed old trace w o r) (run_keeps AreOrdered transition_orders old trace w (new_ordered old o) r)

left_on : (a b : Bool) → b ≡ false → (a || b) ≡ true → a ≡ true
left_on true b off h = refl
left_on false b off h = sym off ∙ h

-- a unit is asked for no task that it doesn't have
never_lost : (k : ℕ) (x : PlainJob) (w : PlainWorld) → CommitsUnknown w k x → AreAtWork w → ⊥
never_lost k x w m h =
    let u = m.holds.unit in
    let t = x.entry.ticket in
    let c = (h.seats k (record { hand = Hand.Taken x; out = m.holds.out }) m.holds.seat).0 in
    let is : c.unit ≡ u = same (sym c.there ∙ m.holds.there) in
    let there = subst (λ (z : PlainUnit). task_of t (alive z.steps) ≡ Some x.entry) is c.alive in
    let out = subst (λ (z : PlainUnit). (enabled x.entry z.steps || marked t z.steps) ≡ true) is c.handed_out in
    let of : IsOf x x.entry u.steps = record { is_there = there; as_asked = refl } in
    elim c.undone [
      | inl undone ↦
          (elim (mark_of t u.steps) as (λ o. mark_of t u.steps ≡ o → ⊥) [
            | Some why ↦ λ q. m.not_marked x.entry why of q
            | None ↦ λ q.
                let off = ap (λ (o : Option Reason). is_some o) q in
                m.not_ready x.entry of (record {
                  is_there = there;
                  is_enabled = left_on (enabled x.entry u.steps) (marked t u.steps) off out;
                  is_unmarked = off;
                  is_undone = subst (λ (z : PlainUnit). done t z.steps ≡ false) is undone;
                })
          ]) refl
      | inr r ↦ m.not_withheld x.entry r.0 of (subst (λ (z : PlainUnit). IsWithheld z t x.entry r.0) is r.1)
    ]

-- each unit has what stands in the inventory at its index
addressed_where : (old : PlainWorld) (ds : List Transition) (w : PlainWorld) → Opens old → w.inventory ≡ old.inventory → Says old ds w
    → AreAddressed w
addressed_where old ds w o e h k u at =
    let told = (h.units k u at).0 in
    subst (λ inventory. IsAddressed inventory k u) (sym e)
    (subst (λ z. (slice_get old.inventory.addresses k ≡ Some (unit_address z)) × (slice_get old.inventory.profiles k ≡ Some z.profile))
    (sym told.opening) (o.addressed k told.opened told.there))

-- each request that arrived names the unit that it is for
named_where : (old : PlainWorld) (ds : List Transition) (w : PlainWorld) → Opens old → Says old ds w → AreNamedThere w
named_where old ds w o h x i q u at e there =
    let sent = sent_there old.inventory ds w x q i at e h.slots in
    let told = (h.units x.unit u there).0 in
    let one : x.address ≡ unit_address told.opened.opening =
    same (sym sent.job.addressed ∙ (o.addressed x.unit told.opened told.there).0) in
    one ∙ sym (ap (λ z. unit_address z) told.opening)

-- no unit is given a request that names another, or a ticket before one that it saw
never_stalled : (old : PlainWorld) (ds : List Transition) (x : PlainJob) (w : PlainWorld) → Opens old → EntersStale w x
    → AreBehind w → Says old ds w → ⊥
never_stalled old ds x w o m b h =
    let c = m.comes in
    let q = x.chain.ticket.queue in
    let sent = sent_there old.inventory ds w x c.queue q c.there c.arrived h.slots in
    let one = sent.job.ticket ∙ ap (λ z. z.ticket) sent.job.chain in
    let floor_is = ap (λ (t : Ticket). next_number t.queue c.unit.steps) one in
    let below = (b q c.queue c.there).floors x.unit c.unit c.unit_there in
    let front = ap (λ s. front_of s (length c.queue.ring.log.accepted)) c.arrived in
    elim m.stale [
      | inl other ↦ other (named_where old ds w o h x q c.queue c.unit c.there c.arrived c.unit_there)
      | inr late ↦ omega (arith, below, front, floor_is, late)
    ]

no_loss : (old : PlainWorld) (d : Transition) (ds : List Transition) → Opens old → Leads old (d ∷ ds)
    → Says old ds (world_of old ds) → IsLoss d → ⊥
no_loss old (Transition.CommitUnknown k x) ds o l h loss =
    never_lost k x (world_of old ds) l.1 (all_work (world_of old ds) (works_at old ds o l.0).3)
no_loss old (Transition.EnterStale x) ds o l h loss =
    never_stalled old ds x (world_of old ds) o l.1 (behind_at old ds o l.0) h
no_loss old d ds o l h loss = loss

pub says_at : (old : PlainWorld) (ds : List Transition) → Opens old → Leads old ds → Says old ds (world_of old ds)
says_at old [] o l = says_new old o
says_at old (d ∷ ds) o l =
    let h = says_at old ds o l.0 in
    says_transition old d ds (world_of old ds) (parts_at old ds l.0).inventory (no_loss old d ds o l h) l.1 h

all_named : (old : PlainWorld) (ds : List Transition) → Opens old → Leads old ds → AreNamedThere (world_of old ds)
all_named old ds o l = named_where old ds (world_of old ds) o (says_at old ds o l)

pub named_there : (old : PlainWorld) (trace : List Occurrence) (w : PlainWorld) → Reached old trace w → AreNamedThere w
named_there old trace w r = in_run (λ ds v. AreNamedThere v) old (λ ds l. all_named old ds r.opens l) trace w r.runs

all_addressed : (old : PlainWorld) (ds : List Transition) → Opens old → Leads old ds → AreAddressed (world_of old ds)
all_addressed old ds o l = addressed_where old ds (world_of old ds) o (parts_at old ds l).inventory (says_at old ds o l)

pub addressed_there : (old : PlainWorld) (trace : List Occurrence) (w : PlainWorld) → Reached old trace w → AreAddressed w
addressed_there old trace w r =
    in_run (λ ds v. AreAddressed v) old (λ ds l. all_addressed old ds r.opens l) trace w r.runs

pub none_is_lost : (old : PlainWorld) (ds : List Transition) → Opens old → Leads old ds → NoneIsLost ds
none_is_lost old ds o l h =
    let q = told_at IsLoss ds h in
    let b = leads_beginning old (q.0 ∷ q.1) ds q.2 l in
    no_loss old q.0 q.1 o b (says_at old q.1 o b.0) q.3

-- Histories

within : {X : Type 0} (xs : List X) (k : ℕ) (x : X) → slice_get xs k ≡ Some x → k < length xs
within [] k x e = absurd (nothing e)
within (y ∷ xs) zero x e = omega arith
within (y ∷ xs) (suc k) x e = let h = within xs k x e in omega (arith, h)

there_at : {X : Type 0} (xs : List X) (k : ℕ) → k < length xs → (x : X) × (slice_get xs k ≡ Some x)
there_at [] k h = absurd (omega (arith, h))
there_at (x ∷ xs) zero h = (x, refl)
there_at (x ∷ xs) (suc k) h = there_at xs k (omega (arith, h))

-- the unit of a transition's step is there
unit_in : (d : Transition) (w : PlainWorld) (s : Step) → MayHappen d w → step_in d ≡ Some s
    → (u : PlainUnit) × UnitIs w (index_in d) u
unit_in (Transition.Run x) w s m e = (m.comes.unit, m.comes.unit_there)
unit_in (Transition.Park x) w s m e = (m.comes.unit, m.comes.unit_there)
unit_in (Transition.EnterFull x) w s m e = (m.comes.unit, m.comes.unit_there)
unit_in (Transition.Commit k x r) w s m e = (m.holds.unit, m.holds.there)
unit_in (Transition.Withhold k x r) w s m e = (m.holds.unit, m.holds.there)
unit_in (Transition.CommitBusy k x) w s m e = (m.holds.unit, m.holds.there)
unit_in (Transition.Leave k unit_index t jobs) w s m e = (m.holds.unit, m.holds.there)
unit_in (Transition.Mark t p (Abort rule) jobs) w s m e = (m.marking.unit, m.marking.unit_there)
unit_in (Transition.Mark t p (Reset c) jobs) w s m e = (m.marking.unit, m.marking.unit_there)
unit_in (Transition.Hard p jobs) w s m e = (m.unit, m.there)
unit_in (Transition.Resize unit_index blocks) w s m e = (m.unit, m.there)
unit_in d w s m e = absurd (nothing e)

stands_there : (old : PlainWorld) (ds : List Transition) (unit_index : ℕ) (s : Step) → Leads old ds
    → Stands s (history_of unit_index ds) → (u : PlainUnit) × UnitIs (world_of old ds) unit_index u
stands_there old ds unit_index s l h =
    let q = done_at unit_index s ds h in
    let b = leads_beginning old (q.0 ∷ q.1) ds q.2 l in
    let is = step_is unit_index q.0 s q.3 in
    let u = unit_in q.0 (world_of old q.1) s b.1 is.1 in
    let n = within (world_of old q.1).units (index_in q.0) u.0 u.1 in
    let many = (parts_at old q.1 b.0).units in
    let now = (parts_at old ds l).units in
    let at = is.0 in
    there_at (world_of old ds).units unit_index (omega (arith, n, many, now, at))

pub are_histories : (old : PlainWorld) (ds : List Transition) → Opens old → Leads old ds
    → AreHistories old ds (world_of old ds)
are_histories old ds o l =
    record {
      told = λ i u at. ((says_at old ds o l).units i u at).0;
      lawful = λ i u at. ((works_at old ds o l).0 i u at).lawful;
      there = λ unit_index s h. stands_there old ds unit_index s l h;
    }

-- What entered

entering : (old : PlainWorld) (d : Transition) (ds : List Transition) (x : PlainJob) → Opens old → Leads old (d ∷ ds) → IsEnter x d
    → IsSent old.inventory ds x
entering old (Transition.Run y) ds x o l e =
    let c = l.1.comes in
    let h = (says_at old ds o l.0).slots in
    subst (IsSent old.inventory ds) e
    (sent_there old.inventory ds (world_of old ds) y c.queue y.chain.ticket.queue c.there c.arrived h)
entering old (Transition.Park y) ds x o l e =
    let c = l.1.comes in
    let h = (says_at old ds o l.0).slots in
    subst (IsSent old.inventory ds) e
    (sent_there old.inventory ds (world_of old ds) y c.queue y.chain.ticket.queue c.there c.arrived h)
entering old d ds x o l e = absurd e

-- a job that entered is that of a Fetch
pub entered_sent : (old : PlainWorld) (ds : List Transition) (x : PlainJob) → Opens old → Leads old ds → Happened (IsEnter x) ds
    → IsSent old.inventory ds x
entered_sent old ds x o l h =
    let q = told_at (IsEnter x) ds h in
    let b = leads_beginning old (q.0 ∷ q.1) ds q.2 l in
    let s = entering old q.0 q.1 x o b q.3 in
    let on = beginning_tail q.0 q.1 ds q.2 in
    record { fetch = s.fetch; fetched = told_on (λ d. IsFetch s.fetch d) q.1 ds on s.fetched; job = s.job }
