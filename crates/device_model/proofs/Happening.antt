-- What applies happens.
use Rattle.std.proofs.Common.{◌≡◌, ℕ, ◌<◌, ◌≤◌, ◌+◌, ◌-◌, ◌||◌, Bool, true, false, List, [], ◌∷◌, length, mod-lt, Option, Some, None, is_some, IfSome, ◌&&◌, refl, sym, ◌∙◌, ap, subst, arith, inl, inr}
use Rattle.std.specs.Prelude.{slice_get, ◌⊎◌, ◌==◌}
use Rattle.std.specs.List.{AllByRecursion}
use Rattle.std.proofs.lemmas.Option.{slice_get_cases, slice_get_within}
use Rattle.scsi_codec.specs.declared.event_queue.Event.{Event as EventRecord}
use Rattle.scsi_codec.specs.EventQueue.{event_bytes}
use Rattle.scsi_codec.specs.ControlQueue.{function_bytes}
use Rattle.ring_core.specs.State.{PlainChain}
use Rattle.ring_core.specs.declared.log.Ticket.{Ticket}
use Rattle.unit_model.specs.declared.reason.Reason.{Reason}
use Rattle.unit_model.specs.Tasks.{is_blocked}
use Rattle.unit_model.specs.Steps.{Step, alive, next_number}
use Rattle.unit_model.specs.Marks.{mark_of, marked}
use Rattle.unit_model.specs.Enabling.{enabled}
use Rattle.unit_model.specs.Lawful.{IsReady}
use Rattle.block_store.specs.Storage.{Ledger}
use Rattle.command_model.specs.Effects.{changes_medium}
use Rattle.command_model.specs.Statuses.{good}
use Rattle.command_model.specs.Waiting.{needs, waits_at}
use Rattle.unit_model.specs.Contents.{capacity_of, reply_after}
use Rattle.unit_model.specs.Unit.{is_backed, needs_medium, may_wait}
use Rattle.unit_model.specs.Seen.{any_met}
use Rattle.unit_model.proofs.Few.{alive_few}
use Rattle.unit_model.specs.Jobs.{PlainJob}
use Rattle.task_mgmt.specs.Functions.{step_by, response_of}
use Rattle.task_mgmt.specs.declared.kind.Kind.{Kind}
use Rattle.task_mgmt.specs.declared.kind.Kind.TheVariants.{Marking, Querying}
use Rattle.task_mgmt.specs.declared.function.Mark.{Mark as MarkAt}
use Rattle.device_model.specs.Parts.{Outcome, as_left, Slot, Hand, bytes_of, lengths_of, answer_writes}
use Rattle.device_model.specs.World.{PlainQueue, Opened, PlainWorld, owner}
use Rattle.device_model.specs.Events.{Event}
use Rattle.device_model.specs.Transitions.{Transition, event_of}
use Rattle.device_model.specs.Happens.{Happens, Occurrence, Reached}
use Rattle.device_model.specs.Found.{SeatIs, MayStep, HandAtUnit, handed_out}
use Rattle.device_model.specs.Event.Enter.{Comes}
use Rattle.device_model.specs.Applies.{Applies}
use Rattle.device_model.specs.Event.HandOff.{MayPut, MayTake}
use Rattle.device_model.specs.Event.Check.{MayCheck}
use Rattle.device_model.specs.Event.AnswerTmf.{MayRespond}
use Rattle.device_model.specs.Lawful.{AreUnits}
use Rattle.device_model.specs.Standing.{IsOwned, SlotOwns, AreOwned, SlotIsLatest, front_of, AreBehind, AreNamedThere, FunctionOwns, IsToCommit, IsToLeave, AreAtWork, FunctionIsThere}
use Rattle.ring_core.specs.Writes.{all_written}
use Rattle.device_model.proofs.Seeing.{seen_as_left}
use Rattle.device_model.proofs.Owning.{owned}
use Rattle.device_model.proofs.Staying.{run_stays, run_keeps, units_listed}
use Rattle.device_model.proofs.Floors.{AreOrdered, new_ordered, transition_orders, all_behind}
use Rattle.device_model.proofs.Working.{run_works, all_work}
use Rattle.device_model.proofs.Functions.{FindsUnits, new_finds, transition_finds}
use Rattle.device_model.specs.Waking.{IsOwn, IsFetch}
use Rattle.device_model.proofs.Rooms.{run_lists}
use Rattle.device_model.proofs.Off.{first_off}
use Rattle.device_model.proofs.Knowing.{named_there}
use Rattle.unit_model.specs.Asking.{IsNamed}

-- what is known of a world that is reached
record IsFit (w : PlainWorld) : Type 0 where
  pub owned : AreOwned w
  pub behind : AreBehind w
  pub at_work : AreAtWork w
  pub units : AreUnits w
  pub named : AreNamedThere w
  pub finds : FunctionIsThere (length w.units) w.function
  pub working : 1 ≤ w.workers
  pub seated : length w.seats ≡ w.workers + 1
  pub lists : length w.handed_off ≡ length w.seats

fit : (old : PlainWorld) (trace : List Occurrence) (w : PlainWorld) → Reached old trace w → IsFit w
fit old trace w r =
    let parts = run_stays old trace w r.runs in
    let works = run_works old trace w r.opens r.runs in
    let listed = units_listed old trace w r.opens r.runs in
    let finds = run_keeps FindsUnits transition_finds old trace w (new_finds old r.opens) r.runs in
    let ordered = run_keeps AreOrdered transition_orders old trace w (new_ordered old r.opens) r.runs in
    let a = r.opens.working in
    let b = r.opens.seated in
    let c = parts.workers in
    let d = parts.seats in
    record {
      owned = owned old trace w r.opens r.runs;
      behind = all_behind w listed ordered;
      at_work = all_work w works.3;
      units = works.0;
      named = named_there old trace w r;
      finds = subst (λ n. FunctionIsThere n w.function) (sym listed) finds;
      working = omega (arith, a, c);
      seated = omega (arith, b, c, d);
      lists = run_lists old trace w r.opens r.runs;
    }

-- a transition of the event happens
abbrev pub Does : PlainWorld → Event → Type 0
Does w e = (d : Transition) × (event_of d ≡ e) × Happens d w

there : {X : Type 0} (xs : List X) (k : ℕ) → k < length xs → (x : X) × (slice_get xs k ≡ Some x)
there xs k lt =
    elim (slice_get_cases xs k).1 [
      | inl q ↦ (q.0, q.2)
      | inr q ↦ absurd (let le = q.0 in omega (arith, le, lt))
    ]

-- Enter

abbrev CanEnter : PlainWorld → ℕ → PlainJob → Type 0
CanEnter w i x =
    (c : Comes w x) × (next_number x.entry.ticket.queue c.unit.steps ≤ x.entry.ticket.number)
    × (length (alive c.unit.steps) ≤ 64) × (x.chain.ticket.queue ≡ i) × IsNamed x c.unit

can_enter : (w : PlainWorld) (i : ℕ) (q : PlainQueue) (x : PlainJob) → IsFit w → slice_get w.queues i ≡ Some q
    → q.slot ≡ Slot.Arrived x → CanEnter w i x
can_enter w i q x f at e =
    let own : SlotOwns w i (Slot.Arrived x) = subst (SlotOwns w i) e (f.owned.slots i q at) in
    let b = f.behind i q at in
    let last : SlotIsLatest w q (Slot.Arrived x) = subst (SlotIsLatest w q) e b.latest in
    let n = length q.ring.log.accepted in
    let below : next_number i last.unit.steps ≤ front_of (Slot.Arrived x) n =
    subst (λ s. next_number i last.unit.steps ≤ front_of s n) e (b.floors x.unit last.unit last.there) in
    let named : x.entry.ticket.queue ≡ i = ap (λ (t : Ticket). t.queue) own.1.ticket ∙ own.0 in
    let k = owner w.workers x.chain.ticket.queue in
    let lt : k < w.workers = mod-lt (x.chain.ticket.queue - 2) f.working in
    let s = there w.seats k (let a = f.seated in omega (arith, lt, a)) in
    let comes : Comes w x =
    record {
      queue = q;
      there = ap (λ j. slice_get w.queues j) own.0 ∙ at;
      arrived = e;
      unit = last.unit;
      unit_there = last.there;
      seat = s.0;
      seat_there = s.1;
    } in (
      comes,
      subst (λ j. next_number j last.unit.steps ≤ x.entry.ticket.number) (sym named) below,
      alive_few last.unit.opening last.unit.steps (f.units x.unit last.unit last.there).lawful,
      own.0,
      f.named x i q last.unit at e last.there,
    )

few_or_full : (n : ℕ) → n ≤ 64 → (n < 64) ⊎ (n ≡ 64)
few_or_full n le = grind arith

run_or_park : (w : PlainWorld) (i : ℕ) (x : PlainJob) (c : Comes w x) → IsNamed x c.unit
    → MayStep c.unit (Step.Enter x.entry) → x.chain.ticket.queue ≡ i → Does w (Event.Enter i)
run_or_park w i x c named may e =
    (elim (is_blocked x.entry (alive (Step.Enter x.entry ∷ c.unit.steps))) as (λ b.
    is_blocked x.entry (alive (Step.Enter x.entry ∷ c.unit.steps)) ≡ b → Does w (Event.Enter i)) [
      | true ↦ λ k. (Transition.Park x, ap Event.Enter e, record { comes = c; named = named; may = may; blocked = k })
      | false ↦ λ k. (Transition.Run x, ap Event.Enter e, record { comes = c; named = named; may = may; blocked = k })
    ]) refl

enters : (w : PlainWorld) (i : ℕ) (x : PlainJob) → CanEnter w i x → Does w (Event.Enter i)
enters w i x (c, next_number, few, e, named) =
    elim (few_or_full (length (alive c.unit.steps)) few) [
      | inl lt ↦ run_or_park w i x c named (lt, next_number) e
      | inr full ↦ (Transition.EnterFull x, ap Event.Enter e, record { comes = c; named = named; may = (full, next_number) })
    ]

-- Direct

directs : (w : PlainWorld) (i : ℕ) (c : PlainChain) (o : Outcome) (q : PlainQueue) → IsFit w
    → slice_get w.queues i ≡ Some q → q.slot ≡ Slot.Direct c o → Does w (Event.Direct i)
directs w i c o q f at e =
    let own : SlotOwns w i (Slot.Direct c o) = subst (SlotOwns w i) e (f.owned.slots i q at) in
    let xs = as_left w.memory (answer_writes q.ring c (bytes_of (lengths_of c) o)) in (
      Transition.Direct c o xs,
      ap Event.Direct own.0,
      record {
        queue = q;
        there = ap (λ j. slice_get w.queues j) own.0 ∙ at;
        ready = e;
        writes = refl;
        seen = seen_as_left w.shared (all_written w.memory xs.writes);
      },
    )

-- Put

room_or_full : (k n : ℕ) → (k < n) ⊎ (n ≤ k)
room_or_full k n = grind arith

puts : (w : PlainWorld) (k : ℕ) → IsFit w → MayPut w k → Does w (Event.Put k)
puts w k f h =
    let lt = slice_get_within w.seats k (record { hand = Hand.Empty; out = h.job ∷ h.rest }) h.seat in
    let list = there w.handed_off k (omega (arith, lt, f.lists)) in
    elim (room_or_full (length list.0) w.limit) [
      | inl room ↦ (
        Transition.Put k h.job,
        refl,
        record { rest = h.rest; seat = h.seat; off = list.0; there = list.1; room = room },
      )
      | inr full ↦ (
        Transition.Keep k h.job,
        refl,
        record { rest = h.rest; seat = h.seat; off = list.0; there = list.1; full = full },
      )
    ]

-- Take

takes : (w : PlainWorld) (k : ℕ) → MayTake w k → Does w (Event.Take k)
takes w k h =
    let f = first_off w.handed_off k h.from h.job h.rest h.handed_off in (
      Transition.Take k f.0 f.1,
      refl,
      record { worker = h.worker; seat = h.seat; rest = f.2; handed_off = f.3; first = f.4 },
    )

-- Commit

some_reason : (o : Option Reason) → is_some o ≡ true → (why : Reason) × (o ≡ Some why)
some_reason None h = absurd (cc)
some_reason (Some why) h = (why, refl)

or_left : (a b : Bool) → (a || b) ≡ true → b ≡ false → a ≡ true
or_left true b h e = refl
or_left false b h e = absurd (let f : false ≡ true = sym e ∙ h in cc)

or_true : (a : Bool) → (a || true) ≡ true
or_true true = refl
or_true false = refl

-- a command that doesn't wait promises nothing of a storage
nothing_promised : (backed : Bool) (needed flush through : Bool) (storage : Option Ledger) (P : Ledger → Type 0) → is_some storage ≡ backed
    → (backed && ((needed || flush) || through)) ≡ false → flush ≡ true → IfSome storage P
nothing_promised backed needed flush through None P is calm flushes = tt
nothing_promised backed needed flush through (Some l) P is calm flushes =
    let never : true ≡ false = rw (sym is, flushes, or_true needed) at calm in absurd (cc)

-- nor is its answer withheld
answers_at_once : (backed calm tells changes well : Bool) → (backed && (calm || (tells && changes))) ≡ false
    → (backed && (tells && (changes && well))) ≡ true → ⊥
answers_at_once true true tells changes well a b = cc
answers_at_once true false true true well a b = cc
answers_at_once true false true false well a b = cc
answers_at_once true false false changes well a b = cc
answers_at_once false calm tells changes well a b = cc

-- a command that may run does, or waits for the storage
run_or_wait : (w : PlainWorld) (k : ℕ) (x : PlainJob) (holds : HandAtUnit w k (Hand.Taken x) x.unit)
    → IsReady x.entry.ticket x.entry holds.unit.steps → (b : Bool) → may_wait holds.unit x.entry ≡ b → Does w (Event.Commit k)
run_or_wait w k x holds ready true waits =
    (Transition.Defer k x, refl, record { holds = holds; entry = x.entry; waits = inl (ready, waits) })
run_or_wait w k x holds ready false calm = (
  Transition.Commit k x (reply_after holds.unit.opening x.entry holds.unit.steps),
  refl,
  record {
    holds = holds;
    may = (
      x.entry,
      ready,
      inl (
        refl,
        λ ends flush.
            nothing_promised _ (needs (capacity_of holds.unit.opening holds.unit.steps) x.entry.command) _ _ holds.unit.storage _ refl calm flush,
      ),
      λ waits.
          absurd (answers_at_once (is_backed holds.unit) (waits_at (capacity_of holds.unit.opening holds.unit.steps) x.entry.asks_medium x.entry.command)
          (needs_medium holds.unit x.entry) (changes_medium x.entry.command)
          ((reply_after holds.unit.opening x.entry holds.unit.steps).status == good) calm waits),
    );
  },
)

commits : (w : PlainWorld) (k : ℕ) (x : PlainJob) (out : List PlainJob) → IsToCommit w x
    → SeatIs w k (Hand.Taken x) out → Does w (Event.Commit k)
commits w k x out c at =
    let t = x.entry.ticket in
    let h = c.unit.steps in
    let holds : HandAtUnit w k (Hand.Taken x) x.unit =
    record { out = out; seat = at; unit = c.unit; there = c.there } in
    elim c.undone [
      | inl undone ↦
          (elim (marked t h) as (λ b. marked t h ≡ b → Does w (Event.Commit k)) [
            | true ↦ λ m.
                let why = some_reason (mark_of t h) m in
                let alive = ap (λ o. is_some o) c.alive in
                (Transition.CommitAborted k x why.0, refl, record { holds = holds; alive = alive; marked = why.1 })
            | false ↦ λ m.
                let on = or_left (enabled x.entry h) (marked t h) c.handed_out m in
                let ready : IsReady t x.entry h =
                record { is_there = c.alive; is_enabled = on; is_unmarked = m; is_undone = undone } in
                run_or_wait w k x holds ready (may_wait c.unit x.entry) refl
          ]) refl
      | inr withheld ↦ (Transition.Defer k x, refl, record { holds = holds; entry = x.entry; waits = inr withheld })
    ]

-- Answer and Leave

answers : (w : PlainWorld) (k : ℕ) (x : PlainJob) (o : Outcome) (out : List PlainJob) → IsOwned w x.chain
    → SeatIs w k (Hand.Done x o) out → Does w (Event.Answer k)
answers w k x o out own at =
    let xs = as_left w.memory (answer_writes own.queue.ring x.chain (bytes_of (lengths_of x.chain) o)) in (
      Transition.Answer k x o xs,
      refl,
      record {
        out = out;
        seat = at;
        queue = own.queue;
        there = own.there;
        writes = refl;
        seen = seen_as_left w.shared (all_written w.memory xs.writes);
      },
    )

leaves : (w : PlainWorld) (k unit_index : ℕ) (t : Ticket) (out : List PlainJob) → IsToLeave w unit_index t
    → SeatIs w k (Hand.Answered unit_index t) out → Does w (Event.Leave k)
leaves w k unit_index t out l at = (
  Transition.Leave k unit_index t (handed_out l.unit (Step.Leave t)),
  refl,
  record {
    holds = record { out = out; seat = at; unit = l.unit; there = l.there };
    may = (l.entry, l.alive, l.ended);
    enables = refl;
  },
)

-- The function

its_units : (w : PlainWorld) (o : Opened) → IsFit w → w.function ≡ Some o → FunctionIsThere (length w.units) (Some o)
its_units w o f e = subst (FunctionIsThere (length w.units)) e f.finds

marks : (w : PlainWorld) (o : Opened) (unit_index : ℕ) (later : List ℕ) (kind : Kind) → IsFit w → w.function ≡ Some o
    → o.function.left ≡ unit_index ∷ later → o.function.kind ≡ kind → Does w Event.Mark
marks w o unit_index later (Marking m) f at left kind =
    let lt = (subst (AllByRecursion (λ k. k < length w.units)) left (its_units w o f at).0).0 in
    let u = there w.units unit_index lt in
    let s = there w.seats 0 (let a = f.seated in omega (arith, a)) in
    let p : MarkAt = record { unit = unit_index; place = length u.0.steps } in (
      Transition.Mark o.chain.ticket p m (handed_out u.0 (step_by m)),
      refl,
      record {
        marking =
            record {
              opened = o;
              there = at;
              of = refl;
              does = kind;
              later = later;
              left = left;
              unit = u.0;
              unit_there = u.1;
            };
        before = refl;
        releases = refl;
        seat = s.0;
        seat_there = s.1;
      },
    )
marks w o unit_index later (Querying rule) f at left kind =
    let lt = (subst (AllByRecursion (λ k. k < length w.units)) left (its_units w o f at).0).0 in
    let u = there w.units unit_index lt in (
      Transition.Ask o.chain.ticket unit_index rule (any_met rule (alive u.0.steps)),
      refl,
      record {
        marking =
            record {
              opened = o;
              there = at;
              of = refl;
              does = kind;
              later = later;
              left = left;
              unit = u.0;
              unit_there = u.1;
            };
        is = refl;
      },
    )

checks : (w : PlainWorld) → MayCheck w → Does w Event.Check
checks w h = (
  Transition.Check h.opened.chain.ticket h.mark,
  refl,
  record {
    later = h.later;
    waiting = record { opened = h.opened; there = h.there; of = refl; left = h.left; still = h.still };
    unit = h.unit;
    there = h.unit_there;
    clear = h.clear;
  },
)

responds : (w : PlainWorld) → IsFit w → MayRespond w → Does w Event.AnswerTmf
responds w f h =
    let c = h.opened.chain in
    let own : FunctionOwns w (Some h.opened) = subst (FunctionOwns w) h.there f.owned.function in
    let r = response_of h.opened.function in
    let xs = as_left w.memory (answer_writes own.1.queue.ring c (function_bytes r)) in (
      Transition.Respond c r xs,
      refl,
      record {
        waiting = record { opened = h.opened; there = h.there; of = refl; left = h.left; still = h.still };
        chain = refl;
        response = refl;
        queue = own.1.queue;
        there = own.1.there;
        writes = refl;
        seen = seen_as_left w.shared (all_written w.memory xs.writes);
      },
    )

-- Raise

raises : (w : PlainWorld) (e : EventRecord) (later : List EventRecord) (buffers : List PlainChain) → IsFit w
    → w.waiting ≡ e ∷ later → w.buffers ≡ buffers → Does w Event.Raise
raises w e later [] f waits held = (Transition.Miss e, refl, record { later = later; waits = waits; none = held })
raises w e later (c ∷ more) f waits held =
    let P : List PlainChain → Type 0 = λ l. AllByRecursion (λ (z : PlainChain). (z.ticket.queue ≡ 1) × IsOwned w z) l in
    let own : IsOwned w c = (subst P held f.owned.buffers).0.1 in
    let xs = as_left w.memory (answer_writes own.queue.ring c (event_bytes e)) in (
      Transition.Give e c xs,
      refl,
      record {
        later = later;
        waits = waits;
        more = more;
        held = held;
        queue = own.queue;
        there = own.there;
        writes = refl;
        seen = seen_as_left w.shared (all_written w.memory xs.writes);
      },
    )

-- Any event

does : (w : PlainWorld) (e : Event) → IsFit w → IsOwn e → (IsFetch e → ⊥) → Applies w e → Does w e
does w (Event.Poke x) f own no_fetch h = absurd own
does w (Event.Prepare k) f own no_fetch h = absurd own
does w (Event.Resize unit_index blocks) f own no_fetch h = absurd own
does w (Event.Hard unit_index) f own no_fetch h = absurd own
does w Event.Wake f own no_fetch h = absurd own
does w (Event.Deal unit_index x) f own no_fetch h = absurd own
does w (Event.Resume k) f own no_fetch h =
    (Transition.Resume k h.job, refl, record { worker = h.worker; free = h.free; rest = h.rest; first = h.first })
does w (Event.Fetch i) f own no_fetch h = absurd (no_fetch tt)
does w (Event.Enter i) f own no_fetch (x, h) = enters w i x (can_enter w i h.0 x f h.1 h.2)
does w (Event.Direct i) f own no_fetch (c, o, h) = directs w i c o h.0 f h.1 h.2
does w (Event.Put k) f own no_fetch h = puts w k f h
does w (Event.Take k) f own no_fetch h = takes w k h
does w (Event.Commit k) f own no_fetch (x, h) = commits w k x h.0 (f.at_work.seats k _ h.1).0 h.1
does w (Event.Answer k) f own no_fetch (x, o, h) = answers w k x o h.0 (f.owned.seats k _ h.1).0.chain h.1
does w (Event.Leave k) f own no_fetch (unit_index, t, h) = leaves w k unit_index t h.0 (f.at_work.seats k _ h.1).0 h.1
does w Event.Mark f own no_fetch h =
    marks w h.opened h.unit_index h.later h.opened.function.kind f h.there h.left refl
does w Event.Check f own no_fetch h = checks w h
does w Event.AnswerTmf f own no_fetch h = responds w f h
does w Event.Raise f own no_fetch (e, later, h) = raises w e later w.buffers f h refl

pub applies_happens : (old : PlainWorld) (trace : List Occurrence) (w : PlainWorld) (e : Event) → Reached old trace w
    → IsOwn e → (IsFetch e → ⊥) → Applies w e → Does w e
applies_happens old trace w e r own no_fetch h = does w e (fit old trace w r) own no_fetch h
