-- What stands in a slot, in a hand or in a list is what some transition told.
use Rattle.std.proofs.Common.{◌≡◌, ℕ, zero, suc, cond, not, List, [], ◌∷◌, ◌++◌, drop, Some, None, refl, sym, ◌∙◌, ap, subst, arith, inl, inr, eq-eqb}
use Rattle.std.specs.Prelude.{slice_get, ⊤}
use Rattle.std.specs.List.{AllByRecursion, Contains}
use Rattle.ring_core.specs.State.{PlainChain}
use Rattle.request_intake.specs.Inventory.{PlainInventory}
use Rattle.request_intake.specs.declared.decision.Decision.TheVariants as decision
use Rattle.unit_model.specs.Endings.{Ending}
use Rattle.unit_model.specs.Steps.{Step}
use Rattle.unit_model.specs.Released.{released}
use Rattle.unit_model.specs.Jobs.{PlainJob, is_job_of}
use Rattle.unit_model.specs.Unit.{PlainUnit, after as stepped, parking, dealing}
use Rattle.task_mgmt.specs.Functions.{step_by}
use Rattle.device_model.specs.Parts.{PlainFetch, Outcome, Slot, Hand, request_of}
use Rattle.device_model.specs.World.{PlainQueue, Seat, PlainWorld, Opens, change, owner, Everywhere, all_of, all_off}
use Rattle.device_model.specs.Transitions.{Transition}
use Rattle.device_model.specs.Event.Hard.{hard_code}
use Rattle.device_model.specs.Changing.{arriving, taking, slotted, broken_by, completing, directing, spending, with_hand, without_first, with_jobs, with_job, leaving}
use Rattle.device_model.specs.After.{after}
use Rattle.device_model.specs.Happens.{MayHappen}
use Rattle.device_model.specs.Event.Fetch.{DecidesRequest, IsDirect}
use Rattle.device_model.specs.Found.{handed_out}
use Rattle.device_model.proofs.Lists.{at_other}
use Rattle.device_model.proofs.Staying.{everywhere}
use Rattle.device_model.proofs.Named.{all_filter, all_push}
use Rattle.device_model.proofs.Steps.{at_own, stands_on, stands_new}
use Rattle.device_model.specs.Happened.{Happened, IsFetch, IsShed, IsLoss}
use Rattle.device_model.specs.Inner.Happened.{IsEnter, IsFull, IsBusy, IsAbort}
use Rattle.device_model.specs.Histories.{at_index, step_of, pushed, history_of, Stands, IsToldOf}
use Rattle.device_model.specs.Entering.{IsJobOf, IsSent}
use Rattle.device_model.proofs.Off.{each_put, each_taken, none_between, between, between_all, between_parts, each_woken, each_push, first_taken}

abbrev Each : {X : Type 0} → (X → Type 0) → List X → Type 0
Each P xs = AllByRecursion P xs

each_map : {X : Type 0} (P Q : X → Type 0) (xs : List X) → ((x : X) → P x → Q x) → Each P xs → Each Q xs
each_map P Q [] f h = tt
each_map P Q (x ∷ xs) f h = (f x h.0, each_map P Q xs f h.1)

each_rest : {X : Type 0} (P : X → Type 0) (xs : List X) → Each P xs → Each P (drop 1 xs)
each_rest P [] h = tt
each_rest P (x ∷ xs) h = h.1

-- the outcome in a queue's slot: the direct answer of the bytes of the Fetch of the chain, or that its unit was full,
-- or was refused memory
abbrev pub IsRefused : PlainInventory → PlainChain → Outcome → List Transition → Type 0
IsRefused units c (Outcome.Decided a) ds =
    (f : PlainFetch) × Happened (IsFetch f) ds × (f.chain ≡ c) × IsDirect units f.chain.ticket.queue f a
IsRefused units c (Outcome.Ended Ending.Full) ds =
    (x : PlainJob) × (x.chain ≡ c) × IsSent units ds x × Happened (IsFull x) ds
IsRefused units c (Outcome.Ended Ending.Busy) ds =
    (x : PlainJob) × (x.chain ≡ c) × IsSent units ds x × Happened (IsShed x) ds
IsRefused units c (Outcome.Ended (Ending.Replied r)) ds = ⊥
IsRefused units c (Outcome.Ended (Ending.Aborted why)) ds = ⊥
IsRefused units c (Outcome.Ended Ending.Lost) ds = ⊥

-- the outcome in a hand: how the job's Commit ended
abbrev pub IsEndedBy : PlainJob → Outcome → List Transition → Type 0
IsEndedBy x (Outcome.Ended (Ending.Replied r)) ds = Stands (Step.Commit x.entry.ticket r) (history_of x.unit ds)
IsEndedBy x (Outcome.Ended Ending.Busy) ds = Happened (IsBusy x) ds
IsEndedBy x (Outcome.Ended (Ending.Aborted why)) ds = Happened (IsAbort x why) ds
IsEndedBy x (Outcome.Ended Ending.Full) ds = ⊥
IsEndedBy x (Outcome.Ended Ending.Lost) ds = ⊥
IsEndedBy x (Outcome.Decided a) ds = ⊥

abbrev pub SlotSays : PlainInventory → List Transition → Slot → Type 0
SlotSays units ds Slot.Empty = ⊤
SlotSays units ds (Slot.Arrived x) = IsSent units ds x
SlotSays units ds (Slot.Direct c o) = IsRefused units c o ds

abbrev pub JobSays : List Transition → PlainJob → Type 0
JobSays ds x = Happened (IsEnter x) ds

abbrev pub HandSays : List Transition → Hand → Type 0
HandSays ds Hand.Empty = ⊤
HandSays ds (Hand.Taken x) = JobSays ds x
HandSays ds (Hand.Done x o) = JobSays ds x × IsEndedBy x o ds
HandSays ds (Hand.Answered unit_index t) = ⊤

abbrev pub SeatSays : List Transition → Seat → Type 0
SeatSays ds s = HandSays ds s.hand × Each (JobSays ds) s.out

abbrev pub UnitSays : PlainWorld → List Transition → ℕ → PlainUnit → Type 0
UnitSays old ds unit_index u = IsToldOf old ds unit_index u × Each (JobSays ds) u.parked

abbrev Slots : PlainInventory → List Transition → List PlainQueue → Type 0
Slots units ds qs = Everywhere (λ i q. SlotSays units ds q.slot) qs

abbrev Seats : List Transition → List Seat → Type 0
Seats ds ss = Everywhere (λ k s. SeatSays ds s) ss

abbrev Units : PlainWorld → List Transition → List PlainUnit → Type 0
Units old ds us = Everywhere (UnitSays old ds) us

-- the world has what the transitions told
pub record Says (old : PlainWorld) (ds : List Transition) (w : PlainWorld) : Type 0 where
  pub slots : Slots old.inventory ds w.queues
  pub seats : Seats ds w.seats
  pub handed_off : Each (JobSays ds) (between w)
  pub units : Units old ds w.units

-- What was said before is still said

pub older_sent : (units : PlainInventory) (d : Transition) (ds : List Transition) (x : PlainJob) → IsSent units ds x
    → IsSent units (d ∷ ds) x
older_sent units d ds x h = record { fetch = h.fetch; fetched = inr h.fetched; job = h.job }

older_refused : (units : PlainInventory) (c : PlainChain) (o : Outcome) (d : Transition) (ds : List Transition)
    → IsRefused units c o ds → IsRefused units c o (d ∷ ds)
older_refused units c (Outcome.Decided a) d ds h = (h.0, inr h.1, h.2, h.3)
older_refused units c (Outcome.Ended Ending.Full) d ds h = (h.0, h.1, older_sent units d ds h.0 h.2, inr h.3)
older_refused units c (Outcome.Ended Ending.Busy) d ds h = (h.0, h.1, older_sent units d ds h.0 h.2, inr h.3)
older_refused units c (Outcome.Ended (Ending.Replied r)) d ds h = h
older_refused units c (Outcome.Ended (Ending.Aborted why)) d ds h = h
older_refused units c (Outcome.Ended Ending.Lost) d ds h = h

older_ended : (x : PlainJob) (o : Outcome) (d : Transition) (ds : List Transition) → IsEndedBy x o ds → IsEndedBy x o (d ∷ ds)
older_ended x (Outcome.Decided a) d ds h = h
older_ended x (Outcome.Ended Ending.Full) d ds h = h
older_ended x (Outcome.Ended Ending.Busy) d ds h = inr h
older_ended x (Outcome.Ended (Ending.Replied r)) d ds h =
    stands_on (step_of x.unit d) (Step.Commit x.entry.ticket r) (history_of x.unit ds) h
older_ended x (Outcome.Ended (Ending.Aborted why)) d ds h = inr h
older_ended x (Outcome.Ended Ending.Lost) d ds h = h

older_slot : (units : PlainInventory) (s : Slot) (d : Transition) (ds : List Transition) → SlotSays units ds s
    → SlotSays units (d ∷ ds) s
older_slot units Slot.Empty d ds h = tt
older_slot units (Slot.Arrived x) d ds h = older_sent units d ds x h
older_slot units (Slot.Direct c o) d ds h = older_refused units c o d ds h

older_hand : (h : Hand) (d : Transition) (ds : List Transition) → HandSays ds h → HandSays (d ∷ ds) h
older_hand Hand.Empty d ds h = tt
older_hand (Hand.Taken x) d ds h = inr h
older_hand (Hand.Done x o) d ds h = (inr h.0, older_ended x o d ds h.1)
older_hand (Hand.Answered unit_index t) d ds h = tt

older_jobs : (xs : List PlainJob) (d : Transition) (ds : List Transition) → Each (JobSays ds) xs → Each (JobSays (d ∷ ds)) xs
older_jobs xs d ds h = each_map (JobSays ds) (JobSays (d ∷ ds)) xs (λ x q. inr q) h

old_slots : (units : PlainInventory) (d : Transition) (ds : List Transition) (qs : List PlainQueue) → Slots units ds qs
    → Slots units (d ∷ ds) qs
old_slots units d ds qs h i q e = older_slot units q.slot d ds (h i q e)

old_seats : (d : Transition) (ds : List Transition) (ss : List Seat) → Seats ds ss → Seats (d ∷ ds) ss
old_seats d ds ss h i s e = (older_hand s.hand d ds (h i s e).0, older_jobs s.out d ds (h i s e).1)

-- a unit that takes no step
old_unit : (old : PlainWorld) (d : Transition) (ds : List Transition) (unit_index : ℕ) (u : PlainUnit)
    → history_of unit_index (d ∷ ds) ≡ history_of unit_index ds → UnitSays old ds unit_index u → UnitSays old (d ∷ ds) unit_index u
old_unit old d ds unit_index u e h = (
  record { opened = h.0.opened; there = h.0.there; opening = h.0.opening; steps = h.0.steps ∙ sym e },
  older_jobs u.parked d ds h.1,
)

old_units : (old : PlainWorld) (d : Transition) (ds : List Transition) (us : List PlainUnit)
    → ((unit_index : ℕ) → history_of unit_index (d ∷ ds) ≡ history_of unit_index ds) → Units old ds us → Units old (d ∷ ds) us
old_units old d ds us e h i u at = old_unit old d ds i u (e i) (h i u at)

-- One part changes

-- a queue whose slot stays
kept_slots : (units : PlainInventory) (d : Transition) (ds : List Transition) (g : PlainQueue → PlainQueue) (k : ℕ)
    (qs : List PlainQueue) → ((q : PlainQueue) → (g q).slot ≡ q.slot) → Slots units ds qs
    → Slots units (d ∷ ds) (change g k qs)
kept_slots units d ds g k qs e h =
    everywhere (λ i q. SlotSays units (d ∷ ds) q.slot) g k qs
    (λ q at p. subst (SlotSays units (d ∷ ds)) (sym (e q)) p) (old_slots units d ds qs h)

-- a queue that gets this slot
new_slots : (units : PlainInventory) (d : Transition) (ds : List Transition) (g : PlainQueue → PlainQueue) (k : ℕ)
    (qs : List PlainQueue) (s : Slot) → ((q : PlainQueue) → (g q).slot ≡ s) → SlotSays units (d ∷ ds) s
    → Slots units ds qs → Slots units (d ∷ ds) (change g k qs)
new_slots units d ds g k qs s e is h =
    everywhere (λ i q. SlotSays units (d ∷ ds) q.slot) g k qs
    (λ q at p. subst (SlotSays units (d ∷ ds)) (sym (e q)) is) (old_slots units d ds qs h)

one_seat : (d : Transition) (ds : List Transition) (g : Seat → Seat) (k : ℕ) (ss : List Seat)
    → ((s : Seat) → SeatSays (d ∷ ds) s → SeatSays (d ∷ ds) (g s)) → Seats ds ss → Seats (d ∷ ds) (change g k ss)
one_seat d ds g k ss f h = everywhere (λ i s. SeatSays (d ∷ ds) s) g k ss (λ s at p. f s p) (old_seats d ds ss h)

-- a seat gets this hand
handed : (d : Transition) (ds : List Transition) (x : Hand) (k : ℕ) (ss : List Seat) → HandSays (d ∷ ds) x → Seats ds ss
    → Seats (d ∷ ds) (change (with_hand x) k ss)
handed d ds x k ss is h = one_seat d ds (with_hand x) k ss (λ s p. (is, p.1)) h

-- and gives up its first job
dropped : (d : Transition) (ds : List Transition) (x : Hand) (k : ℕ) (ss : List Seat) → HandSays (d ∷ ds) x → Seats ds ss
    → Seats (d ∷ ds) (change (without_first x) k ss)
dropped d ds x k ss is h =
    one_seat d ds (without_first x) k ss (λ s p. (is, each_rest (JobSays (d ∷ ds)) s.out p.1)) h

-- a seat gets jobs
added : (d : Transition) (ds : List Transition) (xs : List PlainJob) (k : ℕ) (ss : List Seat) → Each (JobSays (d ∷ ds)) xs
    → Seats ds ss → Seats (d ∷ ds) (change (with_jobs xs) k ss)
added d ds xs k ss is h =
    one_seat d ds (with_jobs xs) k ss (λ s p. (p.0, all_push (JobSays (d ∷ ds)) s.out xs p.1 is)) h

left_with : (d : Transition) (ds : List Transition) (xs : List PlainJob) (k : ℕ) (ss : List Seat) → Each (JobSays (d ∷ ds)) xs
    → Seats ds ss → Seats (d ∷ ds) (change (leaving xs) k ss)
left_with d ds xs k ss is h =
    one_seat d ds (leaving xs) k ss (λ s p. (tt, all_push (JobSays (d ∷ ds)) s.out xs p.1 is)) h

-- a unit takes a step
steps_on : (old : PlainWorld) (d : Transition) (ds : List Transition) (g : PlainUnit → PlainUnit) (s : Step) (k : ℕ)
    (us : List PlainUnit) → ((u : PlainUnit) → (g u).opening ≡ u.opening)
    → ((u : PlainUnit) → (g u).steps ≡ s ∷ u.steps)
    → ((u : PlainUnit) → Each (JobSays (d ∷ ds)) u.parked → Each (JobSays (d ∷ ds)) (g u).parked)
    → ((i : ℕ) → history_of i (d ∷ ds) ≡ pushed (at_index i k s) (history_of i ds)) → Units old ds us
    → Units old (d ∷ ds) (change g k us)
steps_on old d ds g s k us eo es ep eh h i y at =
    let o = at_other g k us i y at in
    let was = h i o.0 o.1 in
    let jobs = older_jobs o.0.parked d ds was.1 in
    elim o.2 [
      | inl p ↦
          let own = ap (λ b. pushed (cond b (Some s) None) (history_of i ds)) (eq-eqb k i (sym p.0)) in
          subst (UnitSays old (d ∷ ds) i) (sym p.1) (
            record {
              opened = was.0.opened;
              there = was.0.there;
              opening = eo o.0 ∙ was.0.opening;
              steps = es o.0 ∙ ap (λ l. s ∷ l) was.0.steps ∙ sym (eh i ∙ own);
            },
            ep o.0 jobs,
          )
      | inr p ↦
          let other = ap (λ b. pushed (cond b (Some s) None) (history_of i ds)) p.0 in
          subst (UnitSays old (d ∷ ds) i) (sym p.1) (old_unit old d ds i o.0 (eh i ∙ other) was)
    ]

-- by which it may hand out jobs
steps : (old : PlainWorld) (d : Transition) (ds : List Transition) (s : Step) (k : ℕ) (us : List PlainUnit)
    → ((i : ℕ) → history_of i (d ∷ ds) ≡ pushed (at_index i k s) (history_of i ds)) → Units old ds us
    → Units old (d ∷ ds) (change (stepped s) k us)
steps old d ds s k us eh h =
    steps_on old d ds (stepped s) s k us (λ u. refl) (λ u. refl)
    (λ u p. all_filter (JobSays (d ∷ ds)) (λ j. not (is_job_of (released s u.steps) j)) u.parked p) eh h

-- the jobs that it hands out had entered
given : (old : PlainWorld) (d : Transition) (ds : List Transition) (s : Step) (k : ℕ) (us : List PlainUnit) (u : PlainUnit)
    (jobs : List PlainJob) → slice_get us k ≡ Some u → jobs ≡ handed_out u s → Units old ds us
    → Each (JobSays (d ∷ ds)) jobs
given old d ds s k us u jobs at e h =
    let all = older_jobs u.parked d ds (h k u at).1 in
    subst (Each (JobSays (d ∷ ds))) (sym e)
    (all_filter (JobSays (d ∷ ds)) (is_job_of (released s u.steps)) u.parked all)

-- the job of a slot
pub sent_there : (units : PlainInventory) (ds : List Transition) (w : PlainWorld) (x : PlainJob) (q : PlainQueue) (i : ℕ)
    → slice_get w.queues i ≡ Some q → q.slot ≡ Slot.Arrived x → Slots units ds w.queues → IsSent units ds x
sent_there units ds w x q i at e h = subst (SlotSays units ds) e (h i q at)

-- the slots alone
queues_alone : (old : PlainWorld) (d : Transition) (ds : List Transition) (w v : PlainWorld) → v.seats ≡ w.seats
    → between v ≡ between w → v.units ≡ w.units
    → ((unit_index : ℕ) → history_of unit_index (d ∷ ds) ≡ history_of unit_index ds) → Slots old.inventory (d ∷ ds) v.queues
    → Says old ds w → Says old (d ∷ ds) v
queues_alone old d ds w v a b c e q h =
    record {
      slots = q;
      seats = subst (λ z. Seats (d ∷ ds) z) (sym a) (old_seats d ds w.seats h.seats);
      handed_off = subst (λ z. Each (JobSays (d ∷ ds)) z) (sym b) (older_jobs (between w) d ds h.handed_off);
      units = subst (λ z. Units old (d ∷ ds) z) (sym c) (old_units old d ds w.units e h.units);
    }

-- a step of a history stands there
contained : (s : Step) (h : List Step) → Contains h s → Stands s h
contained s [] c = absurd (omega (arith, c.1))
contained s (r ∷ past) (zero, l, e) = inl e
contained s (r ∷ past) (suc k, l, e) = inr (contained s past (k, omega (arith, l), e))

-- One transition

pub says_transition : (old : PlainWorld) (d : Transition) (ds : List Transition) (w : PlainWorld) → w.inventory ≡ old.inventory
    → (IsLoss d → ⊥) → MayHappen d w → Says old ds w → Says old (d ∷ ds) (after d w)
says_transition old (Transition.Arrive f x) ds w e n m h =
    let d = Transition.Arrive f x in
    let i = old.inventory in
    let decided = subst (λ z. DecidesRequest z f (decision.Enter x.unit (request_of x.entry))) e m.decided in
    let addressed = subst (λ (z : PlainInventory). slice_get z.addresses x.unit ≡ Some x.address) e m.addressed in
    let job : IsJobOf i f x =
    record { chain = sym m.chain; ticket = m.ticket; decided = decided; addressed = addressed } in
    let sent : IsSent i (d ∷ ds) x = record { fetch = f; fetched = inl refl; job = job } in
    let q = f.chain.ticket.queue in
    queues_alone old d ds w (after d w) refl refl refl (λ k. refl)
    (new_slots i d ds (arriving f.chain (Slot.Arrived x)) q w.queues (Slot.Arrived x) (λ z. refl) sent h.slots) h
says_transition old (Transition.Refuse f a) ds w e n m h =
    let d = Transition.Refuse f a in
    let i = old.inventory in
    let q = f.chain.ticket.queue in
    let s = Slot.Direct f.chain (Outcome.Decided a) in
    let decided = subst (λ z. IsDirect z q f a) e m.decided in
    queues_alone old d ds w (after d w) refl refl refl (λ k. refl)
    (new_slots i d ds (arriving f.chain s) q w.queues s (λ z. refl) (f, inl refl, refl, decided) h.slots) h
says_transition old (Transition.Open f g) ds w e n m h =
    let d = Transition.Open f g in
    queues_alone old d ds w (after d w) refl refl refl (λ k. refl)
    (kept_slots old.inventory d ds (taking f.chain) f.chain.ticket.queue w.queues (λ z. refl) h.slots) h
says_transition old (Transition.Hold f) ds w e n m h =
    let d = Transition.Hold f in
    queues_alone old d ds w (after d w) refl refl refl (λ k. refl)
    (kept_slots old.inventory d ds (taking f.chain) f.chain.ticket.queue w.queues (λ z. refl) h.slots) h
says_transition old (Transition.UseBuffer f xs) ds w e n m h =
    let d = Transition.UseBuffer f xs in
    let g = spending xs.seen f.chain in
    queues_alone old d ds w (after d w) refl refl refl (λ k. refl)
    (kept_slots old.inventory d ds g f.chain.ticket.queue w.queues (λ z. refl) h.slots) h
says_transition old (Transition.Break q f) ds w e n m h =
    let d = Transition.Break q f in
    queues_alone old d ds w (after d w) refl refl refl (λ k. refl)
    (kept_slots old.inventory d ds (broken_by f) q w.queues (λ z. refl) h.slots) h
says_transition old (Transition.Run x) ds w e n m h =
    let d = Transition.Run x in
    let q = x.chain.ticket.queue in
    record {
      slots = new_slots old.inventory d ds (slotted Slot.Empty) q w.queues Slot.Empty (λ z. refl) tt h.slots;
      seats = added d ds (x ∷ []) (owner w.workers q) w.seats (inl refl, tt) h.seats;
      handed_off = older_jobs (between w) d ds h.handed_off;
      units = steps old d ds (Step.Enter x.entry) x.unit w.units (λ i. refl) h.units;
    }
says_transition old (Transition.Park x) ds w e n m h =
    let d = Transition.Park x in
    let q = x.chain.ticket.queue in
    record {
      slots = new_slots old.inventory d ds (slotted Slot.Empty) q w.queues Slot.Empty (λ z. refl) tt h.slots;
      seats = old_seats d ds w.seats h.seats;
      handed_off = older_jobs (between w) d ds h.handed_off;
      units = steps_on old d ds (parking x) (Step.Enter x.entry) x.unit w.units (λ u. refl) (λ u. refl)
          (λ u p. all_push (JobSays (d ∷ ds)) u.parked (x ∷ []) p (inl refl, tt)) (λ i. refl) h.units;
    }
says_transition old (Transition.EnterFull x) ds w e n m h =
    let d = Transition.EnterFull x in
    let i = old.inventory in
    let c = m.comes in
    let q = x.chain.ticket.queue in
    let s = Slot.Direct x.chain (Outcome.Ended Ending.Full) in
    let sent = older_sent i d ds x (sent_there i ds w x c.queue q c.there c.arrived h.slots) in
    record {
      slots = new_slots i d ds (slotted s) q w.queues s (λ z. refl) (x, refl, sent, inl refl) h.slots;
      seats = old_seats d ds w.seats h.seats;
      handed_off = older_jobs (between w) d ds h.handed_off;
      units = steps old d ds (Step.Full x.entry.ticket) x.unit w.units (λ k. refl) h.units;
    }
says_transition old (Transition.EnterBusy x) ds w e n m h =
    let d = Transition.EnterBusy x in
    let i = old.inventory in
    let c = m.comes in
    let q = x.chain.ticket.queue in
    let s = Slot.Direct x.chain (Outcome.Ended Ending.Busy) in
    let sent = older_sent i d ds x (sent_there i ds w x c.queue q c.there c.arrived h.slots) in
    queues_alone old d ds w (after d w) refl refl refl (λ k. refl)
    (new_slots i d ds (slotted s) q w.queues s (λ z. refl) (x, refl, sent, inl refl) h.slots) h
says_transition old (Transition.Direct c o xs) ds w e n m h =
    let d = Transition.Direct c o xs in
    let g = directing xs.seen c in
    queues_alone old d ds w (after d w) refl refl refl (λ k. refl)
    (new_slots old.inventory d ds g c.ticket.queue w.queues Slot.Empty (λ z. refl) tt h.slots) h
says_transition old (Transition.Put k x) ds w e n m h =
    let d = Transition.Put k x in
    let at = h.seats k (record { hand = Hand.Empty; out = x ∷ m.rest }) m.seat in
    let P = JobSays (d ∷ ds) in
    let a = between_parts P (all_off w) w.aside w.woken (older_jobs (between w) d ds h.handed_off) in
    record {
      slots = old_slots old.inventory d ds w.queues h.slots;
      seats = dropped d ds Hand.Empty k w.seats tt h.seats;
      handed_off = between_all P (all_of (change (with_job x) k w.handed_off)) w.aside w.woken
          (each_put P k w.handed_off x (inr at.1.0) a.0) a.1 a.2;
      units = old_units old d ds w.units (λ i. refl) h.units;
    }
says_transition old (Transition.Keep k x) ds w e n m h =
    let d = Transition.Keep k x in
    let at = h.seats k (record { hand = Hand.Empty; out = x ∷ m.rest }) m.seat in
    record {
      slots = old_slots old.inventory d ds w.queues h.slots;
      seats = dropped d ds (Hand.Taken x) k w.seats (inr at.1.0) h.seats;
      handed_off = older_jobs (between w) d ds h.handed_off;
      units = old_units old d ds w.units (λ i. refl) h.units;
    }
says_transition old (Transition.Take k from x) ds w e n m h =
    let d = Transition.Take k from x in
    let P = JobSays (d ∷ ds) in
    let a = between_parts P (all_off w) w.aside w.woken (older_jobs (between w) d ds h.handed_off) in
    let at = each_taken P from w.handed_off x m.rest m.handed_off a.0 in
    record {
      slots = old_slots old.inventory d ds w.queues h.slots;
      seats = handed d ds (Hand.Taken x) k w.seats at.0 h.seats;
      handed_off = between_all P (all_of (change (drop 1) from w.handed_off)) w.aside w.woken at.1 a.1 a.2;
      units = old_units old d ds w.units (λ i. refl) h.units;
    }
says_transition old (Transition.Commit k x r) ds w e n m h =
    let d = Transition.Commit k x r in
    let at = h.seats k (record { hand = Hand.Taken x; out = m.holds.out }) m.holds.seat in
    let new = Hand.Done x (Outcome.Ended (Ending.Replied r)) in
    let s = Step.Commit x.entry.ticket r in
    let runs = stands_new (step_of x.unit d) s (history_of x.unit ds) (at_own x.unit x.unit s refl) in
    record {
      slots = old_slots old.inventory d ds w.queues h.slots;
      seats = handed d ds new k w.seats (inr at.0, runs) h.seats;
      handed_off = older_jobs (between w) d ds h.handed_off;
      units = steps old d ds (Step.Commit x.entry.ticket r) x.unit w.units (λ i. refl) h.units;
    }
says_transition old (Transition.CommitBusy k x) ds w e n m h =
    let d = Transition.CommitBusy k x in
    let at = h.seats k (record { hand = Hand.Taken x; out = m.holds.out }) m.holds.seat in
    let new = Hand.Done x (Outcome.Ended Ending.Busy) in
    record {
      slots = old_slots old.inventory d ds w.queues h.slots;
      seats = handed d ds new k w.seats (inr at.0, inl refl) h.seats;
      handed_off = older_jobs (between w) d ds h.handed_off;
      units = steps old d ds (Step.Busy x.entry.ticket) x.unit w.units (λ i. refl) h.units;
    }
says_transition old (Transition.CommitAborted k x why) ds w e n m h =
    let d = Transition.CommitAborted k x why in
    let at = h.seats k (record { hand = Hand.Taken x; out = m.holds.out }) m.holds.seat in
    let new = Hand.Done x (Outcome.Ended (Ending.Aborted why)) in
    record {
      slots = old_slots old.inventory d ds w.queues h.slots;
      seats = handed d ds new k w.seats (inr at.0, inl (refl, refl)) h.seats;
      handed_off = older_jobs (between w) d ds h.handed_off;
      units = old_units old d ds w.units (λ i. refl) h.units;
    }
says_transition old (Transition.Defer k x) ds w e n m h =
    let d = Transition.Defer k x in
    let at = h.seats k (record { hand = Hand.Taken x; out = m.holds.out }) m.holds.seat in
    let P = JobSays (d ∷ ds) in
    let a = between_parts P (all_off w) w.aside w.woken (older_jobs (between w) d ds h.handed_off) in
    record {
      slots = old_slots old.inventory d ds w.queues h.slots;
      seats = handed d ds Hand.Empty k w.seats tt h.seats;
      handed_off = between_all P (all_off w) (w.aside ++ x ∷ []) w.woken a.0 (each_push P w.aside x a.1 (inr at.0)) a.2;
      units = old_units old d ds w.units (λ i. refl) h.units;
    }
says_transition old (Transition.Withhold k x r) ds w e n m h =
    let d = Transition.Withhold k x r in
    let at = h.seats k (record { hand = Hand.Taken x; out = m.holds.out }) m.holds.seat in
    let P = JobSays (d ∷ ds) in
    let a = between_parts P (all_off w) w.aside w.woken (older_jobs (between w) d ds h.handed_off) in
    record {
      slots = old_slots old.inventory d ds w.queues h.slots;
      seats = handed d ds Hand.Empty k w.seats tt h.seats;
      handed_off = between_all P (all_off w) (w.aside ++ x ∷ []) w.woken a.0 (each_push P w.aside x a.1 (inr at.0)) a.2;
      units = steps old d ds (Step.Commit x.entry.ticket r) x.unit w.units (λ i. refl) h.units;
    }
says_transition old (Transition.Conclude k x r) ds w e n m h =
    let d = Transition.Conclude k x r in
    let at = h.seats k (record { hand = Hand.Taken x; out = m.holds.out }) m.holds.seat in
    let new = Hand.Done x (Outcome.Ended (Ending.Replied r)) in
    let told = (h.units x.unit m.holds.unit m.holds.there).0.steps in
    let ran = subst (λ l. Contains l (Step.Commit x.entry.ticket r)) told m.may.1.ran in
    record {
      slots = old_slots old.inventory d ds w.queues h.slots;
      seats = handed d ds new k w.seats (inr at.0, contained (Step.Commit x.entry.ticket r) (history_of x.unit ds) ran) h.seats;
      handed_off = older_jobs (between w) d ds h.handed_off;
      units = old_units old d ds w.units (λ i. refl) h.units;
    }
says_transition old Transition.Wake ds w e n m h =
    let d = Transition.Wake in
    record {
      slots = old_slots old.inventory d ds w.queues h.slots;
      seats = old_seats d ds w.seats h.seats;
      handed_off = each_woken (JobSays (d ∷ ds)) (all_off w) w.aside w.woken (older_jobs (between w) d ds h.handed_off);
      units = old_units old d ds w.units (λ i. refl) h.units;
    }
says_transition old (Transition.Resume k x) ds w e n m h =
    let d = Transition.Resume k x in
    let P = JobSays (d ∷ ds) in
    let a = between_parts P (all_off w) w.aside w.woken (older_jobs (between w) d ds h.handed_off) in
    let r = first_taken P w.woken x m.rest m.first a.2 in
    record {
      slots = old_slots old.inventory d ds w.queues h.slots;
      seats = handed d ds (Hand.Taken x) k w.seats r.0 h.seats;
      handed_off = between_all P (all_off w) w.aside (drop 1 w.woken) a.0 a.1 r.1;
      units = old_units old d ds w.units (λ i. refl) h.units;
    }
says_transition old (Transition.Answer k x o xs) ds w e n m h =
    let d = Transition.Answer k x o xs in
    let g = completing xs.seen x.chain in
    record {
      slots = kept_slots old.inventory d ds g x.chain.ticket.queue w.queues (λ z. refl) h.slots;
      seats = handed d ds (Hand.Answered x.unit x.chain.ticket) k w.seats tt h.seats;
      handed_off = older_jobs (between w) d ds h.handed_off;
      units = old_units old d ds w.units (λ i. refl) h.units;
    }
says_transition old (Transition.Leave k unit_index t jobs) ds w e n m h =
    let d = Transition.Leave k unit_index t jobs in
    let s = Step.Leave t in
    let new = given old d ds s unit_index w.units m.holds.unit jobs m.holds.there m.enables h.units in
    record {
      slots = old_slots old.inventory d ds w.queues h.slots;
      seats = left_with d ds jobs k w.seats new h.seats;
      handed_off = older_jobs (between w) d ds h.handed_off;
      units = steps old d ds s unit_index w.units (λ i. refl) h.units;
    }
says_transition old (Transition.Mark t p how jobs) ds w e n m h =
    let d = Transition.Mark t p how jobs in
    let s = step_by how in
    let new = given old d ds s p.unit w.units m.marking.unit jobs m.marking.unit_there m.releases h.units in
    record {
      slots = old_slots old.inventory d ds w.queues h.slots;
      seats = added d ds jobs 0 w.seats new h.seats;
      handed_off = each_woken (JobSays (d ∷ ds)) (all_off w) w.aside w.woken
          (older_jobs (between w) d ds h.handed_off);
      units = steps old d ds s p.unit w.units (λ i. refl) h.units;
    }
says_transition old (Transition.Respond c r xs) ds w e n m h =
    let d = Transition.Respond c r xs in
    let g = completing xs.seen c in
    queues_alone old d ds w (after d w) refl refl refl (λ k. refl)
    (kept_slots old.inventory d ds g c.ticket.queue w.queues (λ z. refl) h.slots) h
says_transition old (Transition.Hard p jobs) ds w e n m h =
    let d = Transition.Hard p jobs in
    let s = Step.Reset hard_code in
    let new = given old d ds s p.unit w.units m.unit jobs m.there m.releases h.units in
    record {
      slots = old_slots old.inventory d ds w.queues h.slots;
      seats = added d ds jobs w.workers w.seats new h.seats;
      handed_off = each_woken (JobSays (d ∷ ds)) (all_off w) w.aside w.woken
          (older_jobs (between w) d ds h.handed_off);
      units = steps old d ds s p.unit w.units (λ i. refl) h.units;
    }
says_transition old (Transition.Resize unit_index blocks) ds w e n m h =
    let d = Transition.Resize unit_index blocks in
    record {
      slots = old_slots old.inventory d ds w.queues h.slots;
      seats = old_seats d ds w.seats h.seats;
      handed_off = older_jobs (between w) d ds h.handed_off;
      units = steps old d ds (Step.Resize blocks) unit_index w.units (λ i. refl) h.units;
    }
says_transition old (Transition.Deal unit_index x) ds w e n m h =
    let d = Transition.Deal unit_index x in
    record {
      slots = old_slots old.inventory d ds w.queues h.slots;
      seats = old_seats d ds w.seats h.seats;
      handed_off = older_jobs (between w) d ds h.handed_off;
      units = everywhere (UnitSays old (d ∷ ds)) (dealing x) unit_index w.units (λ u at was. (
        record { opened = was.0.opened; there = was.0.there; opening = was.0.opening; steps = was.0.steps },
        was.1,
      )) (old_units old d ds w.units (λ i. refl) h.units);
    }
says_transition old (Transition.Give r c xs) ds w e n m h =
    let d = Transition.Give r c xs in
    let g = completing xs.seen c in
    queues_alone old d ds w (after d w) refl refl refl (λ k. refl)
    (kept_slots old.inventory d ds g c.ticket.queue w.queues (λ z. refl) h.slots) h
says_transition old (Transition.CommitUnknown k x) ds w e n m h = absurd (n tt)
says_transition old (Transition.EnterStale x) ds w e n m h = absurd (n tt)
says_transition old d ds w e n m h =
    queues_alone old d ds w (after d w) refl refl refl (λ k. refl) (old_slots old.inventory d ds w.queues h.slots) h

-- no transition told anything at the opening
pub says_new : (old : PlainWorld) → Opens old → Says old [] old
says_new old o =
    record {
      slots = λ i q at. subst (SlotSays old.inventory []) (sym (o.queues i q at).slot) tt;
      seats = λ i s at.
          let n = o.seats i s at in
          (subst (HandSays []) (sym n.hand) tt, subst (Each (JobSays [])) (sym n.out) tt);
      handed_off = subst (Each (JobSays [])) (sym (none_between old o.handed_off o.aside o.woken)) tt;
      units = λ i u at.
          let n = o.units i u at in
          let none = subst (Each (JobSays [])) (sym n.parked) tt in
          (record { opened = u; there = at; opening = refl; steps = n.steps }, none);
    }
