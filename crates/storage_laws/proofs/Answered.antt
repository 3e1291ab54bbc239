-- A reply that stands in a hand: where its answer waits, what its command changed is through.
use Rattle.std.proofs.Common.{◌≡◌, ◌⊎◌, ℕ, Bool, true, false, ◌&&◌, ◌==◌, List, [], ◌∷◌, Option, Some, None, is_some, inl, inr, refl, sym, subst, ◌∙◌}
use Rattle.std.specs.Prelude.{slice_get}
use Rattle.block_store.specs.Storage.{Ledger, Dealing}
use Rattle.command_model.specs.Effects.{changes_medium}
use Rattle.command_model.specs.PlainReply.{PlainReply}
use Rattle.command_model.specs.Statuses.{good}
use Rattle.unit_model.specs.Tasks.{Entry, task_of}
use Rattle.unit_model.specs.Steps.{Step, alive}
use Rattle.unit_model.specs.Endings.{Ending}
use Rattle.unit_model.specs.Flushing.{IsThrough}
use Rattle.unit_model.specs.Jobs.{PlainJob}
use Rattle.unit_model.specs.Unit.{PlainUnit, is_backed, needs_medium, waits_behind, after as stepped, parking, dealing}
use Rattle.task_mgmt.specs.Functions.{step_by}
use Rattle.device_model.specs.Parts.{Outcome, Hand}
use Rattle.device_model.specs.World.{PlainWorld, Opens, change, owner}
use Rattle.device_model.specs.Transitions.{Transition}
use Rattle.device_model.specs.Changing.{with_hand, without_first, with_jobs, leaving}
use Rattle.device_model.specs.Event.Hard.{hard_code}
use Rattle.device_model.specs.After.{after}
use Rattle.device_model.specs.Happens.{MayHappen, Occurrence, Reached, transitions_of, world_of, Leads}
use Rattle.device_model.specs.Found.{UnitIs, HasHand}
use Rattle.device_model.proofs.Lists.{same, at_other, get_change}
use Rattle.device_model.proofs.Traces.{in_run}
use Rattle.device_model.proofs.Knowing.{works_at}
use Rattle.device_model.proofs.Working.{all_work}
use Rattle.device_model.proofs.Storing.{command_kept, conclusion_kept}
use Rattle.device_model.proofs.Waking.{hand_was, hand_other, hand_kept, taken_done, done_free, done_answered}
use Rattle.device_model.proofs.Withheld.{WaitsAlike, follows, deal_alike, step_backed, some_still}
use Rattle.storage_laws.specs.Whole.{KeepsWholeBlocks, HasWholeBlocks}
use Rattle.storage_laws.proofs.Lasting.{through_on}

abbrev replied : PlainJob → PlainReply → Hand
replied x r = Hand.Done x (Outcome.Ended (Ending.Replied r))

-- The transition that puts a reply into a hand

abbrev Tells : Transition → ℕ → PlainJob → PlainReply → Type 0
Tells d j x r = (d ≡ Transition.Commit j x r) ⊎ (d ≡ Transition.Conclude j x r)

abbrev Told : PlainWorld → Transition → ℕ → PlainJob → PlainReply → Type 0
Told w d j x r = HasHand w j (replied x r) ⊎ Tells d j x r

by_commit : {i j : ℕ} {x y : PlainJob} {r q : PlainReply} → j ≡ i → replied x r ≡ replied y q
    → Transition.Commit i y q ≡ Transition.Commit j x r
by_commit a b = cc

by_conclude : {i j : ℕ} {x y : PlainJob} {r q : PlainReply} → j ≡ i → replied x r ≡ replied y q
    → Transition.Conclude i y q ≡ Transition.Conclude j x r
by_conclude a b = cc

ends_else : {x y : PlainJob} {r : PlainReply} {e : Ending} → replied x r ≡ Hand.Done y (Outcome.Ended e) → Ending.Replied r ≡ e
ends_else a = cc

told : (d : Transition) (w : PlainWorld) (j : ℕ) (x : PlainJob) (r : PlainReply) → HasHand (after d w) j (replied x r) → Told w d j x r
told (Transition.Run y) w j x r h =
    inl (hand_kept (with_jobs (y ∷ [])) (owner w.workers y.chain.ticket.queue) w.seats j (replied x r) (λ z. refl) h)
told (Transition.Put k y) w j x r h =
    inl (hand_other (without_first Hand.Empty) k w.seats j (replied x r) Hand.Empty (λ z. refl) done_free h)
told (Transition.Keep k y) w j x r h =
    inl (hand_other (without_first (Hand.Taken y)) k w.seats j (replied x r) (Hand.Taken y) (λ z. refl) (λ e. taken_done (sym e)) h)
told (Transition.Take k from y) w j x r h =
    inl (hand_other (with_hand (Hand.Taken y)) k w.seats j (replied x r) (Hand.Taken y) (λ z. refl) (λ e. taken_done (sym e)) h)
told (Transition.Commit k y q) w j x r h =
    elim (hand_was (with_hand (replied y q)) k w.seats j (replied x r) h) [
      | inl p ↦ inr (inl (by_commit p.0 p.3))
      | inr old ↦ inl old
    ]
told (Transition.Conclude k y q) w j x r h =
    elim (hand_was (with_hand (replied y q)) k w.seats j (replied x r) h) [
      | inl p ↦ inr (inr (by_conclude p.0 p.3))
      | inr old ↦ inl old
    ]
told (Transition.CommitBusy k y) w j x r h =
    let new = Hand.Done y (Outcome.Ended Ending.Busy) in
    inl (hand_other (with_hand new) k w.seats j (replied x r) new (λ z. refl) (λ e. let f = ends_else e in cc) h)
told (Transition.CommitAborted k y why) w j x r h =
    let new = Hand.Done y (Outcome.Ended (Ending.Aborted why)) in
    inl (hand_other (with_hand new) k w.seats j (replied x r) new (λ z. refl) (λ e. let f = ends_else e in cc) h)
told (Transition.CommitUnknown k y) w j x r h =
    let new = Hand.Done y (Outcome.Ended Ending.Lost) in
    inl (hand_other (with_hand new) k w.seats j (replied x r) new (λ z. refl) (λ e. let f = ends_else e in cc) h)
told (Transition.Defer k y) w j x r h =
    inl (hand_other (with_hand Hand.Empty) k w.seats j (replied x r) Hand.Empty (λ z. refl) done_free h)
told (Transition.Withhold k y q) w j x r h =
    inl (hand_other (with_hand Hand.Empty) k w.seats j (replied x r) Hand.Empty (λ z. refl) done_free h)
told (Transition.Resume k y) w j x r h =
    inl (hand_other (with_hand (Hand.Taken y)) k w.seats j (replied x r) (Hand.Taken y) (λ z. refl) (λ e. taken_done (sym e)) h)
told (Transition.Answer k y o xs) w j x r h =
    let new = Hand.Answered y.unit y.chain.ticket in
    inl (hand_other (with_hand new) k w.seats j (replied x r) new (λ z. refl) done_answered h)
told (Transition.Leave k i t jobs) w j x r h =
    inl (hand_other (leaving jobs) k w.seats j (replied x r) Hand.Empty (λ z. refl) done_free h)
told (Transition.Mark t p how jobs) w j x r h =
    inl (hand_kept (with_jobs jobs) 0 w.seats j (replied x r) (λ z. refl) h)
told (Transition.Hard p jobs) w j x r h =
    inl (hand_kept (with_jobs jobs) w.workers w.seats j (replied x r) (λ z. refl) h)
told d w j x r h = inl h

-- The unit before a transition

record Alike (u v : PlainUnit) : Type 0 where
  pub waits : WaitsAlike u v
  pub backed : is_backed v ≡ is_backed u

abbrev Before : PlainWorld → ℕ → PlainUnit → Type 0
Before w i v = (u : PlainUnit) × UnitIs w i u × Alike u v

stays_alike : (u : PlainUnit) → Alike u u
stays_alike u = record { waits = λ c n. refl; backed = refl }

step_alike : (s : Step) (u : PlainUnit) → Alike u (stepped s u)
step_alike s u = record { waits = (follows s u).waits; backed = step_backed s u }

deal_same : (x : Dealing) (u : PlainUnit) → Alike u (dealing x u)
deal_same x u = record { waits = deal_alike x u; backed = some_still _ u.storage }

changed : (g : PlainUnit → PlainUnit) (k : ℕ) (w : PlainWorld) (i : ℕ) (v : PlainUnit) → ((u : PlainUnit) → Alike u (g u))
    → slice_get (change g k w.units) i ≡ Some v → Before w i v
changed g k w i v f at =
    let o = at_other g k w.units i v at in
    elim o.2 [
      | inl p ↦ (o.0, o.1, subst (λ z. Alike o.0 z) (sym p.1) (f o.0))
      | inr p ↦ (o.0, o.1, subst (λ z. Alike o.0 z) (sym p.1) (stays_alike o.0))
    ]

before : (d : Transition) (w : PlainWorld) (i : ℕ) (v : PlainUnit) → UnitIs (after d w) i v → Before w i v
before (Transition.Run x) w i v at = changed (stepped (Step.Enter x.entry)) x.unit w i v (step_alike (Step.Enter x.entry)) at
before (Transition.Park x) w i v at =
    changed (parking x) x.unit w i v (λ u. record { waits = λ c n. refl; backed = refl }) at
before (Transition.EnterFull x) w i v at =
    changed (stepped (Step.Full x.entry.ticket)) x.unit w i v (step_alike (Step.Full x.entry.ticket)) at
before (Transition.Commit k x r) w i v at =
    changed (stepped (Step.Commit x.entry.ticket r)) x.unit w i v (step_alike (Step.Commit x.entry.ticket r)) at
before (Transition.Withhold k x r) w i v at =
    changed (stepped (Step.Commit x.entry.ticket r)) x.unit w i v (step_alike (Step.Commit x.entry.ticket r)) at
before (Transition.CommitBusy k x) w i v at =
    changed (stepped (Step.Busy x.entry.ticket)) x.unit w i v (step_alike (Step.Busy x.entry.ticket)) at
before (Transition.Leave k n t jobs) w i v at = changed (stepped (Step.Leave t)) n w i v (step_alike (Step.Leave t)) at
before (Transition.Mark t p how jobs) w i v at = changed (stepped (step_by how)) p.unit w i v (step_alike (step_by how)) at
before (Transition.Hard p jobs) w i v at =
    changed (stepped (Step.Reset hard_code)) p.unit w i v (step_alike (Step.Reset hard_code)) at
before (Transition.Resize n blocks) w i v at = changed (stepped (Step.Resize blocks)) n w i v (step_alike (Step.Resize blocks)) at
before (Transition.Deal n x) w i v at = changed (dealing x) n w i v (deal_same x) at
before d w i v at = (v, at, stays_alike v)

-- The run

both_first : (a b : Bool) → (a && b) ≡ true → a ≡ true
both_first true b h = refl
both_first false b h = h

stored : (o : Option Ledger) → is_some o ≡ true → (l : Ledger) × (o ≡ Some l)
stored None h = absurd (cc)
stored (Some l) h = (l, refl)

-- what waits is of a unit whose storage is its host's
waits_stored : (u : PlainUnit) (e : Entry) (r : PlainReply) → waits_behind u e r.status ≡ true
    → (l : Ledger) × (u.storage ≡ Some l)
waits_stored u e r h =
    stored u.storage (both_first (is_backed u) (needs_medium u e && (changes_medium e.command && r.status == good)) h)

abbrev AllThrough : List Transition → PlainWorld → PlainWorld → Type 0
AllThrough ds old w =
    (j : ℕ) (x : PlainJob) (r : PlainReply) (u : PlainUnit) (l : Ledger) → KeepsWholeBlocks old ds → HasHand w j (replied x r)
    → UnitIs w x.unit u → u.storage ≡ Some l → waits_behind u x.entry r.status ≡ true
    → IsThrough u.opening u.steps l x.entry.ticket

none_yet : (old : PlainWorld) → Opens old → AllThrough [] old old
none_yet old o j x r u l whole h at has waits =
    let free : replied x r ≡ Hand.Empty = (o.seats j (record { hand = replied x r; out = h.0 }) h.1).hand in
    absurd (done_free free)

-- it ran and was told at once
commit_told : (old : PlainWorld) (ds : List Transition) (j : ℕ) (x : PlainJob) (r : PlainReply) (u : PlainUnit) (l : Ledger) → Opens old
    → Leads old (Transition.Commit j x r ∷ ds) → UnitIs (world_of old (Transition.Commit j x r ∷ ds)) x.unit u → u.storage ≡ Some l
    → waits_behind u x.entry r.status ≡ true → IsThrough u.opening u.steps l x.entry.ticket
commit_told old ds j x r u l o leads at has waits =
    let w = world_of old ds in
    let t = x.entry.ticket in
    let s = Step.Commit t r in
    let m = leads.1 in
    let v = m.holds.unit in
    let one : stepped s v ≡ u = same (sym (get_change (stepped s) x.unit w.units v m.holds.there) ∙ at) in
    let c = ((all_work w (works_at old ds o leads.0).3).seats j (record { hand = Hand.Taken x; out = m.holds.out }) m.holds.seat).0 in
    let is : c.unit ≡ v = same (sym c.there ∙ m.holds.there) in
    let alive = subst (λ (z : PlainUnit). task_of t (alive z.steps) ≡ Some x.entry) is c.alive in
    let still = subst (λ (z : PlainUnit). waits_behind z x.entry r.status ≡ true) (sym one) waits in
    let there = subst (λ (z : PlainUnit). z.storage ≡ Some l) (sym one) has in
    let through : IsThrough v.opening (s ∷ v.steps) l t = λ left leaves b.
    command_kept w j x r v x.entry l left b m m.holds.there alive still there leaves in
    subst (λ (z : PlainUnit). IsThrough z.opening z.steps l t) one through

told_through : (d : Transition) (ds : List Transition) (old : PlainWorld) → Opens old → Leads old (d ∷ ds)
    → AllThrough ds old (world_of old ds) → AllThrough (d ∷ ds) old (world_of old (d ∷ ds))
told_through d ds old o leads was j x r u l whole h at has waits =
    let w = world_of old ds in
    let t = x.entry.ticket in
    elim (told d w j x r h) [
      | inl old_hand ↦
          let p = before d w x.unit u at in
          let v = p.0 in
          let still = sym (p.2.waits x.entry r.status) ∙ waits in
          let had = waits_stored v x.entry r still in
          let then = was j x r v had.0 whole.1 old_hand p.1 had.1 still in
          let its = whole_now old ds whole.1 x.unit v p.1 in
          through_on w d x.unit v u t had.0 l leads.1 p.1 at its had.1 has then
      | inr now ↦
          elim now [
            | inl is ↦
                commit_told old ds j x r u l o (subst (λ z. Leads old (z ∷ ds)) is leads)
                (subst (λ z. UnitIs (world_of old (z ∷ ds)) x.unit u) is at) has waits
            | inr is ↦
                λ left leaves b.
                conclusion_kept w j x r u l left b (subst (λ z. MayHappen z w) is leads.1)
                (subst (λ z. UnitIs (after z w) x.unit u) is at) has leaves
          ]
    ]
  where
    whole_now : (old : PlainWorld) (ds : List Transition) → KeepsWholeBlocks old ds → HasWholeBlocks (world_of old ds)
    whole_now old [] h = h
    whole_now old (d ∷ past) h = h.0

all_through : (old : PlainWorld) (ds : List Transition) → Opens old → Leads old ds → AllThrough ds old (world_of old ds)
all_through old [] o leads = none_yet old o
all_through old (d ∷ ds) o leads = told_through d ds old o leads (all_through old ds o leads.0)

pub is_through : (old : PlainWorld) (trace : List Occurrence) (w : PlainWorld) (reached : Reached old trace w) (k : ℕ) (x : PlainJob) (r : PlainReply)
    (u : PlainUnit) (l : Ledger) → KeepsWholeBlocks old (transitions_of old trace w reached.runs)
    → HasHand w k (Hand.Done x (Outcome.Ended (Ending.Replied r))) → UnitIs w x.unit u → u.storage ≡ Some l
    → waits_behind u x.entry r.status ≡ true → IsThrough u.opening u.steps l x.entry.ticket
is_through old trace w reached =
    in_run (λ ds v. AllThrough ds old v) old (λ ds leads. all_through old ds reached.opens leads) trace w reached.runs
