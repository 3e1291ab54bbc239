-- The device's transitions are local to the parts that they touch, so a lawful log of shares is a trace of them.
use Rattle.std.proofs.Common.{◌≡◌, ℕ, List, [], ◌∷◌, slice_index_or, Some, refl, sym, ◌∙◌, ap, subst, inl, inr}
use Rattle.std.specs.Prelude.{◌⊎◌}
use Rattle.std.specs.Prelude.{map}
use Rattle.shared_trace.specs.Events.{IsLawful, PlainMark, Each, events_of}
use Rattle.shared_trace.specs.Inner.Logs.{Closes}
use Rattle.shared_trace.specs.Halves.{Has, part_of, latest, wholes, AreLocal, AgreeAt, world_after, AllHappen}
use Rattle.shared_trace.proofs.Wholes.{are_whole, done_past}
use Rattle.unit_model.specs.Jobs.{PlainJob}
use Rattle.device_model.specs.World.{PlainWorld, Opens, owner}
use Rattle.device_model.specs.Transitions.{Transition}
use Rattle.device_model.specs.After.{after}
use Rattle.device_model.specs.Happens.{Happens, MayHappen, Leads, Occurrence, Runs, Reached, transitions_of, occurrence_of, world_of}
use Rattle.device_model.specs.Promise.{IsKept, IsPromised}
use Rattle.host_trace.specs.Parts.{Part, Fixed, Share, fixed, At, parts_of, entering, marked_next}
use Rattle.host_trace.specs.Inner.Passing.{AllAt}
use Rattle.host_trace.specs.Trace.{AreNumbered, Agree, touches, MayShare, IsTraceOf, IsSettled, IsOneTrace}
use Rattle.host_trace.proofs.Others.{fixed_kept, others_kept}
use Rattle.host_trace.proofs.Own.{own_part}
use Rattle.host_trace.proofs.Transport.{happens_at}

at_itself : (p : Part) (w : PlainWorld) → At p w w
at_itself Part.Memory w = refl
at_itself (Part.Ring i) w = refl
at_itself (Part.Slot i) w = refl
at_itself (Part.UnitAt i) w = refl
at_itself (Part.SeatAt i) w = refl
at_itself Part.HandOff w = refl
at_itself Part.Function w = refl
at_itself Part.Buffers w = (refl, refl)
at_itself Part.Waiting w = refl
at_itself Part.Aside w = (refl, refl)

pub at_turned : (p : Part) (w v : PlainWorld) → At p w v → At p v w
at_turned Part.Memory w v e = sym e
at_turned (Part.Ring i) w v e = sym e
at_turned (Part.Slot i) w v e = sym e
at_turned (Part.UnitAt i) w v e = sym e
at_turned (Part.SeatAt i) w v e = sym e
at_turned Part.HandOff w v e = sym e
at_turned Part.Function w v e = sym e
at_turned Part.Buffers w v e = (sym e.0, sym e.1)
at_turned Part.Waiting w v e = sym e
at_turned Part.Aside w v e = (sym e.0, sym e.1)

at_chained : (p : Part) (w v u : PlainWorld) → At p w v → At p v u → At p w u
at_chained Part.Memory w v u a b = a ∙ b
at_chained (Part.Ring i) w v u a b = a ∙ b
at_chained (Part.Slot i) w v u a b = a ∙ b
at_chained (Part.UnitAt i) w v u a b = a ∙ b
at_chained (Part.SeatAt i) w v u a b = a ∙ b
at_chained Part.HandOff w v u a b = a ∙ b
at_chained Part.Function w v u a b = a ∙ b
at_chained Part.Buffers w v u a b = (a.0 ∙ b.0, a.1 ∙ b.1)
at_chained Part.Waiting w v u a b = a ∙ b
at_chained Part.Aside w v u a b = (a.0 ∙ b.0, a.1 ∙ b.1)

entering_same : (x : PlainJob) (w v : PlainWorld) → fixed w ≡ fixed v → entering x v ≡ entering x w
entering_same x w v f =
    ap (λ (z : Fixed). Part.Slot x.chain.ticket.queue ∷ Part.UnitAt x.unit ∷ Part.SeatAt
    (owner z.workers x.chain.ticket.queue) ∷ []) (sym f)

-- the parts that a transition touches are those by what worlds have in common there
parts_same : (d : Transition) (w v : PlainWorld) → fixed w ≡ fixed v → AllAt (parts_of d w) w v → parts_of d v ≡ parts_of d w
parts_same (Transition.MarkRefused t) w v f all = ap (λ o. Part.Function ∷ marked_next o) (sym (all Part.Function (inl refl)))
parts_same (Transition.Run x) w v f all = entering_same x w v f
parts_same (Transition.Park x) w v f all = entering_same x w v f
parts_same (Transition.EnterFull x) w v f all = entering_same x w v f
parts_same (Transition.EnterBusy x) w v f all = entering_same x w v f
parts_same (Transition.EnterStale x) w v f all = entering_same x w v f
parts_same (Transition.Hard p jobs) w v f all =
    ap (λ (z : Fixed). Part.UnitAt p.unit ∷ Part.SeatAt z.workers ∷ Part.Waiting ∷ Part.Aside ∷ []) (sym f)
parts_same d w v f all = refl

-- Numbers of parts

has_number : (number : Part → ℕ) (ps : List Part) (p : Part) → Has ps p → Has (map number ps) (number p)
has_number number [] p h = absurd h
has_number number (q ∷ ps) p h = elim h [ inl is ↦ inl (ap number is) | inr there ↦ inr (has_number number ps p there) ]

number_has : (number : Part → ℕ) → AreNumbered number → (ps : List Part) (p : Part) → Has (map number ps) (number p) → Has ps p
number_has number apart [] p h = absurd h
number_has number apart (q ∷ ps) p h =
    elim h [ inl is ↦ inl (apart p q is) | inr there ↦ inr (number_has number apart ps p there) ]

-- what agrees at numbers agrees at their parts
all_at : (number : Part → ℕ) (ps : List Part) (w v : PlainWorld)
    → ((n : ℕ) → Has (map number ps) n → Agree number n w v) → AllAt ps w v
all_at number ps w v h p has = (h (number p) (has_number number ps p has)).1 p refl

no_part : (d : Transition) (w : PlainWorld) → parts_of d w ≡ [] → (v : PlainWorld) → Happens d w → Happens d v
no_part (Transition.Idle e) w is v h = absurd h
no_part (Transition.EnterStale x) w is v h = absurd h
no_part (Transition.CommitUnknown k x) w is v h = absurd h
no_part d w is v h = absurd (nonempty is)
  where
    nonempty : {A : Type 0} {x : A} {xs : List A} → x ∷ xs ≡ [] → ⊥
    nonempty e = cc

-- two worlds that agree at the touched parts are of one device, or nothing is touched
one_device : (number : Part → ℕ) (d : Transition) (w v : PlainWorld)
    → AgreeAt after Happens (touches number) (Agree number) (touches number d w) w v → (ps : List Part) → parts_of d w ≡ ps
    → (fixed w ≡ fixed v) ⊎ (parts_of d w ≡ [])
one_device number d w v h [] is = inr is
one_device number d w v h (p ∷ ps) is =
    inl (h (number p) (subst (λ qs. Has (map number qs) (number p)) (sym is) (inl refl))).0

nothing_touched : (d : Transition) (w v : PlainWorld) → parts_of d w ≡ [] → parts_of d v ≡ []
nothing_touched (Transition.Idle e) w v is = refl
nothing_touched d w v is = absurd (nonempty is)
  where
    nonempty : {A : Type 0} {x : A} {xs : List A} → x ∷ xs ≡ [] → ⊥
    nonempty e = cc

pub are_local : (number : Part → ℕ) → AreNumbered number → AreLocal after Happens (touches number) (Agree number)
are_local number apart =
    record {
      itself = λ n w. (refl, λ p is. at_itself p w);
      turned = λ n w v h. (sym h.0, λ p is. at_turned p w v (h.1 p is));
      chained = λ n w v u g h. (g.0 ∙ h.0, λ p is. at_chained p w v u (g.1 p is) (h.1 p is));
      others = λ d w n out. (
        fixed_kept d w,
        λ p is. others_kept d w p (λ has. out (subst (λ m. Has (touches number d w) m) is (has_number number
            (parts_of d w) p has))),
      );
      own = λ d w v all n has.
          elim (one_device number d w v all (parts_of d w) refl) [
            | inl f ↦ (
              fixed_kept d w ∙ f ∙ sym (fixed_kept d v),
              λ p is.
                  own_part d w v p f (all_at number (parts_of d w) w v all)
                  ((all n has).1 p is),
            )
            | inr none ↦ absurd (subst (λ qs. Has (map number qs) n) none has)
          ];
      happens = λ d w v all h.
          elim (one_device number d w v all (parts_of d w) refl) [
            | inl f ↦ happens_at d w v f (all_at number (parts_of d w) w v all) h
            | inr none ↦ no_part d w none v h
          ];
      touched = λ d w v all.
          elim (one_device number d w v all (parts_of d w) refl) [
            | inl f ↦ ap (λ ps. map number ps) (parts_same d w v f (all_at number (parts_of d w) w v all))
            | inr none ↦ ap (λ ps. map number ps) (nothing_touched d w v none ∙ sym none)
          ];
    }

-- A trace

may_happen : (d : Transition) (w : PlainWorld) → Happens d w → MayHappen d w
may_happen (Transition.Idle e) w h = absurd h
may_happen (Transition.CommitUnknown k x) w h = absurd h
may_happen (Transition.EnterStale x) w h = absurd h
may_happen d w h = h

same_world : (number : Part → ℕ) (old : PlainWorld) (ds : List Transition)
    → world_after after Happens (touches number) (Agree number) old ds ≡ world_of old ds
same_world number old [] = refl
same_world number old (d ∷ ds) = ap (λ w. after d w) (same_world number old ds)

leads : (number : Part → ℕ) (old : PlainWorld) (ds : List Transition)
    → AllHappen after Happens (touches number) (Agree number) old ds → Leads old ds
leads number old [] h = tt
leads number old (d ∷ ds) h =
    (leads number old ds h.0, may_happen d (world_of old ds) (subst (λ w. Happens d w) (same_world number old ds) h.1))

pub is_trace : (number : Part → ℕ) → AreNumbered number → (old : PlainWorld) (log : List Share)
    → IsLawful (MayShare number old) log
    → IsTraceOf number old log (wholes log)
is_trace number apart old log h =
    let a = are_whole after Happens (touches number) (Agree number) old (are_local number apart) log h in
    let same = same_world number old (wholes log) in
    record {
      leads = leads number old (wholes log) a.happen;
      none = λ p is. subst (λ w. At p w old) same ((a.none (number p) is).1 p refl);
      some = λ p f is c. subst (λ w. At p w (after f.whole.act f.whole.seen)) same ((a.some (number p) f is c).1 p refl);
    }

-- A trace of occurrences

pub runs_of : (old : PlainWorld) (ds : List Transition) → Leads old ds → Runs old (map occurrence_of ds) (world_of old ds)
runs_of old [] h = refl
runs_of old (d ∷ ds) h = (
  world_of old ds,
  runs_of old ds h.0,
  record { transition = d; event = refl; action = refl; may = h.1; is = refl },
)

pub runs_are : (old : PlainWorld) (ds : List Transition) (h : Leads old ds)
    → transitions_of old (map occurrence_of ds) (world_of old ds) (runs_of old ds h) ≡ ds
unfolding runs_of
runs_are old [] h = refl
runs_are old (d ∷ ds) h = ap (λ l. d ∷ l) (runs_are old ds h.0)

pub promise_of : ((old : PlainWorld) (trace : List Occurrence) (w : PlainWorld) (r : Reached old trace w)
    → IsPromised old trace w r)
    → (old : PlainWorld) (ds : List Transition) → Opens old → Leads old ds
    → IsKept old (map occurrence_of ds) (world_of old ds) ds
promise_of law old ds opens h =
    subst (λ l. IsKept old (map occurrence_of ds) (world_of old ds) l) (runs_are old ds h)
    (law old (map occurrence_of ds) (world_of old ds) (record { opens = opens; runs = runs_of old ds h }))

-- the marks of all parts are the end of the trace
pub is_one_trace : (number : Part → ℕ) (parts : ℕ) (old : PlainWorld) (marks : List (PlainMark Share)) (log : List Share)
    → IsTraceOf number old log (wholes log)
    → (Opens old → IsKept old (map occurrence_of (wholes log)) (world_of old (wholes log)) (wholes log))
    → Closes parts part_of (MayShare number old) marks log → Each (λ k m. IsSettled number m) marks
    → IsOneTrace number old marks (wholes log)
is_one_trace number parts old marks log t kept c settled =
    record {
      leads = t.leads;
      kept = kept;
      parts = λ p k o lt is.
          let m = slice_index_or marks k o in
          let n : m.number ≡ number p = c.numbers k o lt ∙ sym is in
          let same : events_of part_of (number p) log ≡ events_of part_of (number p) m.own =
          subst (λ i. events_of part_of i log ≡ events_of part_of i m.own) (sym is) (c.events k o lt) in
          record {
            none = λ e. t.none p (ap latest same ∙ e);
            some = λ f e.
                let at : latest (events_of part_of m.number m.own) ≡ Some f = ap (λ i. latest (events_of part_of i m.own)) n
                ∙ e in
                t.some p f (ap latest same ∙ e) (done_past m.known log (c.known k o lt) f (settled k o lt f at));
          };
    }
