-- A run on a live memory is a run with writes of the guest.
use Rattle.std.proofs.Common.{◌≡◌, ℕ, Bool, false, true, ◌+◌, ◌*◌, ◌≤◌, List, [], ◌∷◌, ◌++◌, map, length, drop, refl, sym, ◌∙◌, ap, subst, arith, inl, inr}
use Rattle.std.specs.List.{sum_by}
use Rattle.std.proofs.Math.Seq.{drop-length}
use Rattle.std.proofs.lemmas.List.{append-nil}
use Rattle.std.proofs.lemmas.List.Sums.{sum_by-cons}
use Rattle.guest_mem.specs.Memory.{with_bytes}
use Rattle.ring_core.specs.declared.log.Ticket.{Ticket}
use Rattle.device_model.specs.World.{PlainWorld}
use Rattle.device_model.specs.Events.{Event}
use Rattle.device_model.specs.Transitions.{event_of, action_of}
use Rattle.device_model.specs.Changing.{bit}
use Rattle.device_model.specs.After.{after}
use Rattle.device_model.specs.Happens.{Occurrence, WorldStep, Runs, Reached, occurrence_of}
use Rattle.device_model.specs.Turns.{Turns, count_changes}
use Rattle.device_model.specs.Places.{accepted_count}
use Rattle.device_model.specs.Weights.{fetches}
use Rattle.device_model.specs.Measure.{price, measure}
use Rattle.device_model.specs.Settling.{visited}
use Rattle.device_model.specs.Waking.{IsOwn}
use Rattle.device_model.specs.Live.{with_memory, refill, IsRefilled, LiveRuns, Turn, live_world, occurrence_at, transition_at, IsNextLive, LiveSettlesOf, live_roused, IsShortLive, TurnsAt}
use Rattle.device_model.proofs.Turning.{may, changes}
use Rattle.device_model.proofs.Places.{moves}
use Rattle.device_model.proofs.Choosing.{own_next_of}
use Rattle.device_model.proofs.Lowers.{lowers}
use Rattle.device_model.proofs.Bounds.{owed_at_start, own_pays}

-- all bytes written over all of memory are what stands there then
all_over : (old m : List ℕ) → length m ≡ length old → with_bytes old 0 m ≡ m
all_over old m e = ap (λ r. m ++ r) (ap (λ n. drop n old) e ∙ drop-length old) ∙ append-nil m

poked : (m : List ℕ) (u : PlainWorld) → length m ≡ length u.memory
    → WorldStep u (event_of (refill m)) (action_of (refill m)) (with_memory m u)
poked m u e =
    record {
      transition = refill m;
      event = refl;
      action = refl;
      may = omega (arith, e);
      is = ap (λ b. with_memory b u) (sym (all_over u.memory m e));
    }

pub any_bytes : (old : PlainWorld) (trace : List Occurrence) (w : PlainWorld) (m : List ℕ)
    → length m ≡ length w.memory → Reached old trace w
    → Reached old (occurrence_of (refill m) ∷ trace) (with_memory m w)
any_bytes old trace w m e r = record { opens = r.opens; runs = (w, r.runs, poked m w e) }

pub live_runs : (old : PlainWorld) (trace : List Occurrence) (w : PlainWorld) → LiveRuns old trace w
    → (full : List Occurrence) × IsRefilled trace full × Runs old full w
live_runs old [] w (m, e, is) =
    let P : PlainWorld → Type 0 = λ v. Runs old (occurrence_of (refill m) ∷ []) v in (
      occurrence_of (refill m) ∷ [],
      (m, refl),
      subst P (sym is) (old, refl, poked m old e),
    )
live_runs old (o ∷ past) w (v, u, m, before, step, e, is) =
    let rest = live_runs old past v before in
    let full = occurrence_of (refill m) ∷ o ∷ rest.0 in
    let P : PlainWorld → Type 0 = λ x. Runs old full x in (
      full,
      (m, rest.0, refl, rest.1),
      subst P (sym is) (u, (v, rest.2, step), poked m u e),
    )

-- Along a settling

own_live : (asked : ℕ → Bool) (w : PlainWorld) (e : Event) → IsNextLive asked w e → IsOwn e
own_live asked w e (inl next) = own_next_of (λ q. false) w e next
own_live asked w e (inr (quiet, next)) = subst IsOwn (sym next.2) tt

accepted_live : (asked : ℕ → Bool) (p : Ticket → ℕ) (w : PlainWorld) (more : List Turn) → LiveSettlesOf asked w more
    → accepted_count p (live_world w more) ≡ accepted_count p w + sum_by (fetches p) (map transition_at more)
accepted_live asked p w [] s = omega (arith)
accepted_live asked p w (t ∷ past) s =
    let v = with_memory t.found (live_world w past) in
    let a = (moves p t.transition v (may t.transition v s.2)).accepted in
    let b = accepted_live asked p w past s.0 in
    let c = sum_by-cons (fetches p) t.transition (map transition_at past) in
    omega (arith, a, b, c)

live_paid : (asked : ℕ → Bool) (w : PlainWorld) (more : List Turn) → LiveSettlesOf asked w more
    → measure (live_world w more) + length more
    ≤ measure w + sum_by (fetches price) (map transition_at more) + 2 * sum_by visited (map transition_at more)
    + 2 * live_roused w more
live_paid asked w [] s = omega (arith)
live_paid asked w (t ∷ past) s =
    let v = with_memory t.found (live_world w past) in
    let here = lowers t.transition v s.2 in
    let rest = live_paid asked w past s.0 in
    let own = own_pays t.transition v s.2 (own_live asked (live_world w past) (event_of t.transition) s.3) in
    let a = sum_by-cons (fetches price) t.transition (map transition_at past) in
    let b = sum_by-cons visited t.transition (map transition_at past) in
    omega (arith, here, rest, own, a, b)

pub live_short : (asked : ℕ → Bool) (old : PlainWorld) (trace : List Occurrence) (w : PlainWorld) (more : List Turn)
    → Reached old trace w → LiveSettlesOf asked w more → IsShortLive w more
live_short asked old trace w more r s =
    let a = live_paid asked w more s in
    let b = owed_at_start old trace w r in
    let c = accepted_live asked price w more s in
    omega (arith, a, b, c)

pub live_changes : (asked : ℕ → Bool) (w : PlainWorld) (more : List Turn) → LiveSettlesOf asked w more
    → count_changes (map occurrence_at more) ≡ length more
live_changes asked w [] s = refl
live_changes asked w (t ∷ past) s =
    let a = live_changes asked w past s.0 in
    let b = ap bit (changes t.transition (with_memory t.found (live_world w past)) s.2) in
    omega (arith, a, b)

-- any bytes may come to stand there at its end
pub live_run : (asked : ℕ → Bool) (w : PlainWorld) (more : List Turn) (m : List ℕ) → LiveSettlesOf asked w more
    → length m ≡ length (live_world w more).memory → LiveRuns w (map occurrence_at more) (with_memory m (live_world w more))
live_run asked w [] m s e = (m, e, refl)
live_run asked w (t ∷ past) m s e =
    let before = live_world w past in
    let v = with_memory t.found before in
    let step : WorldStep v (event_of t.transition) (action_of t.transition) (after t.transition v) =
    record { transition = t.transition; event = refl; action = refl; may = may t.transition v s.2; is = refl } in
    (v, after t.transition v, m, live_run asked w past t.found s.0 s.1, step, e, refl)

-- One event

pub turn_run : (found left seen : List ℕ) (w : PlainWorld) (e : Event) (w' : PlainWorld) (x m : List ℕ)
    → TurnsAt found left seen w e w' → length found ≡ length w.memory → length left ≡ length w'.memory
    → length x ≡ length w.memory → length m ≡ length w'.memory
    → (o : Occurrence) × (o.event ≡ e) × LiveRuns (with_memory x w) (o ∷ []) (with_memory m w')
turn_run found left seen w e w' x m t before behind long long' =
    let d = t.transition in
    let v = with_memory found w in
    let u = after d v in
    let size_found : length found ≡ length x = before ∙ sym long in
    let step : WorldStep v (event_of d) (action_of d) u =
    record { transition = d; event = refl; action = refl; may = may d v t.happens; is = refl } in
    let size : length m ≡ length u.memory =
    long' ∙ sym behind ∙ ap (λ (y : PlainWorld). length y.memory) t.is in
    let same = ap (λ (y : PlainWorld). with_memory m y) t.is in
    (occurrence_of d, t.event, (v, u, m, (found, size_found, refl), step, size, same))

pub own_turn : (found left seen : List ℕ) (w : PlainWorld) (e : Event) (w' : PlainWorld) → TurnsAt found left seen w e w'
    → Turns (with_memory found w) e true (with_memory left w')
own_turn found left seen w e w' t = (t.transition, t.event, t.happens, t.is)
