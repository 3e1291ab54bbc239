-- What is next is decided, and is one event.
use Rattle.std.proofs.Common.{◌≡◌, ℕ, ◌<◌, ◌≤◌, Bool, true, false, if◌then◌else◌, List, [], ◌∷◌, ◌++◌, length, Option, Some, None, refl, sym, ◌∙◌, ap, subst, arith, zero, suc, inl, inr}
use Rattle.std.specs.Prelude.{slice_get, ◌⊎◌}
use Rattle.std.specs.List.{AllByRecursion}
use Rattle.scsi_codec.specs.declared.event_queue.Event.{Event as EventRecord}
use Rattle.ring_core.specs.State.{RingState, PlainChain}
use Rattle.ring_core.specs.Offer.{Offer, Nothing, Found, Refused, Offers}
use Rattle.ring_core.specs.declared.descriptor.Part.{Part}
use Rattle.ring_core.specs.declared.fault.RingFault.{RingFault}
use Rattle.ring_core.proofs.Exact.{offers_once}
use Rattle.ring_core.proofs.Exists.{offers_some}
use Rattle.unit_model.specs.Clearing.{is_clear}
use Rattle.unit_model.specs.Jobs.{PlainJob}
use Rattle.unit_model.specs.Unit.{PlainUnit}
use Rattle.task_mgmt.specs.declared.function.Mark.{Mark as MarkAt}
use Rattle.device_model.specs.Parts.{Outcome, Slot, Hand}
use Rattle.device_model.specs.World.{PlainQueue, Seat, Opened, PlainWorld}
use Rattle.device_model.specs.Events.{Event}
use Rattle.device_model.specs.Event.Fetch.{IsOpenTo}
use Rattle.device_model.specs.Applies.{Applies}
use Rattle.device_model.specs.Event.Check.{MayCheck}
use Rattle.device_model.proofs.Lists.{nothing, same}
use Rattle.device_model.specs.Order.{each, of_seat, fetch_of, order, order_by, order_of, IsFirstOf, IsNext, IsNextOf, NoneApplies, IsQuiet, IsQuietOf}
use Rattle.device_model.specs.Waking.{IsOwn}
use Rattle.device_model.proofs.Quiet.{Never}
use Rattle.device_model.proofs.Off.{some_off}

abbrev Decided : PlainWorld → Event → Type 0
Decided w e = Applies w e ⊎ Never w e

-- Queues

-- what stands at a number is one
one_there : {X : Type 0} {o : Option X} {x y : X} → o ≡ Some x → o ≡ Some y → x ≡ y
one_there a b = same (sym a ∙ b)

empty_arrived : {x : PlainJob} → Slot.Empty ≡ Slot.Arrived x → ⊥
empty_arrived e = cc

ready_arrived : {x : PlainJob} {c : PlainChain} {o : Outcome} → Slot.Direct c o ≡ Slot.Arrived x → ⊥
ready_arrived e = cc

enter_at : (w : PlainWorld) (i : ℕ) (q : PlainQueue) (s : Slot) → slice_get w.queues i ≡ Some q → q.slot ≡ s
    → Decided w (Event.Enter i)
enter_at w i q Slot.Empty at e =
    inr (λ h. empty_arrived (sym e ∙ ap (λ (z : PlainQueue). z.slot) (one_there at h.1.1) ∙ h.1.2))
enter_at w i q (Slot.Arrived x) at e = inl (x, (q, at, e))
enter_at w i q (Slot.Direct c o) at e =
    inr (λ h. ready_arrived (sym e ∙ ap (λ (z : PlainQueue). z.slot) (one_there at h.1.1) ∙ h.1.2))

enter_decided : (w : PlainWorld) (i : ℕ) (o : Option PlainQueue) → slice_get w.queues i ≡ o → Decided w (Event.Enter i)
enter_decided w i None at = inr (λ h. nothing (sym at ∙ h.1.1))
enter_decided w i (Some q) at = enter_at w i q q.slot at refl

empty_direct : {c : PlainChain} {o : Outcome} → Slot.Empty ≡ Slot.Direct c o → ⊥
empty_direct e = cc

arrived_direct : {x : PlainJob} {c : PlainChain} {o : Outcome} → Slot.Arrived x ≡ Slot.Direct c o → ⊥
arrived_direct e = cc

direct_at : (w : PlainWorld) (i : ℕ) (q : PlainQueue) (s : Slot) → slice_get w.queues i ≡ Some q → q.slot ≡ s
    → Decided w (Event.Direct i)
direct_at w i q Slot.Empty at e =
    inr (λ h. empty_direct (sym e ∙ ap (λ (z : PlainQueue). z.slot) (one_there at h.2.1) ∙ h.2.2))
direct_at w i q (Slot.Arrived x) at e =
    inr (λ h. arrived_direct (sym e ∙ ap (λ (z : PlainQueue). z.slot) (one_there at h.2.1) ∙ h.2.2))
direct_at w i q (Slot.Direct c o) at e = inl (c, o, (q, at, e))

direct_decided : (w : PlainWorld) (i : ℕ) (o : Option PlainQueue) → slice_get w.queues i ≡ o
    → Decided w (Event.Direct i)
direct_decided w i None at = inr (λ h. nothing (sym at ∙ h.2.1))
direct_decided w i (Some q) at = direct_at w i q q.slot at refl

some_or_none : {X : Type 0} {x : X} → Some x ≡ None → ⊥
some_or_none e = cc

found_or_nothing : {id slots : ℕ} {parts : List Part} → Found id slots parts ≡ Nothing → ⊥
found_or_nothing e = cc

refused_or_nothing : {f : RingFault} → Refused f ≡ Nothing → ⊥
refused_or_nothing e = cc

-- whether a queue has something
has_some : (s : RingState) (m : List ℕ) (o : Offer) → Offers s m o
    → (Offers s m Nothing → ⊥) ⊎ Offers s m Nothing
has_some s m Nothing h = inr h
has_some s m (Found id slots parts) h =
    inl (λ n. found_or_nothing (offers_once s m (Found id slots parts) Nothing h n))
has_some s m (Refused f) h = inl (λ n. refused_or_nothing (offers_once s m (Refused f) Nothing h n))

none_or_not : {X : Type 0} (o : Option X) → (o ≡ None) ⊎ (o ≡ None → ⊥)
none_or_not None = inl refl
none_or_not (Some x) = inr some_or_none

open_or_not : (w : PlainWorld) (i : ℕ) → IsOpenTo w i ⊎ (IsOpenTo w i → ⊥)
open_or_not w zero = none_or_not w.function
open_or_not w (suc i) = inl tt

empty_or_not : (s : Slot) → (s ≡ Slot.Empty) ⊎ (s ≡ Slot.Empty → ⊥)
empty_or_not Slot.Empty = inl refl
empty_or_not (Slot.Arrived x) = inr (λ e. empty_arrived (sym e))
empty_or_not (Slot.Direct c o) = inr (λ e. empty_direct (sym e))

fetch_at : (w : PlainWorld) (i : ℕ) (q : PlainQueue) → slice_get w.queues i ≡ Some q
    → (q.slot ≡ Slot.Empty) ⊎ (q.slot ≡ Slot.Empty → ⊥) → IsOpenTo w i ⊎ (IsOpenTo w i → ⊥)
    → (q.ring.broken ≡ None) ⊎ (q.ring.broken ≡ None → ⊥)
    → (Offers q.ring w.memory Nothing → ⊥) ⊎ Offers q.ring w.memory Nothing → Decided w (Event.Fetch i)
fetch_at w i q at (inr never) b c d =
    inr (λ h. never (ap (λ (z : PlainQueue). z.slot) (one_there at h.there) ∙ h.empty))
fetch_at w i q at (inl a) (inr never) c d = inr (λ h. never h.opened)
fetch_at w i q at (inl a) (inl b) (inr never) d =
    inr (λ h. never (ap (λ (z : PlainQueue). z.ring.broken) (one_there at h.there) ∙ h.whole))
fetch_at w i q at (inl a) (inl b) (inl c) (inr never) =
    inr (λ h. h.has_some (subst (λ (z : PlainQueue). Offers z.ring w.memory Nothing) (one_there at h.there) never))
fetch_at w i q at (inl a) (inl b) (inl c) (inl d) =
    inl (record { queue = q; there = at; empty = a; opened = b; whole = c; has_some = d })

fetch_decided : (w : PlainWorld) (i : ℕ) (o : Option PlainQueue) → slice_get w.queues i ≡ o → Decided w (Event.Fetch i)
fetch_decided w i None at = inr (λ h. nothing (sym at ∙ h.there))
fetch_decided w i (Some q) at =
    let o = offers_some q.ring w.memory in
    fetch_at w i q at (empty_or_not q.slot) (open_or_not w i) (none_or_not q.ring.broken)
    (has_some q.ring w.memory o.0 o.1)

-- Seats

abbrev seat : Hand → List PlainJob → Seat
seat hand out = record { hand = hand; out = out }

abbrev At : PlainWorld → ℕ → Hand → List PlainJob → Type 0
At w k hand out = slice_get w.seats k ≡ Some (seat hand out)

-- the hand of a seat is one, and so are its jobs
one_hand : (w : PlainWorld) (k : ℕ) (a b : Hand) (xs ys : List PlainJob) → At w k a xs → At w k b ys → a ≡ b
one_hand w k a b xs ys p q = ap (λ (s : Seat). s.hand) (one_there p q)

one_out : (w : PlainWorld) (k : ℕ) (a b : Hand) (xs ys : List PlainJob) → At w k a xs → At w k b ys → xs ≡ ys
one_out w k a b xs ys p q = ap (λ (s : Seat). s.out) (one_there p q)

abbrev is_taken : Hand → Bool
is_taken (Hand.Taken x) = true
is_taken hand = false

abbrev is_done : Hand → Bool
is_done (Hand.Done x o) = true
is_done hand = false

abbrev is_answered : Hand → Bool
is_answered (Hand.Answered unit_index t) = true
is_answered hand = false

abbrev is_empty_hand : Hand → Bool
is_empty_hand Hand.Empty = true
is_empty_hand hand = false

false_true : false ≡ true → ⊥
false_true e = cc

commit_at : (w : PlainWorld) (k : ℕ) (hand : Hand) (out : List PlainJob) → At w k hand out
    → Decided w (Event.Commit k)
commit_at w k (Hand.Taken x) out at = inl (x, (out, at))
commit_at w k Hand.Empty out at =
    inr (λ h. false_true (ap is_taken (one_hand w k Hand.Empty (Hand.Taken h.0) out h.1.0 at h.1.1)))
commit_at w k (Hand.Done x o) out at =
    inr (λ h. false_true (ap is_taken (one_hand w k (Hand.Done x o) (Hand.Taken h.0) out h.1.0 at h.1.1)))
commit_at w k (Hand.Answered unit_index t) out at =
    inr (λ h. false_true (ap is_taken (one_hand w k (Hand.Answered unit_index t) (Hand.Taken h.0) out h.1.0 at h.1.1)))

answer_at : (w : PlainWorld) (k : ℕ) (hand : Hand) (out : List PlainJob) → At w k hand out
    → Decided w (Event.Answer k)
answer_at w k (Hand.Done x o) out at = inl (x, o, (out, at))
answer_at w k Hand.Empty out at =
    inr (λ h. false_true (ap is_done (one_hand w k Hand.Empty (Hand.Done h.0 h.1) out h.2.0 at h.2.1)))
answer_at w k (Hand.Taken x) out at =
    inr (λ h. false_true (ap is_done (one_hand w k (Hand.Taken x) (Hand.Done h.0 h.1) out h.2.0 at h.2.1)))
answer_at w k (Hand.Answered unit_index t) out at =
    inr (λ h. false_true (ap is_done (one_hand w k (Hand.Answered unit_index t) (Hand.Done h.0 h.1) out h.2.0 at h.2.1)))

leave_at : (w : PlainWorld) (k : ℕ) (hand : Hand) (out : List PlainJob) → At w k hand out → Decided w (Event.Leave k)
leave_at w k (Hand.Answered unit_index t) out at = inl (unit_index, t, (out, at))
leave_at w k Hand.Empty out at =
    inr (λ h. false_true (ap is_answered (one_hand w k Hand.Empty (Hand.Answered h.0 h.1) out h.2.0 at h.2.1)))
leave_at w k (Hand.Taken x) out at =
    inr (λ h. false_true (ap is_answered (one_hand w k (Hand.Taken x) (Hand.Answered h.0 h.1) out h.2.0 at h.2.1)))
leave_at w k (Hand.Done x o) out at =
    inr (λ h. false_true (ap is_answered (one_hand w k (Hand.Done x o) (Hand.Answered h.0 h.1) out h.2.0 at h.2.1)))

no_job : {x : PlainJob} {xs : List PlainJob} → [] ≡ x ∷ xs → ⊥
no_job e = cc

put_not_free : (w : PlainWorld) (k : ℕ) (hand : Hand) (out : List PlainJob) → At w k hand out → is_empty_hand hand ≡ false
    → Never w (Event.Put k)
put_not_free w k hand out at e h =
    false_true (sym e ∙ ap is_empty_hand (one_hand w k hand Hand.Empty out (h.job ∷ h.rest) at h.seat))

put_at : (w : PlainWorld) (k : ℕ) (hand : Hand) (out : List PlainJob) → At w k hand out → Decided w (Event.Put k)
put_at w k Hand.Empty [] at = inr (λ h. no_job (one_out w k Hand.Empty Hand.Empty [] (h.job ∷ h.rest) at h.seat))
put_at w k Hand.Empty (x ∷ rest) at = inl (record { job = x; rest = rest; seat = at })
put_at w k (Hand.Taken x) out at = inr (put_not_free w k (Hand.Taken x) out at refl)
put_at w k (Hand.Done x o) out at = inr (put_not_free w k (Hand.Done x o) out at refl)
put_at w k (Hand.Answered unit_index t) out at = inr (put_not_free w k (Hand.Answered unit_index t) out at refl)

take_not_free : (w : PlainWorld) (k : ℕ) (hand : Hand) (out : List PlainJob) → At w k hand out → is_empty_hand hand ≡ false
    → Never w (Event.Take k)
take_not_free w k hand out at e h = false_true (sym e ∙ ap is_empty_hand (one_hand w k hand Hand.Empty out [] at h.seat))

take_off : (w : PlainWorld) (k : ℕ) → k < w.workers → At w k Hand.Empty [] → Decided w (Event.Take k)
take_off w k lt at =
    elim (some_off w.handed_off) [
      | inl q ↦ inl (record { worker = lt; seat = at; from = q.0; job = q.1; rest = q.2; handed_off = q.3 })
      | inr none ↦ inr (λ h. no_job (sym (none h.from (h.job ∷ h.rest) h.handed_off)))
    ]

below_or_not : (k n : ℕ) → (k < n) ⊎ (n ≤ k)
below_or_not k n = grind arith

not_below : (k n : ℕ) → n ≤ k → k < n → ⊥
not_below k n a b = omega (arith, a, b)

take_at : (w : PlainWorld) (k : ℕ) (hand : Hand) (out : List PlainJob) → (k < w.workers) ⊎ (w.workers ≤ k)
    → At w k hand out → Decided w (Event.Take k)
take_at w k hand out (inr le) at = inr (λ h. not_below k w.workers le h.worker)
take_at w k Hand.Empty [] (inl lt) at = take_off w k lt at
take_at w k Hand.Empty (x ∷ rest) (inl lt) at =
    inr (λ h. no_job (sym (one_out w k Hand.Empty Hand.Empty (x ∷ rest) [] at h.seat)))
take_at w k (Hand.Taken x) out (inl lt) at = inr (take_not_free w k (Hand.Taken x) out at refl)
take_at w k (Hand.Done x o) out (inl lt) at = inr (take_not_free w k (Hand.Done x o) out at refl)
take_at w k (Hand.Answered unit_index t) out (inl lt) at = inr (take_not_free w k (Hand.Answered unit_index t) out at refl)

resume_not_free : (w : PlainWorld) (k : ℕ) (hand : Hand) (out : List PlainJob) → At w k hand out
    → is_empty_hand hand ≡ false → Never w (Event.Resume k)
resume_not_free w k hand out at e h =
    false_true (sym e ∙ ap is_empty_hand (one_hand w k hand Hand.Empty out h.free.0 at h.free.1))

resume_off : (w : PlainWorld) (k : ℕ) (out woken : List PlainJob) → k < w.workers → At w k Hand.Empty out
    → w.woken ≡ woken → Decided w (Event.Resume k)
resume_off w k out [] lt at e = inr (λ h. no_job (sym e ∙ h.first))
resume_off w k out (x ∷ rest) lt at e =
    inl (record { worker = lt; free = (out, at); job = x; rest = rest; first = e })

resume_at : (w : PlainWorld) (k : ℕ) (hand : Hand) (out : List PlainJob) → (k < w.workers) ⊎ (w.workers ≤ k)
    → At w k hand out → Decided w (Event.Resume k)
resume_at w k hand out (inr le) at = inr (λ h. not_below k w.workers le h.worker)
resume_at w k Hand.Empty out (inl lt) at = resume_off w k out w.woken lt at refl
resume_at w k (Hand.Taken x) out (inl lt) at = inr (resume_not_free w k (Hand.Taken x) out at refl)
resume_at w k (Hand.Done x o) out (inl lt) at = inr (resume_not_free w k (Hand.Done x o) out at refl)
resume_at w k (Hand.Answered unit_index t) out (inl lt) at = inr (resume_not_free w k (Hand.Answered unit_index t) out at refl)

commit_decided : (w : PlainWorld) (k : ℕ) (o : Option Seat) → slice_get w.seats k ≡ o → Decided w (Event.Commit k)
commit_decided w k None at = inr (λ h. nothing (sym at ∙ h.1.1))
commit_decided w k (Some s) at = commit_at w k s.hand s.out at

answer_decided : (w : PlainWorld) (k : ℕ) (o : Option Seat) → slice_get w.seats k ≡ o → Decided w (Event.Answer k)
answer_decided w k None at = inr (λ h. nothing (sym at ∙ h.2.1))
answer_decided w k (Some s) at = answer_at w k s.hand s.out at

leave_decided : (w : PlainWorld) (k : ℕ) (o : Option Seat) → slice_get w.seats k ≡ o → Decided w (Event.Leave k)
leave_decided w k None at = inr (λ h. nothing (sym at ∙ h.2.1))
leave_decided w k (Some s) at = leave_at w k s.hand s.out at

put_decided : (w : PlainWorld) (k : ℕ) (o : Option Seat) → slice_get w.seats k ≡ o → Decided w (Event.Put k)
put_decided w k None at = inr (λ h. nothing (sym at ∙ h.seat))
put_decided w k (Some s) at = put_at w k s.hand s.out at

take_decided : (w : PlainWorld) (k : ℕ) (o : Option Seat) → slice_get w.seats k ≡ o → Decided w (Event.Take k)
take_decided w k None at = inr (λ h. nothing (sym at ∙ h.seat))
take_decided w k (Some s) at = take_at w k s.hand s.out (below_or_not k w.workers) at

resume_decided : (w : PlainWorld) (k : ℕ) (o : Option Seat) → slice_get w.seats k ≡ o → Decided w (Event.Resume k)
resume_decided w k None at = inr (λ h. nothing (sym at ∙ h.free.1))
resume_decided w k (Some s) at = resume_at w k s.hand s.out (below_or_not k w.workers) at

-- The function

no_unit : {k : ℕ} {ks : List ℕ} → [] ≡ k ∷ ks → ⊥
no_unit e = cc

no_mark : {m : MarkAt} {ms : List MarkAt} → [] ≡ m ∷ ms → ⊥
no_mark e = cc

left_of : (x y : Opened) → x ≡ y → x.function.left ≡ y.function.left
left_of x y e = ap (λ (o : Opened). o.function.left) e

waits_of : (x y : Opened) → x ≡ y → x.function.waits ≡ y.function.waits
waits_of x y e = ap (λ (o : Opened). o.function.waits) e

mark_at : (w : PlainWorld) (o : Opened) (left : List ℕ) → w.function ≡ Some o → o.function.left ≡ left
    → Decided w Event.Mark
mark_at w o [] at e = inr (λ h. no_unit (sym e ∙ left_of o h.opened (one_there at h.there) ∙ h.left))
mark_at w o (unit_index ∷ later) at e =
    inl (record { opened = o; there = at; unit_index = unit_index; later = later; left = e })

mark_decided : (w : PlainWorld) (o : Option Opened) → w.function ≡ o → Decided w Event.Mark
mark_decided w None at = inr (λ h. nothing (sym at ∙ h.there))
mark_decided w (Some o) at = mark_at w o o.function.left at refl

respond_at : (w : PlainWorld) (o : Opened) (left : List ℕ) (waits : List MarkAt) → w.function ≡ Some o
    → o.function.left ≡ left → o.function.waits ≡ waits → Decided w Event.AnswerTmf
respond_at w o [] [] at e f = inl (record { opened = o; there = at; left = e; still = f })
respond_at w o (unit_index ∷ later) waits at e f =
    inr (λ h. no_unit (sym h.left ∙ left_of h.opened o (one_there h.there at) ∙ e))
respond_at w o [] (m ∷ later) at e f =
    inr (λ h. no_mark (sym h.still ∙ waits_of h.opened o (one_there h.there at) ∙ f))

respond_decided : (w : PlainWorld) (o : Option Opened) → w.function ≡ o → Decided w Event.AnswerTmf
respond_decided w None at = inr (λ h. nothing (sym at ∙ h.there))
respond_decided w (Some o) at = respond_at w o o.function.left o.function.waits at refl refl

first_mark : {a b : MarkAt} {more rest : List MarkAt} → a ∷ more ≡ b ∷ rest → a ≡ b
first_mark e = cc

-- the mark that a function waits for first
same_mark : (w : PlainWorld) (o : Opened) (m : MarkAt) (later : List MarkAt) → w.function ≡ Some o
    → o.function.waits ≡ m ∷ later → (h : MayCheck w) → h.mark ≡ m
same_mark w o m later at e h = first_mark (sym h.still ∙ waits_of h.opened o (one_there h.there at) ∙ e)

check_unit : (w : PlainWorld) (o : Opened) (m : MarkAt) (later : List MarkAt) (u : Option PlainUnit) → w.function ≡ Some o
    → o.function.left ≡ [] → o.function.waits ≡ m ∷ later → slice_get w.units m.unit ≡ u → Decided w Event.Check
check_unit w o m later None at e f there =
    inr (λ h.
    let p = same_mark w o m later at f h in
    nothing (sym there ∙ ap (λ (z : MarkAt). slice_get w.units z.unit) (sym p) ∙ h.unit_there))
check_unit w o m later (Some u) at e f there =
    (elim (is_clear m.place u.steps) as (λ b. is_clear m.place u.steps ≡ b → Decided w Event.Check) [
      | true ↦ λ c. inl (record {
        opened = o;
        there = at;
        left = e;
        mark = m;
        later = later;
        still = f;
        unit = u;
        unit_there = there;
        clear = c;
      })
      | false ↦ λ c. inr (λ h.
          let p = same_mark w o m later at f h in
          let is = one_there (ap (λ (z : MarkAt). slice_get w.units z.unit) (sym p) ∙ h.unit_there) there in
          let a = ap (λ (z : MarkAt). is_clear z.place u.steps) (sym p) in
          let b = ap (λ (z : PlainUnit). is_clear h.mark.place z.steps) (sym is) in
          false_true (sym c ∙ a ∙ b ∙ h.clear))
    ]) refl

check_at : (w : PlainWorld) (o : Opened) (left : List ℕ) (waits : List MarkAt) → w.function ≡ Some o
    → o.function.left ≡ left → o.function.waits ≡ waits → Decided w Event.Check
check_at w o (unit_index ∷ later) waits at e f =
    inr (λ h. no_unit (sym h.left ∙ left_of h.opened o (one_there h.there at) ∙ e))
check_at w o [] [] at e f =
    inr (λ h. no_mark (sym f ∙ waits_of o h.opened (one_there at h.there) ∙ h.still))
check_at w o [] (m ∷ later) at e f = check_unit w o m later (slice_get w.units m.unit) at e f refl

check_decided : (w : PlainWorld) (o : Option Opened) → w.function ≡ o → Decided w Event.Check
check_decided w None at = inr (λ h. nothing (sym at ∙ h.there))
check_decided w (Some o) at = check_at w o o.function.left o.function.waits at refl refl

-- The port

no_report : {e : EventRecord} {es : List EventRecord} → [] ≡ e ∷ es → ⊥
no_report e = cc

raise_decided : (w : PlainWorld) (l : List EventRecord) → w.waiting ≡ l → Decided w Event.Raise
raise_decided w [] e = inr (λ h. no_report (sym e ∙ h.2))
raise_decided w (report ∷ later) e = inl (report, later, e)

-- Any event

decided : (w : PlainWorld) (e : Event) → IsOwn e → Decided w e
decided w (Event.Poke x) own = absurd own
decided w (Event.Fetch i) own = fetch_decided w i (slice_get w.queues i) refl
decided w (Event.Enter i) own = enter_decided w i (slice_get w.queues i) refl
decided w (Event.Direct i) own = direct_decided w i (slice_get w.queues i) refl
decided w (Event.Put k) own = put_decided w k (slice_get w.seats k) refl
decided w (Event.Take k) own = take_decided w k (slice_get w.seats k) refl
decided w (Event.Commit k) own = commit_decided w k (slice_get w.seats k) refl
decided w (Event.Answer k) own = answer_decided w k (slice_get w.seats k) refl
decided w (Event.Leave k) own = leave_decided w k (slice_get w.seats k) refl
decided w Event.Mark own = mark_decided w w.function refl
decided w Event.Check own = check_decided w w.function refl
decided w Event.AnswerTmf own = respond_decided w w.function refl
decided w (Event.Prepare k) own = absurd own
decided w (Event.Resize unit_index blocks) own = absurd own
decided w (Event.Hard unit_index) own = absurd own
decided w Event.Wake own = absurd own
decided w (Event.Deal unit_index x) own = absurd own
decided w (Event.Resume k) own = resume_decided w k (slice_get w.seats k) refl
decided w Event.Raise own = raise_decided w w.waiting refl

-- The order has no event of the guest or of the operator

abbrev AreOwn : List Event → Type 0
AreOwn es = AllByRecursion IsOwn es

own_append : (xs ys : List Event) → AreOwn xs → AreOwn ys → AreOwn (xs ++ ys)
own_append [] ys a b = b
own_append (x ∷ xs) ys a b = (a.0, own_append xs ys a.1 b)

own_each : (f : ℕ → List Event) (n : ℕ) → ((k : ℕ) → AreOwn (f k)) → AreOwn (each f n)
own_each f zero h = tt
own_each f (suc n) h = own_append (each f n) (f n) (own_each f n h) (h n)

own_order : (queues seats : ℕ) → AreOwn (order queues seats)
unfolding order
own_order queues seats =
    let directs : List Event = each (λ q. Event.Direct q ∷ []) queues in
    let enters : List Event = each (λ q. Event.Enter q ∷ []) queues in
    let fetches : List Event = each (λ q. Event.Fetch q ∷ []) queues in
    let a = own_each (λ q. Event.Direct q ∷ []) queues (λ q. (tt, tt)) in
    let b = own_each of_seat seats (λ k. (tt, (tt, (tt, (tt, (tt, (tt, tt))))))) in
    let c = own_each (λ q. Event.Enter q ∷ []) queues (λ q. (tt, tt)) in
    let d = own_each (λ q. Event.Fetch q ∷ []) queues (λ q. (tt, tt)) in
    own_append (Event.AnswerTmf ∷ Event.Check ∷ Event.Mark ∷ Event.Raise ∷ directs)
    (each of_seat seats ++ (enters ++ fetches)) (tt, (tt, (tt, (tt, a))))
    (own_append (each of_seat seats) (enters ++ fetches) b (own_append enters fetches c d))

own_asked : (b : Bool) (q : ℕ) → AreOwn (if b then Event.Fetch q ∷ [] else [])
own_asked true q = (tt, tt)
own_asked false q = tt

own_order_by : (asked : ℕ → Bool) (queues seats : ℕ) → AreOwn (order_by asked queues seats)
unfolding order_by
own_order_by asked queues seats =
    let directs : List Event = each (λ q. Event.Direct q ∷ []) queues in
    let enters : List Event = each (λ q. Event.Enter q ∷ []) queues in
    let fetches : List Event = each (fetch_of asked) queues in
    let a = own_each (λ q. Event.Direct q ∷ []) queues (λ q. (tt, tt)) in
    let b = own_each of_seat seats (λ k. (tt, (tt, (tt, (tt, (tt, (tt, tt))))))) in
    let c = own_each (λ q. Event.Enter q ∷ []) queues (λ q. (tt, tt)) in
    let d = own_each (fetch_of asked) queues (λ q. own_asked (asked q) q) in
    own_append (Event.AnswerTmf ∷ Event.Check ∷ Event.Mark ∷ Event.Raise ∷ directs)
    (each of_seat seats ++ (enters ++ fetches)) (tt, (tt, (tt, (tt, a))))
    (own_append (each of_seat seats) (enters ++ fetches) b (own_append enters fetches c d))

own_first : (w : PlainWorld) (es : List Event) (e : Event) → IsFirstOf w es e → AreOwn es → IsOwn e
own_first w [] e h own = absurd h
own_first w (x ∷ xs) e (inl h) own = subst IsOwn h.1 own.0
own_first w (x ∷ xs) e (inr h) own = own_first w xs e h.1 own.1

-- what is next is an event of the device itself
pub own_next : (w : PlainWorld) (e : Event) → IsNext w e → IsOwn e
own_next w e h = own_first w (order_of w) e h (own_order (length w.queues) (length w.seats))

-- and applies
first_applies : (w : PlainWorld) (es : List Event) (e : Event) → IsFirstOf w es e → Applies w e
first_applies w [] e h = absurd h
first_applies w (x ∷ xs) e (inl h) = subst (Applies w) h.1 h.0
first_applies w (x ∷ xs) e (inr h) = first_applies w xs e h.1

pub next_applies : (w : PlainWorld) (e : Event) → IsNext w e → Applies w e
next_applies w e h = first_applies w (order_of w) e h

-- it is one
first_once : (w : PlainWorld) (es : List Event) (e f : Event) → IsFirstOf w es e → IsFirstOf w es f → e ≡ f
first_once w [] e f h k = absurd h
first_once w (x ∷ xs) e f (inl h) (inl k) = sym h.1 ∙ k.1
first_once w (x ∷ xs) e f (inl h) (inr k) = absurd (k.0 h.0)
first_once w (x ∷ xs) e f (inr h) (inl k) = absurd (h.0 k.0)
first_once w (x ∷ xs) e f (inr h) (inr k) = first_once w xs e f h.1 k.1

pub next_once : (w : PlainWorld) (e f : Event) → IsNext w e → IsNext w f → e ≡ f
next_once w e f h k = first_once w (order_of w) e f h k

first_or_none : (w : PlainWorld) (es : List Event) → AreOwn es → ((e : Event) × IsFirstOf w es e) ⊎ NoneApplies w es
first_or_none w [] own = inr tt
first_or_none w (x ∷ xs) own = first_among w x xs (decided w x own.0) (first_or_none w xs own.1)
  where
    first_among : (w : PlainWorld) (x : Event) (xs : List Event) → Decided w x
        → ((e : Event) × IsFirstOf w xs e) ⊎ NoneApplies w xs
        → ((e : Event) × IsFirstOf w (x ∷ xs) e) ⊎ NoneApplies w (x ∷ xs)
    first_among w x xs (inl h) rest = inl (x, inl (h, refl))
    first_among w x xs (inr never) (inl r) = inl (r.0, inr (never, r.1))
    first_among w x xs (inr never) (inr r) = inr (never, r)

-- some event is next, or none applies
pub next_or_quiet : (w : PlainWorld) → ((e : Event) × IsNext w e) ⊎ IsQuiet w
next_or_quiet w = first_or_none w (order_of w) (own_order (length w.queues) (length w.seats))

-- The same of the queues that are asked

pub own_next_of : (asked : ℕ → Bool) (w : PlainWorld) (e : Event) → IsNextOf asked w e → IsOwn e
own_next_of asked w e h =
    own_first w (order_by asked (length w.queues) (length w.seats)) e h
    (own_order_by asked (length w.queues) (length w.seats))

pub next_applies_of : (asked : ℕ → Bool) (w : PlainWorld) (e : Event) → IsNextOf asked w e → Applies w e
next_applies_of asked w e h = first_applies w (order_by asked (length w.queues) (length w.seats)) e h

pub next_once_of : (asked : ℕ → Bool) (w : PlainWorld) (e f : Event) → IsNextOf asked w e → IsNextOf asked w f → e ≡ f
next_once_of asked w e f h k = first_once w (order_by asked (length w.queues) (length w.seats)) e f h k

pub next_or_quiet_of : (asked : ℕ → Bool) (w : PlainWorld) → ((e : Event) × IsNextOf asked w e) ⊎ IsQuietOf asked w
next_or_quiet_of asked w =
    first_or_none w (order_by asked (length w.queues) (length w.seats))
    (own_order_by asked (length w.queues) (length w.seats))
