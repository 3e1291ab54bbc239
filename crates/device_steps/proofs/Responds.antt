-- What an answer to the open function does is a turn of its event.
use Rattle.std.proofs.Common.{◌≡◌, ℕ, Bool, true, false, List, [], ◌∷◌, length, ◌&&◌, ◌==◌, Option, Some, None, refl, sym, ap, ◌∙◌, arith}
use Rattle.std.specs.Prelude.{slice_get, slice_set}
use Rattle.std.proofs.lemmas.Bool.{eqb-true}
use Rattle.scsi_codec.specs.ControlQueue.{function_bytes}
use Rattle.ring_core.specs.Writes.{Write, all_written}
use Rattle.task_mgmt.specs.Functions.{PlainFunction, is_over, response_of}
use Rattle.device_model.specs.Parts.{Slot, answer_writes}
use Rattle.device_model.specs.World.{PlainQueue, Opened, PlainWorld, change}
use Rattle.device_model.specs.Events.{Event}
use Rattle.device_model.specs.Transitions.{Transition}
use Rattle.device_model.specs.Changing.{completing}
use Rattle.device_model.specs.Event.Check.{IsWaiting}
use Rattle.device_model.specs.Standing.{FunctionOwns}
use Rattle.device_model.proofs.Joining.{joins}
use Rattle.device_model.proofs.Lists.{same, nothing}
use Rattle.virtqueue.specs.Queue.{BareQueue, MayComplete}
use Rattle.phases.specs.Queue.{with_slot}
use Rattle.phases.specs.Inner.Stored.{responded_writes}
use Rattle.phases.specs.Inner.InMemory.{as_seen, RespondsIn, RespondsWhereIn, StaysQueueIn}
use Rattle.device_steps.specs.Apart.{TurnsSeen}
use Rattle.device_steps.specs.Inner.Sound.{IsSound}
use Rattle.device_steps.proofs.Setting.{set_same}
use Rattle.device_steps.proofs.Placing.{set_as}

-- the world with this memory, these queues and this function
abbrev pub with_three : List ℕ → List PlainQueue → Option Opened → PlainWorld → PlainWorld
with_three m qs f w = record w { memory = m; queues = qs; function = f }

-- no falsehood is true
false_or_true : false ≡ true → ⊥
false_or_true e = cc

-- where both hold each does
each_of : (a b : Bool) → (a && b) ≡ true → (a ≡ true) × (b ≡ true)
each_of true true h = (refl, refl)
each_of true false h = absurd (false_or_true h)
each_of false b h = absurd (false_or_true h)

-- a list of no items is empty
empty_of : {X : Type 0} (xs : List X) → length xs ≡ 0 → xs ≡ []
empty_of [] h = refl
empty_of (x ∷ xs) h = absurd (omega (arith, h))

-- what is over has nothing left
over_left : (f : PlainFunction) → is_over f ≡ true → (f.left ≡ []) × (f.waits ≡ [])
over_left f h =
    let both = each_of (length f.left == 0) (length f.waits == 0) h in (
      empty_of f.left (eqb-true (length f.left) 0 both.0),
      empty_of f.waits (eqb-true (length f.waits) 0 both.1),
    )

-- and what has nothing left is over
left_over : (f : PlainFunction) → f.left ≡ [] → f.waits ≡ [] → is_over f ≡ true
left_over f left waits = rw (left, waits) refl

-- no function is over and not
over_or_not : {b : Bool} → b ≡ false → b ≡ true → ⊥
over_or_not e h = cc

-- where nothing was changed the world is as it was
stays : (w : PlainWorld) (k : ℕ) (s : Slot) (l l' : BareQueue) (m' n : List ℕ) (f' : Option Opened)
    → slice_get w.queues k ≡ Some (with_slot s l) → StaysQueueIn l l' w.memory m' n → f' ≡ w.function
    → with_three m' (slice_set w.queues k (with_slot s l')) f' w ≡ w
stays w k s l l' m' n f' at h is =
    let m = ap (λ m. with_three m (slice_set w.queues k (with_slot s l')) f' w) h.memory in
    let q = ap (λ l. with_three w.memory (slice_set w.queues k (with_slot s l)) f' w) h.queue in
    let qs = ap (λ qs. with_three w.memory qs f' w) (set_same k w.queues (with_slot s l) at) in
    m ∙ q ∙ qs ∙ ap (λ f. with_three w.memory w.queues f w) is

-- the queue owns the chain of the open function
may_complete : (w : PlainWorld) (k : ℕ) (s : Slot) (l : BareQueue) (f : Opened) → k ≡ 0
    → slice_get w.queues k ≡ Some (with_slot s l) → l.ring.memory ≡ length w.memory → FunctionOwns w (Some f)
    → MayComplete l w.memory f.chain
may_complete w k s l f first at fits h =
    let is = same (sym h.1.there ∙ ap (λ i. slice_get w.queues i) (h.0 ∙ sym first) ∙ at) in
    record { fits = sym fits; owned = rw (ap (λ (q : PlainQueue). q.ring) is) at h.1.owned }

-- by whether the function is over
where_turns : (stored : List Write → Type 0) (w : PlainWorld) (k : ℕ) (s : Slot) (l l' : BareQueue) (m' n : List ℕ) (f : Opened) (f' : Option Opened)
    (over r : Bool) → k ≡ 0 → slice_get w.queues k ≡ Some (with_slot s l) → l.ring.memory ≡ length w.memory
    → w.function ≡ Some f → FunctionOwns w (Some f) → is_over f.function ≡ over
    → stored (responded_writes (Some f) l.ring r)
    → RespondsWhereIn w.shared over f l w.memory r l' m' n f'
    → TurnsSeen stored n w Event.AnswerTmf r (with_three m' (slice_set w.queues k (with_slot s l')) f' w)
where_turns stored w k s l l' m' n f f' true true first at fits there owns over wrote h =
    let r = response_of f.function in
    let xs = answer_writes l.ring f.chain (function_bytes r) in
    let d = Transition.Respond f.chain r (as_seen n xs) in
    let does = h.0 w.inventory s in
    let none = over_left f.function over in
    let here : slice_get w.queues f.chain.ticket.queue ≡ Some (with_slot s l) =
    ap (λ i. slice_get w.queues i) (owns.0 ∙ sym first) ∙ at in
    let waiting : IsWaiting w f.chain.ticket [] =
    record { opened = f; there = there; of = refl; left = none.0; still = none.1 } in
    let queues = slice_set w.queues k (with_slot s l') in
    let completed = change (completing n f.chain) f.chain.ticket.queue w.queues in
    let set = set_as (completing n f.chain) k f.chain.ticket.queue w.queues (with_slot s l) (with_slot s l') at
    does.queue (owns.0 ∙ sym first) in (
      d,
      refl,
      joins d w (record { waiting = waiting; chain = refl }, refl) tt (with_slot s l, here, does.asks w.missed),
      ap (λ m. with_three m queues f' w) does.memory ∙ ap (λ qs. with_three (all_written w.memory xs) qs f' w) set
          ∙ ap (λ g. with_three (all_written w.memory xs) completed g w) h.1,
      refl,
      wrote,
    )
where_turns stored w k s l l' m' n f f' true false first at fits there owns over wrote h =
    absurd (h.0.why (may_complete w k s l f first at fits owns))
where_turns stored w k s l l' m' n f f' false true first at fits there owns over wrote h = absurd h
where_turns stored w k s l l' m' n f f' false false first at fits there owns over wrote h = (
  stays w k s l l' m' n f' at h.0 (h.1 ∙ sym there),
  λ may.
      over_or_not over
      (ap (λ (o : Opened). is_over o.function) (same (sym there ∙ may.there))
      ∙ left_over may.opened.function may.left may.still),
  h.0.seen,
  wrote,
)

-- by whether a function is open
some_turns : (stored : List Write → Type 0) (w : PlainWorld) (k : ℕ) (s : Slot) (l l' : BareQueue) (m' n : List ℕ) (f f' : Option Opened) (r : Bool)
    → k ≡ 0 → slice_get w.queues k ≡ Some (with_slot s l) → l.ring.memory ≡ length w.memory → w.function ≡ f
    → FunctionOwns w f → stored (responded_writes f l.ring r) → RespondsIn w.shared f l w.memory r l' m' n f'
    → TurnsSeen stored n w Event.AnswerTmf r (with_three m' (slice_set w.queues k (with_slot s l')) f' w)
some_turns stored w k s l l' m' n (Some f) f' r first at fits there owns wrote h =
    where_turns stored w k s l l' m' n f f' (is_over f.function) r first at fits there owns refl wrote h
some_turns stored w k s l l' m' n None f' true first at fits there owns wrote h = absurd h
some_turns stored w k s l l' m' n None f' false first at fits there owns wrote h =
    (stays w k s l l' m' n f' at h.0 (h.1 ∙ sym there), λ may. nothing (sym there ∙ may.there), h.0.seen, wrote)

-- what an answer to the open function does is a turn of its event
pub respond_turns : (stored : List Write → Type 0) (w : PlainWorld) (k : ℕ) (s : Slot) (l l' : BareQueue) (m' n : List ℕ) (f' : Option Opened) (r : Bool)
    → IsSound w → k ≡ 0 → slice_get w.queues k ≡ Some (with_slot s l) → l.ring.memory ≡ length w.memory
    → stored (responded_writes w.function l.ring r) → RespondsIn w.shared w.function l w.memory r l' m' n f'
    → TurnsSeen stored n w Event.AnswerTmf r (with_three m' (slice_set w.queues k (with_slot s l')) f' w)
respond_turns stored w k s l l' m' n f' r sound first at fits wrote h =
    some_turns stored w k s l l' m' n w.function f' r first at fits refl sound.owned.function wrote h
