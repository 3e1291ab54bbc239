-- A job that is answered, in a memory that others may write too.
use Rattle.std.proofs.Common.{ℕ, ◌≡◌, Bool, true, false, List, [], length, Option, Some, None, refl, ap, sym, ◌∙◌, subst}
use Rattle.std.specs.Prelude.{is_some, IfSome}
use Rattle.ring_core.specs.State.{PlainChain}
use Rattle.ring_core.specs.declared.log.Ticket.{Ticket}
use Rattle.ring_core.specs.Writes.{Write, all_written, scatter_writes}
use Rattle.ring_core.specs.Offer.{used_writes}
use Rattle.request_intake.specs.declared.answer.ChainLengths.{ChainLengths}
use Rattle.unit_model.specs.Endings.{Ending, answer_of}
use Rattle.unit_model.specs.Jobs.{PlainJob}
use Rattle.logical_unit.specs.Endings.{ending_of}
use Rattle.logical_unit.specs.declared.outcomes.Outcome as answers
use Rattle.device_model.specs.Parts.{IsSeen, Outcome, Slot, Hand, lengths_of}
use Rattle.device_model.specs.Transitions.{Transition}
use Rattle.virtqueue.specs.Queue.{BareQueue, MayComplete, completing}
use Rattle.virtqueue.specs.Completing.{SeenBehind}
use Rattle.phases.specs.Queue.{with_slot}
use Rattle.phases.specs.Answering.{Answers}
use Rattle.phases.specs.Direct.{decided_writes}
use Rattle.phases.specs.InMemory.{EachSeen}
use Rattle.phases.specs.Inner.InMemory.{DoesQueueIn, AnswersIn, as_seen}
use Rattle.phases.specs.Inner.Outcomes.{WritesWholeIn, WritesEndingIn}
use Rattle.phases.specs.Parts.{hand_with}
use Rattle.phases.specs.Inner.Parts.{job_held}
use Rattle.phases.proofs.Behind.{is_seen, behind_both, each_read, does_own}
use Rattle.phases.proofs.Directed.{stays_so, lets_go_so}

-- what answers a job, and what its chain's use left
abbrev pub AnswersJob : Bool → PlainJob → Ending → BareQueue → BareQueue → List ℕ → List ℕ → List ℕ → Type 0
AnswersJob shared x e q q' found left seen =
    AnswersIn shared (Hand.Done x (Outcome.Ended e)) q found true q' left seen (Hand.Answered x.unit x.chain.ticket)

-- a job that ended so is answered by its ending, once that is written and the chain is used
pub answers_job : (shared : Bool) (x : PlainJob) (e : Ending) (q q' : BareQueue) (before middle after : List ℕ → Type 0) (len : ℕ)
    (c : PlainChain) → WritesWholeIn x e before len middle → c ≡ x.chain
    → SeenBehind shared middle after (used_writes q.ring c.id len)
    → ((m : List ℕ) → after m → q' ≡ completing m c q) → EachSeen shared before after (AnswersJob shared x e q q')
answers_job shared x e q q' before middle after len c wrote chain used queue =
    λ seen may.
    let bytes = answer_of (lengths_of x.chain) e in
    let first : List Write = scatter_writes x.chain.parts 0 bytes in
    let then : used_writes q.ring c.id len ≡ used_writes q.ring x.chain.id (length bytes) =
    ap (λ (d : PlainChain). used_writes q.ring d.id len) chain ∙ ap (used_writes q.ring x.chain.id) wrote.written in
    let all : SeenBehind shared before after (decided_writes q.ring x.chain (Outcome.Ended e)) =
    behind_both shared before middle after first (used_writes q.ring x.chain.id (length bytes)) wrote.memory
    (subst (λ (ws : List Write). SeenBehind shared middle after ws) then used) in
    let (found, was, behind) = all seen may in
    let left = all_written found (decided_writes q.ring x.chain (Outcome.Ended e)) in
    let is : IsSeen shared left seen = is_seen shared left seen behind in
    let after_it : q' ≡ completing seen x.chain q =
    queue seen may ∙ ap (λ (d : PlainChain). completing seen d q) chain in (
      found,
      was,
      (
        left,
        is,
        (
          λ k inventory s. record { asks = λ missed. (refl, is); queue = ap (with_slot s) after_it; memory = refl },
          refl,
        ),
      ),
    )

-- a job whose commit is over is answered by what came of it
pub answered : (shared : Bool) (x : PlainJob) (outcome : Option answers.Outcome) (q q' : BareQueue)
    (before middle after : List ℕ → Type 0) (len : ℕ) (c : PlainChain) (unit_index : ℕ) (t : Ticket) → is_some outcome ≡ true
    → WritesEndingIn (record { job = x; outcome = outcome }) before len middle
    → IfSome (job_held (hand_with x outcome)) (λ (y : PlainJob). (unit_index ≡ y.unit) × (c ≡ y.chain)) → t ≡ c.ticket
    → SeenBehind shared middle after (used_writes q.ring c.id len) → ((m : List ℕ) → after m → q' ≡ completing m c q)
    → EachSeen shared before after (λ found left seen. AnswersIn shared (hand_with x outcome) q found true q' left seen
    (Hand.Answered unit_index t))
answered shared x None q q' before middle after len c unit_index t over wrote took t_is used queue = absurd (cc)
answered shared x (Some o) q q' before middle after len c unit_index t over wrote took t_is used queue =
    let done : Hand = Hand.Done x (Outcome.Ended (ending_of o)) in
    let hand : Hand.Answered unit_index t ≡ Hand.Answered x.unit x.chain.ticket =
    ap (λ (p : ℕ). Hand.Answered p t) took.0
    ∙ ap (λ (k : Ticket). Hand.Answered x.unit k) (t_is ∙ ap (λ (d : PlainChain). d.ticket) took.1) in
    subst (λ (h : Hand). EachSeen shared before after (λ found left seen. AnswersIn shared done q found true q' left seen h)) (sym hand)
    (answers_job shared x (ending_of o) q q' before middle after len c wrote took.1 used queue)

-- it is let go
pub answered_away : (shared : Bool) (x : PlainJob) (outcome : Option answers.Outcome) (q : BareQueue) (may : List ℕ → Type 0)
    → is_some outcome ≡ true → ((m : List ℕ) → may m → MayComplete q m x.chain → ⊥)
    → EachSeen shared may may (λ found left seen. AnswersIn shared (hand_with x outcome) q found false q left seen Hand.Empty)
answered_away shared x None q may over why = absurd (cc)
answered_away shared x (Some o) q may over why =
    each_read shared may may
    (λ found left seen. AnswersIn shared (Hand.Done x (Outcome.Ended (ending_of o))) q found false q left seen Hand.Empty)
    (λ m stood. stood) (λ m stood. (lets_go_so q m x.chain (why m stood), refl))

-- a job whose commit isn't over stays
pub answered_later : (shared : Bool) (x : PlainJob) (outcome : Option answers.Outcome) (q : BareQueue) (may : List ℕ → Type 0)
    → is_some outcome ≡ false
    → EachSeen shared may may (λ found left seen. AnswersIn shared (hand_with x outcome) q found false q left seen
    (hand_with x outcome))
answered_later shared x None q may later =
    each_read shared may may (λ found left seen. AnswersIn shared (Hand.Taken x) q found false q left seen (Hand.Taken x))
    (λ m stood. stood) (λ m stood. (stays_so q m, refl))
answered_later shared x (Some o) q may later = absurd (cc)

-- no job is in the hand
pub answered_none : (shared : Bool) (q : BareQueue) (may : List ℕ → Type 0)
    → EachSeen shared may may (λ found left seen. AnswersIn shared Hand.Empty q found false q left seen Hand.Empty)
answered_none shared q may =
    each_read shared may may (λ found left seen. AnswersIn shared Hand.Empty q found false q left seen Hand.Empty)
    (λ m stood. stood) (λ m stood. (stays_so q m, refl))

pub answered_before : (shared : Bool) (unit_index : ℕ) (t : Ticket) (q : BareQueue) (may : List ℕ → Type 0)
    → EachSeen shared may may (λ found left seen. AnswersIn shared (Hand.Answered unit_index t) q found false q left seen
    (Hand.Answered unit_index t))
answered_before shared unit_index t q may =
    each_read shared may may
    (λ found left seen. AnswersIn shared (Hand.Answered unit_index t) q found false q left seen (Hand.Answered unit_index t))
    (λ m stood. stood) (λ m stood. (stays_so q m, refl))

-- in a memory that nobody else writes
pub answers_own : (h h' : Hand) (q q' : BareQueue) (m m' n : List ℕ) (r : Bool) → AnswersIn false h q m r q' m' n h'
    → Answers h q m r q' m' h'
answers_own (Hand.Done x o) h' q q' m m' n true (does, hand) = (
  (λ k inventory s.
      let xs : List Write = decided_writes q.ring x.chain o in
      let seen : n ≡ all_written m xs = ((does k (record { addresses = []; profiles = [] }) Slot.Empty).asks false).1 in
      let d : List ℕ → Transition = λ z. Transition.Answer k x o (as_seen z xs) in
      does_own inventory (d (all_written m xs)) (with_slot s q) (with_slot s q') m m'
      (subst (λ z. DoesQueueIn false inventory (d z) (with_slot s q) m (with_slot s q') m') seen (does k inventory s))),
  hand,
)
answers_own (Hand.Done x o) h' q q' m m' n false (gone, hand) = (
  record { why = gone.why; stays = record { queue = gone.stays.queue; memory = gone.stays.memory } },
  hand,
)
answers_own Hand.Empty h' q q' m m' n true impossible = impossible
answers_own (Hand.Taken x) h' q q' m m' n true impossible = impossible
answers_own (Hand.Answered unit_index t) h' q q' m m' n true impossible = impossible
answers_own Hand.Empty h' q q' m m' n false (stays, hand) = (record { queue = stays.queue; memory = stays.memory }, hand)
answers_own (Hand.Taken x) h' q q' m m' n false (stays, hand) = (record { queue = stays.queue; memory = stays.memory }, hand)
answers_own (Hand.Answered unit_index t) h' q q' m m' n false (stays, hand) = (
  record { queue = stays.queue; memory = stays.memory },
  hand,
)

-- these many readable and writable bytes
abbrev pub the_lengths : ℕ → ℕ → ChainLengths
the_lengths a b = record { readable = a; writable = b }

-- the lengths of a chain, from both
pub both_lengths : (n : ChainLengths) (a b : ℕ) → n.readable ≡ a → n.writable ≡ b → n ≡ the_lengths a b
both_lengths n a b readable writable =
    ap (λ (x : ℕ). the_lengths x n.writable) readable ∙ ap (λ (y : ℕ). the_lengths a y) writable
