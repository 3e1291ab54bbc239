-- What stands in a slot and in a hand, as plain values.
use Rattle.std.specs.Prelude.{ℕ, Option, Some, None}
use Rattle.unit_model.specs.Jobs.{PlainJob}
use Rattle.logical_unit.specs.Endings.{ending_of}
use Rattle.logical_unit.specs.declared.outcomes.Outcome as answers
use Rattle.device_model.specs.Parts.{Outcome, Hand}
use Rattle.phases.specs.declared.hand.Hand as declared_hand
use Rattle.phases.specs.declared.hand.Hand.TheVariants as hand

-- a job is to be committed, or to be answered where its commit is over
abbrev pub hand_with : PlainJob → Option answers.Outcome → Hand
hand_with x None = Hand.Taken x
hand_with x (Some o) = Hand.Done x (Outcome.Ended (ending_of o))

abbrev pub hand_of : declared_hand.Hand → Hand
hand_of hand.Empty = Hand.Empty
hand_of (hand.Job h) = hand_with h.job h.outcome
hand_of (hand.Answered unit_index t) = Hand.Answered unit_index t

-- what came of the commit of the hand's job
abbrev pub outcome_in : declared_hand.Hand → Option answers.Outcome
outcome_in hand.Empty = None
outcome_in (hand.Job h) = h.outcome
outcome_in (hand.Answered unit_index t) = None

-- the unit at which the hand's job is to be committed
abbrev pub committing_unit : Hand → Option ℕ
committing_unit Hand.Empty = None
committing_unit (Hand.Taken x) = Some x.unit
committing_unit (Hand.Done x o) = None
committing_unit (Hand.Answered unit_index t) = None

-- the queue whose chain it is to answer
abbrev pub answering_queue : Hand → Option ℕ
answering_queue Hand.Empty = None
answering_queue (Hand.Taken x) = None
answering_queue (Hand.Done x o) = Some x.chain.ticket.queue
answering_queue (Hand.Answered unit_index t) = None

-- the unit that the hand's task is to leave
abbrev pub leaving_unit : Hand → Option ℕ
leaving_unit Hand.Empty = None
leaving_unit (Hand.Taken x) = None
leaving_unit (Hand.Done x o) = None
leaving_unit (Hand.Answered unit_index t) = Some unit_index
