-- The small histories are lawful.
use Rattle.std.proofs.Common.{◌≡◌, ℕ, true, false, List, [], ◌∷◌, ◌++◌, length, take, Some, refl, ◌∙◌, ap, arith, inl}
use Rattle.std.proofs.lemmas.List.{append-nil, take_all}
use Rattle.cdb.specs.declared.commands.Command.TheVariants.{Read}
use Rattle.command_model.specs.PlainReply.{success}
use Rattle.ring_core.specs.declared.log.Ticket.{Ticket}
use Rattle.unit_model.specs.declared.rule.Rule.TheVariants.{Id}
use Rattle.unit_model.specs.Tasks.{Entry, task_of}
use Rattle.unit_model.specs.Steps.{Step, alive, done}
use Rattle.unit_model.specs.Marks.{marked}
use Rattle.unit_model.specs.Enabling.{enabled}
use Rattle.request_intake.specs.declared.attribute.TaskAttribute.{TaskAttribute}
use Rattle.request_intake.specs.declared.attribute.TaskAttribute.TheVariants.{Simple, Ordered, HeadOfQueue}
use Rattle.unit_model.specs.Lawful.{IsReady, IsLawful}
use Rattle.unit_model.specs.Cases.{calm_unit, test_unit_ready, three_enter, runs, leaves, ordered_between, after_both, simple_first, head_first, write_of_3, parked_write, committed_write}

enters : (b : TaskAttribute) → IsLawful calm_unit (three_enter b)
enters b = (((tt, (omega arith, omega arith)), (omega arith, omega arith)), (omega arith, omega arith))

pub ordered_is_lawful : IsLawful calm_unit ordered_between
ordered_is_lawful = (
  (
    (
      (
        (
          (
            enters Ordered,
            (test_unit_ready 0 Simple, record { is_there = refl; is_enabled = refl; is_unmarked = refl; is_undone = refl }, inl refl),
          ),
          (test_unit_ready 0 Simple, refl, refl),
        ),
        (test_unit_ready 1 Ordered, record { is_there = refl; is_enabled = refl; is_unmarked = refl; is_undone = refl }, inl refl),
      ),
      (test_unit_ready 1 Ordered, refl, refl),
    ),
    (test_unit_ready 2 Simple, record { is_there = refl; is_enabled = refl; is_unmarked = refl; is_undone = refl }, inl refl),
  ),
  (test_unit_ready 2 Simple, refl, refl),
)

pub simple_first_is_lawful : IsLawful calm_unit (after_both simple_first)
simple_first_is_lawful = (
  (
    (
      (
        (
          (
            enters HeadOfQueue,
            (test_unit_ready 0 Simple, record { is_there = refl; is_enabled = refl; is_unmarked = refl; is_undone = refl }, inl refl),
          ),
          (test_unit_ready 1 HeadOfQueue, record { is_there = refl; is_enabled = refl; is_unmarked = refl; is_undone = refl }, inl refl),
        ),
        (test_unit_ready 0 Simple, refl, refl),
      ),
      (test_unit_ready 1 HeadOfQueue, refl, refl),
    ),
    (test_unit_ready 2 Simple, record { is_there = refl; is_enabled = refl; is_unmarked = refl; is_undone = refl }, inl refl),
  ),
  (test_unit_ready 2 Simple, refl, refl),
)

pub head_first_is_lawful : IsLawful calm_unit (after_both head_first)
head_first_is_lawful = (
  (
    (
      (
        (
          (
            enters HeadOfQueue,
            (test_unit_ready 1 HeadOfQueue, record { is_there = refl; is_enabled = refl; is_unmarked = refl; is_undone = refl }, inl refl),
          ),
          (test_unit_ready 0 Simple, record { is_there = refl; is_enabled = refl; is_unmarked = refl; is_undone = refl }, inl refl),
        ),
        (test_unit_ready 0 Simple, refl, refl),
      ),
      (test_unit_ready 1 HeadOfQueue, refl, refl),
    ),
    (test_unit_ready 2 Simple, record { is_there = refl; is_enabled = refl; is_unmarked = refl; is_undone = refl }, inl refl),
  ),
  (test_unit_ready 2 Simple, refl, refl),
)

ready : {t : Ticket} {e : Entry} {past : List Step} → task_of t (alive past) ≡ Some e → enabled e past ≡ true → marked t past ≡ false → done t past ≡ false → IsReady t e past
ready a b c d = record { is_there = a; is_enabled = b; is_unmarked = c; is_undone = d }

pub parked_is_lawful : (bytes : List ℕ) → IsLawful calm_unit (leaves 0 ∷ runs 0 ∷ leaves 1 ∷ Step.Abort (Id 7) ∷ parked_write bytes)
parked_is_lawful bytes = (
  (((((tt, (omega arith, omega arith)), (omega arith, omega arith)), tt), (write_of_3 1 bytes, refl, refl)), (test_unit_ready 0 Ordered, ready refl refl refl refl, inl refl)),
  (test_unit_ready 0 Ordered, refl, refl),
)

pub committed_is_lawful : (bytes : List ℕ) → IsLawful calm_unit (leaves 1 ∷ Step.Abort (Id 7) ∷ committed_write bytes)
committed_is_lawful bytes = ((((tt, (omega arith, omega arith)), (write_of_3 1 bytes, ready refl refl refl refl, inl refl)), tt), (write_of_3 1 bytes, refl, refl))

-- the bytes of a whole block, as a READ gives them
pub read_whole : (bytes : List ℕ) → length bytes ≡ 512 → success (Read 3 1) (take 512 bytes ++ []) ≡ success (Read 3 1) bytes
read_whole bytes whole = ap (λ w. success (Read 3 1) w) (append-nil (take 512 bytes) ∙ take_all 512 bytes (omega (arith, whole)))
