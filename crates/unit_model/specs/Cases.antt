-- Small histories, which show what the definitions say.
use Rattle.std.specs.Prelude.{ℕ, ◌+◌, true, false, List, [], ◌∷◌}
use Rattle.cdb.specs.declared.commands.Command.TheVariants.{TestUnitReady, Read, Write}
use Rattle.cdb.specs.declared.profile.Profile.TheVariants.{Narrow}
use Rattle.request_intake.specs.declared.attribute.TaskAttribute.{TaskAttribute}
use Rattle.request_intake.specs.declared.attribute.TaskAttribute.TheVariants.{Simple, Ordered, HeadOfQueue}
use Rattle.command_model.specs.Identity.{plain_identity}
use Rattle.command_model.specs.PlainReply.{PlainReply, success}
use Rattle.ring_core.specs.declared.log.Ticket.{Ticket}
use Rattle.unit_model.specs.Tasks.{Entry}
use Rattle.unit_model.specs.Steps.{Step}
use Rattle.unit_model.specs.Contents.{Opening}

-- a calm unit of 1,000 blocks in memory at address 0:0, of the narrow profile
abbrev pub calm_unit : Opening
calm_unit =
    record {
      target = 0;
      lun = 0;
      luns = 0 ∷ [];
      blocks = 1000;
      calm = true;
      content = [];
      profile = Narrow;
      identity = plain_identity;
      backed = false;
    }

-- the chain of this number of queue 2
abbrev pub nth : ℕ → Ticket
nth n = record { queue = 2; number = n }

-- a TEST UNIT READY in that chain, with one more as its identifier
abbrev pub test_unit_ready : ℕ → TaskAttribute → Entry
test_unit_ready n attribute =
    record { ticket = nth n; id = n + 1; attribute = attribute; command = TestUnitReady; asks_medium = false; data_out = [] }

-- it ends with GOOD and moves nothing
abbrev pub good_reply : PlainReply
good_reply = success TestUnitReady []

-- A is SIMPLE, B of this attribute, C SIMPLE, and they enter in this order
abbrev pub three_enter : TaskAttribute → List Step
three_enter b =
    Step.Enter (test_unit_ready 2 Simple) ∷ Step.Enter (test_unit_ready 1 b)
    ∷ Step.Enter (test_unit_ready 0 Simple) ∷ []

-- the command of that chain runs; it leaves
abbrev pub runs : ℕ → Step
runs n = Step.Commit (nth n) good_reply

abbrev pub leaves : ℕ → Step
leaves n = Step.Leave (nth n)

-- B is ORDERED: A runs and leaves, then B, then C
abbrev pub ordered_between : List Step
ordered_between = leaves 2 ∷ runs 2 ∷ leaves 1 ∷ runs 1 ∷ leaves 0 ∷ runs 0 ∷ three_enter Ordered

-- B is HEAD OF QUEUE: A and B run in either order and leave, then C runs
abbrev pub after_both : List Step → List Step
after_both both = leaves 2 ∷ runs 2 ∷ leaves 1 ∷ leaves 0 ∷ both

abbrev pub simple_first : List Step
simple_first = runs 1 ∷ runs 0 ∷ three_enter HeadOfQueue

abbrev pub head_first : List Step
head_first = runs 0 ∷ runs 1 ∷ three_enter HeadOfQueue

-- A is a WRITE of block 3 with these data, SIMPLE, with identifier 7
abbrev pub write_of_3 : ℕ → List ℕ → Entry
write_of_3 n bytes = record { ticket = nth n; id = 7; attribute = Simple; command = Write 3 1; asks_medium = false; data_out = bytes }

-- a READ of block 3
abbrev pub read_of_3 : ℕ → Entry
read_of_3 n = record { ticket = nth n; id = n + 1; attribute = Simple; command = Read 3 1; asks_medium = false; data_out = [] }

-- A is parked behind P, which is ORDERED and has another identifier
abbrev pub parked_write : List ℕ → List Step
parked_write bytes = Step.Enter (write_of_3 1 bytes) ∷ Step.Enter (test_unit_ready 0 Ordered) ∷ []

-- A entered alone
abbrev pub taken_write : List ℕ → List Step
taken_write bytes = Step.Enter (write_of_3 1 bytes) ∷ []

-- and it ran
abbrev pub committed_write : List ℕ → List Step
committed_write bytes = Step.Commit (nth 1) (success (Write 3 1) []) ∷ taken_write bytes
