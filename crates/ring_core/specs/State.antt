-- A virtqueue as a plain value: where it lies, its log, and which of its chains are outstanding.
use Rattle.std.specs.Prelude.{ℕ, ◌+◌, ◌≡◌, ◌<◌, List, [], ◌∷◌, ◌++◌, length, Option, Some, None, true, false, get_or, slice_set, slice_get, zero, suc, replicate, bit_and, ◌==◌, ◌^◌}
use Rattle.ring_core.specs.declared.log.Ticket.{Ticket}
use Rattle.ring_core.specs.declared.layout.Layout.{Layout}
use Rattle.ring_core.specs.declared.layout.RingIndex.{RingIndex}
use Rattle.ring_core.specs.declared.layout.Form.{Form}
use Rattle.ring_core.specs.declared.layout.Features.{Features}
use Rattle.ring_core.specs.declared.outstanding.OutstandingChain.{OutstandingChain}
use Rattle.ring_core.specs.declared.descriptor.Part.{Part}
use Rattle.ring_core.specs.declared.fault.RingFault.{RingFault}

-- the tickets of the chains that were accepted, and of those that were used, in order
pub record Log : Type 0 where
  pub accepted : List Ticket
  pub used : List Ticket

pub record RingState : Type 0 where
  pub form : Form
  pub queue : ℕ
  pub layout : Layout
  pub features : Features
  -- the size of the memory that it was made with
  pub memory : ℕ
  pub log : Log
  -- under each head (split) or id (packed) the outstanding chain that has it, if any
  pub outstanding : List (Option OutstandingChain)
  -- the slots of all accepted chains, of all used ones, and of the latest used one
  pub accepted_slots : ℕ
  pub used_slots : ℕ
  pub latest_slots : ℕ
  -- the fault that broke it
  pub broken : Option RingFault

-- where a device begins in a ring that none served before: at index 0, with wrap counter 1 (2.7.6, 2.7.8, 2.8.1)
abbrev pub first_index : RingIndex
first_index = record { index = 0; wrap = true }

abbrev pub fresh_layout : ℕ → ℕ → ℕ → ℕ → Layout
fresh_layout size desc driver device =
    record {
      size = size;
      desc = desc;
      driver = driver;
      device = device;
      first_available = first_index;
      first_used = first_index;
    }

-- neither indirect descriptors nor event indices were agreed
abbrev pub no_features : Features
no_features = record { indirect_descriptors = false; event_index = false }

-- the features of virtqueues among those that were agreed (VIRTIO 1.2, 6): VIRTIO_F_INDIRECT_DESC is bit 28,
-- VIRTIO_F_EVENT_IDX bit 29
abbrev pub features_of : ℕ → Features
features_of agreed =
    record {
      indirect_descriptors = bit_and agreed (2 ^ 28) == 2 ^ 28;
      event_index = bit_and agreed (2 ^ 29) == 2 ^ 29;
    }

-- a chain as a plain value: its ticket, its head or id, its slots, its parts, and the size of its memory
pub record PlainChain : Type 0 where
  pub ticket : Ticket
  pub id : ℕ
  pub slots : ℕ
  pub parts : List Part
  pub memory : ℕ

-- a queue of which nothing was fetched yet, with so many heads or ids
unfoldable pub opening : Form → ℕ → Layout → Features → ℕ → ℕ → RingState
opening form queue layout features memory ids =
    record {
      form = form;
      queue = queue;
      layout = layout;
      features = features;
      memory = memory;
      log = record { accepted = []; used = [] };
      outstanding = replicate ids None;
      accepted_slots = 0;
      used_slots = 0;
      latest_slots = 0;
      broken = None;
    }

-- the ticket that the next accepted chain gets
abbrev pub next_ticket : RingState → Ticket
next_ticket s = record { queue = s.queue; number = length s.log.accepted }

-- the outstanding chain under a head or id
abbrev pub under : RingState → ℕ → Option OutstandingChain
under s id = get_or s.outstanding id None

-- the chain is outstanding in the queue, and its memory had the queue's size
pub record Owns (s : RingState) (c : PlainChain) : Type 0 where
  pub outstanding : under s c.id ≡ Some (record { number = c.ticket.number; slots = c.slots })
  pub queue : c.ticket.queue ≡ s.queue
  pub memory : c.memory ≡ s.memory

-- the queue once a chain with this id and so many slots was accepted
abbrev pub accepting : RingState → ℕ → ℕ → RingState
accepting s id slots =
    record s {
      log = record s.log { accepted = s.log.accepted ++ next_ticket s ∷ [] };
      outstanding = slice_set s.outstanding id (Some (record { number = length s.log.accepted; slots = slots }));
      accepted_slots = s.accepted_slots + slots;
    }

-- the queue once an outstanding chain was used
abbrev pub using : RingState → PlainChain → RingState
using s c =
    record s {
      log = record s.log { used = s.log.used ++ c.ticket ∷ [] };
      outstanding = slice_set s.outstanding c.id None;
      used_slots = s.used_slots + c.slots;
      latest_slots = c.slots;
    }

-- the queue once a fault broke it for good
abbrev pub breaking : RingState → RingFault → RingState
breaking s fault = record s { broken = Some fault }

-- the first n tickets of a queue
unfoldable pub tickets : ℕ → ℕ → List Ticket
tickets queue zero = []
tickets queue (suc n) = tickets queue n ++ record { queue = queue; number = n } ∷ []

-- a log in which each chain is used at most once, and only after it was accepted
pub record IsLawful (queue : ℕ) (log : Log) : Type 0 where
  -- the accepted numbers are 0, 1, 2 and so on
  pub numbered : log.accepted ≡ tickets queue (length log.accepted)
  pub used_accepted : (k : ℕ) (t : Ticket) → slice_get log.used k ≡ Some t → (t.queue ≡ queue)
      × (t.number < length log.accepted)
  pub used_once : (j k : ℕ) (t : Ticket) → slice_get log.used j ≡ Some t → slice_get log.used k ≡ Some t → j ≡ k
