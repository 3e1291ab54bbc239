-- The tallies before anything is read.
use Rattle.std.specs.Prelude.{ℕ, nat_lt, List, length, Vec, if◌then◌else◌}
use Rattle.std.specs.declared.alloc.Global.{Global}
use Rattle.virtqueue.specs.Queue.{BareQueue}
use Rattle.close_audit.specs.Inner.Tallies.{fresh, AreTallies}
use Rattle.close_audit.specs.declared.tally.Tally.{Tally}

-- how many requests the queue at an index accepted
abbrev pub asked_count : ℕ → BareQueue → ℕ
asked_count queue_index q = if nat_lt queue_index 2 then 0 else length q.ring.log.accepted

abbrev pub Opens : List BareQueue → List (Vec Tally Global) → Type 0
Opens queues tables = AreTallies queues (λ t. fresh) tables
