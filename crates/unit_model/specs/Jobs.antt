-- Jobs as plain values.
use Rattle.std.specs.Prelude.{ℕ, Bool, not, is_some, List, filter}
use Rattle.scsi_codec.specs.declared.lun.Address.{Address}
use Rattle.ring_core.specs.State.{PlainChain}
use Rattle.unit_model.specs.Tasks.{Entry, task_of}

-- own: the index of its unit in the inventory, the address that its request names, its chain, and the task as it entered
pub record PlainJob : Type 0 where
  pub unit : ℕ
  pub address : Address
  pub chain : PlainChain
  pub entry : Entry

-- own: jobs in order, and how many there may be
pub record Jobs : Type 0 where
  pub jobs : List PlainJob
  pub limit : ℕ

-- own: the job is that of one of these tasks
abbrev pub is_job_of : List Entry → PlainJob → Bool
is_job_of tasks j = is_some (task_of j.entry.ticket tasks)

-- own: the jobs of these tasks, and those of others, in their order
abbrev pub of_tasks : List Entry → List PlainJob → List PlainJob
of_tasks tasks jobs = filter (is_job_of tasks) jobs

abbrev pub but_tasks : List Entry → List PlainJob → List PlainJob
but_tasks tasks jobs = filter (λ j. not (is_job_of tasks j)) jobs
