use Rattle.std.proofs.Common.{◌≡◌, ◌≤◌, ◌++◌, length}
use Rattle.device_steps.proofs.aside.JobsAside.wake.Given as goal

abbrev pub invariant-loop-job : goal.invariant-loop-job
invariant-loop-job l =
    record {
      all : l.self-inside.woken.jobs ++ l.self-inside.aside.jobs ≡ l.fn.self.woken ++ l.fn.self.aside;
      few : length (l.fn.self.woken ++ l.fn.self.aside) ≤ l.fn.self.limit;
      own : l.self-inside.aside.limit ≡ l.fn.self.limit;
      same : l.self-inside.woken.limit ≡ l.fn.self.limit;
    }

abbrev pub decreases-loop-job : goal.decreases-loop-job
decreases-loop-job l = length l.self-inside.aside.jobs
