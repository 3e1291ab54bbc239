use Rattle.std.proofs.Common.{refl}
use Rattle.device_model.proofs.waiting_laws.waiting_changes_only_when.Goals as goal

pub returns-clause-aside : goal.returns-clause-aside
returns-clause-aside c =
    λ w k x.
    record {
      memory = refl;
      queues = refl;
      units = refl;
      function = refl;
      buffers = refl;
      missed = refl;
      waiting = refl;
      tells = refl;
    }

pub returns-clause-woken : goal.returns-clause-woken
returns-clause-woken c =
    λ w.
    record {
      memory = refl;
      queues = refl;
      units = refl;
      function = refl;
      buffers = refl;
      missed = refl;
      waiting = refl;
      tells = refl;
    }

pub returns-clause-taken : goal.returns-clause-taken
returns-clause-taken c =
    λ w k x.
    record {
      memory = refl;
      queues = refl;
      units = refl;
      function = refl;
      buffers = refl;
      missed = refl;
      waiting = refl;
      tells = refl;
    }

pub returns-clause-withheld : goal.returns-clause-withheld
returns-clause-withheld c =
    λ w k x r.
    record {
      memory = refl;
      queues = refl;
      units = refl;
      function = refl;
      buffers = refl;
      missed = refl;
      waiting = refl;
      tells = refl;
    }
