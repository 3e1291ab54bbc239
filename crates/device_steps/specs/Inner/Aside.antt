-- Rests on `specs/Aside.antt`; no promise rests on it.
use Rattle.std.specs.Prelude.{◌≡◌, ◌+◌, ◌≤◌, ◌++◌, [], length}
use Rattle.unit_model.specs.Jobs.{Jobs}
use Rattle.device_steps.specs.Aside.{KeptAside}

-- those that wait, as a list with its limit
abbrev pub waiting_of : KeptAside → Jobs
waiting_of k = record { jobs = k.aside; limit = k.limit }

-- none waits any more: each is to be tried again, behind those that are
abbrev pub awakened : KeptAside → KeptAside
awakened k = record { aside = []; woken = k.woken ++ k.aside; limit = k.limit }

-- both lists have one limit, and together no more jobs than that
pub record ShareLimit (aside woken : Jobs) : Type 0 where
  pub limit : woken.limit ≡ aside.limit
  pub room : length aside.jobs + length woken.jobs ≤ aside.limit
