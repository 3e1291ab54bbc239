use Rattle.std.proofs.Common.{refl}
use Rattle.c_calls.proofs.wanted.config_of.Goals as goal

pub returns : goal.returns
returns c = record {
  pages_are = refl;
  features_are = refl;
  queues_are = c.in_ok-layouts.ensures;
  workers = refl;
  handoff = refl;
  units_are = c.in_ok-specs.ensures;
}
