-- The configuration of a device on live memory that C asks for.
use Rattle.std.specs.Prelude.{ℕ, ◌≡◌, ◌==◌, List, map}
use Rattle.ring_core.specs.declared.layout.Layout.{Layout}
use Rattle.config.specs.declared.config.Config.{Config}
use Rattle.c_calls.specs.Wanted.{spec_of}
use Rattle.c_calls.specs.declared.live_wanted.WantedRing.{WantedRing}
use Rattle.c_calls.specs.declared.wanted.WantedUnit.{WantedUnit}

-- a side that has wrapped has wrap counter 0; in a split queue nothing looks at it
abbrev pub ring_layout : WantedRing → Layout
ring_layout q =
    record {
      size = q.size;
      desc = q.desc;
      driver = q.driver;
      device = q.device;
      first_available = record { index = q.first.available; wrap = q.first.available_wrapped == 0 };
      first_used = record { index = q.first.used; wrap = q.first.used_wrapped == 0 };
    }

-- one worker, with room for 64 jobs
pub record AsksLive (features : ℕ) (rings : List WantedRing) (units : List WantedUnit) (c : Config) : Type 0 where
  pub features_are : c.features ≡ features
  pub queues_are : c.queues.items ≡ map ring_layout rings
  pub workers : c.workers ≡ 1
  pub handoff : c.handoff ≡ 64
  pub units_are : c.units.items ≡ map spec_of units
