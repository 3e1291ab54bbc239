-- The configuration that C asks for.
use Rattle.std.specs.Prelude.{ℕ, ◌≡◌, ◌==◌, not, List, map, Some, None, if◌then◌else◌}
use Rattle.sense.specs.declared.SenseFormat.{SenseFormat}
use Rattle.sense.specs.declared.SenseFormat.TheVariants.{Fixed, Descriptor}
use Rattle.cdb.specs.declared.profile.Profile.{Profile}
use Rattle.cdb.specs.declared.profile.Profile.TheVariants.{Narrow, Wide}
use Rattle.command_model.specs.declared.identity.Identity.{Identity}
use Rattle.ring_core.specs.declared.layout.Layout.{Layout}
use Rattle.ring_core.specs.State.{fresh_layout}
use Rattle.request_intake.specs.declared.inventory.UnitSpec.{UnitSpec}
use Rattle.config.specs.declared.config.Config.{Config}
use Rattle.c_calls.specs.declared.wanted.WantedQueue.{WantedQueue}
use Rattle.c_calls.specs.declared.wanted.WantedUnit.{WantedUnit}

abbrev pub layout_of : WantedQueue → Layout
layout_of q = fresh_layout q.size q.desc q.driver q.device

abbrev pub profile_of : ℕ → Profile
profile_of number = if number == 0 then Narrow else Wide

abbrev pub sense_format_of : ℕ → SenseFormat
sense_format_of number = if number == 0 then Fixed else Descriptor

abbrev pub identity_of : WantedUnit → Identity
identity_of u =
    record {
      vendor = u.vendor;
      product = u.product;
      revision = u.revision;
      serial = u.serial;
      serial_len = u.serial_len;
      naa = if u.has_naa == 0 then None else Some u.naa;
      physical_exponent = u.physical_exponent;
      rotation_rate = u.rotation_rate;
      sense_format = sense_format_of u.sense_format;
      write_cache = not (u.write_cache == 0);
      read_only = not (u.read_only == 0);
    }

abbrev pub spec_of : WantedUnit → UnitSpec
spec_of u =
    record {
      target = u.target;
      lun = u.lun;
      blocks = u.blocks;
      calm = not (u.calm == 0);
      profile = profile_of u.profile;
      identity = identity_of u;
    }

-- one worker, with room for 64 jobs
pub record Asks (pages features : ℕ) (queues : List WantedQueue) (units : List WantedUnit) (c : Config) : Type 0 where
  pub pages_are : c.pages ≡ pages
  pub features_are : c.features ≡ features
  pub queues_are : c.queues.items ≡ map layout_of queues
  pub workers : c.workers ≡ 1
  pub handoff : c.handoff ≡ 64
  pub units_are : c.units.items ≡ map spec_of units
