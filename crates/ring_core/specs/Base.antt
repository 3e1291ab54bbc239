-- A queue's fields as its plain value.
use Rattle.ring_core.specs.State.{RingState}
use Rattle.ring_core.specs.declared.base.RingBase.TheInside.{Inside}

abbrev pub state_of : Inside → RingState
state_of b =
    record {
      form = b.form;
      queue = b.queue;
      layout = b.layout;
      features = b.features;
      memory = b.memory;
      log = b.log;
      outstanding = b.outstanding;
      accepted_slots = b.accepted_slots;
      used_slots = b.used_slots;
      latest_slots = b.latest_slots;
      broken = b.broken;
    }
