use Rattle.std.proofs.Common.{arith}
use Rattle.device_model.specs.Lawful.{KeepsParts}
use Rattle.device_steps.proofs.sound.all_are_sound.Goals as goal

pub returns : goal.returns
returns c =
    λ w r.
    let kept : KeepsParts r.old w = c.parts_stay.ensures.parts r.old r.trace w r.reached in
    record {
      owned = c.what_stands_is_owned.ensures r.old r.trace w r.reached;
      works = c.tasks_are_at_work.ensures r.old r.trace w r.reached;
      behind = c.tickets_rise.ensures r.old r.trace w r.reached;
      named = c.requests_come_to_their_units.ensures r.old r.trace w r.reached;
      addressed = c.units_keep_their_addresses.ensures r.old r.trace w r.reached;
      room = c.lists_have_room.ensures r.old r.trace w r.reached;
      function = c.functions_find_their_units.ensures r.old r.trace w r.reached;
      numbered = c.logs_are_numbered.ensures r.old r.trace w r.reached;
      working = omega (arith, kept.workers, r.reached.opens.working);
      seated = omega (arith, kept.seats, kept.workers, r.reached.opens.seated);
      held = c.held_buffers_are_outstanding.ensures r.old r.trace w r.reached;
    }
