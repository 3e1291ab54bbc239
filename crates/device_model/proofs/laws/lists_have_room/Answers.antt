use Rattle.device_model.proofs.Working.{run_works}
use Rattle.device_model.proofs.Rooms.{seats_room, waiting_room, run_room, run_lists}
use Rattle.device_model.proofs.laws.lists_have_room.Goals as goal

pub returns : goal.returns
returns c =
    λ old trace w r.
    record {
      seats = seats_room w (run_works old trace w r.opens r.runs);
      lists = run_lists old trace w r.opens r.runs;
      handed_off = run_room old trace w r.opens r.runs;
      waiting = waiting_room w (run_works old trace w r.opens r.runs);
    }
