use Rattle.logical_unit.proofs.making_room.+make_ready_in_turns.Given as goal

abbrev pub decreases-make_ready_in_turns : goal.decreases-make_ready_in_turns
decreases-make_ready_in_turns l = l.times
