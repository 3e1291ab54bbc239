use Rattle.task_mgmt.proofs.Rising.{places_all, places_rising}
use Rattle.task_mgmt.proofs.laws.places_are_those_of_the_target.Goals as goal

pub returns-clause-all : goal.returns-clause-all
returns-clause-all c = places_all

pub returns-clause-rising : goal.returns-clause-rising
returns-clause-rising c = places_rising
