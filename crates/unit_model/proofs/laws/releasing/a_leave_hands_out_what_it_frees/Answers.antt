use Rattle.unit_model.proofs.Releasing.{released_by_leave, leaving_unreleased}
use Rattle.unit_model.proofs.laws.releasing.a_leave_hands_out_what_it_frees.Goals as goal

pub returns-clause-staying : goal.returns-clause-staying
returns-clause-staying c = released_by_leave

pub returns-clause-leaving : goal.returns-clause-leaving
returns-clause-leaving c = leaving_unreleased
