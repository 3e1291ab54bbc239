use Rattle.device_model.proofs.Places.{moves, balanced, counted}
use Rattle.device_model.proofs.Once.{once}
use Rattle.device_model.specs.Lawful.{AreNumbered}
use Rattle.device_model.specs.Places.{only}
use Rattle.device_model.proofs.Staying.{run_keeps}
use Rattle.device_model.proofs.Numbering.{new_numbered, transition_numbers}
use Rattle.device_model.proofs.laws.each_chain_stands_in_one_place.Goals as goal

pub returns-clause-stands : goal.returns-clause-stands
returns-clause-stands c = λ p old trace w r. balanced p old trace w r.opens r.runs

pub returns-clause-once : goal.returns-clause-once
returns-clause-once c =
    λ t old trace w r.
    let numbered = run_keeps AreNumbered transition_numbers old trace w (new_numbered old r.opens) r.runs in
    once t w (balanced (only t) old trace w r.opens r.runs) (λ i q at. (numbered i q at).accepted)

pub returns-clause-chains : goal.returns-clause-chains
returns-clause-chains c = λ old trace w r. counted w (balanced (λ t. 1) old trace w r.opens r.runs)

pub returns-clause-transition : goal.returns-clause-transition
returns-clause-transition c = λ p w d h. moves p d w h
