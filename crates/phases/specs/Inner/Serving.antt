-- What a request hands out that comes to its unit and isn't answered.
use Rattle.std.specs.Prelude.{◌≡◌, ◌⊎◌, true, List, [], ◌∷◌}
use Rattle.unit_model.specs.Jobs.{PlainJob}
use Rattle.unit_model.specs.Unit.{PlainUnit, may_wait}

-- what a request that isn't answered hands out: nothing; or its job, whose command may have to wait at its unit
abbrev pub HandsOn : PlainJob → PlainUnit → List PlainJob → Type 0
HandsOn x u more = (more ≡ []) ⊎ ((more ≡ x ∷ []) × (may_wait u x.entry ≡ true))
