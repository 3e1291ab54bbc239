use Rattle.std.proofs.Common.{refl, sym, ap, ◌∙◌}
use Rattle.std.specs.Prelude.{Some}
use Rattle.c_calls.proofs.Serve.{made, refused}
use Rattle.c_calls.proofs.calls.create.Goals as goal

pub returns-in-Some-fault : goal.returns-in-Some-fault
returns-in-Some-fault c = refused _ _ _ _ _ _ _ _ c.in-Ok.config c.in_default.ensures.taken c.in-Ok.ensures
    (record { refused = sym c.in-Some-fault.ensures.none; fault = c.in-Some-fault.cause; is = c.in-Some-fault.ensures.cause; named = c.fault_of.ensures })
    c.in_default.ensures.after

pub returns : goal.returns
returns c = made _ _ _ _ _ _ _ _ c.in-Ok.config c.in_default.ensures.taken c.in-Ok.ensures
    (record { world = c.in-Ok-new.world; told = c.new-told.result })
    (record {
      taken = c.in-Ok-new.ensures.opening.0;
      opening = c.in-Ok-new.ensures.opening.1;
      opens = c.in-Ok-new.ensures.opens;
      reaches = c.in-Ok-new.ensures.reaches;
      told = c.new-told.ensures;
    })
    (c.put-2.ensures ∙ ap (λ d. Some d) c.in-Ok-new-2.ensures.ok)
    refl
