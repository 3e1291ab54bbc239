use Rattle.std.proofs.Common.{refl, sym, ap, ◌∙◌}
use Rattle.std.specs.Prelude.{Some}
use Rattle.c_calls.proofs.Handed.{absent}
use Rattle.c_calls.proofs.LiveHanded.{created}
use Rattle.c_calls.proofs.live_calls.create.Goals as goal

pub open-requires : goal.open-requires
open-requires c = sym c.in_default-fault_for.ensures.none

pub returns-in-Some : goal.returns-in-Some
returns-in-Some c =
    let none = absent _ (sym c.is_there.ensures ∙ c.if-is_there.false) in
    created _ _ _ _ _ _ _ _ _ none (
      c.in-Ok.config,
      c.in-Ok.ensures,
      record { refused = sym c.in-Some.ensures.none; fault = c.in-Some.cause; is = c.in-Some.ensures.cause; named = c.fault_of.ensures },
      none,
    )

pub returns : goal.returns
returns c =
    let none = absent _ (sym c.is_there.ensures ∙ c.if-is_there.false) in
    created _ _ _ _ _ _ _ _ _ none (
      c.in-Ok.config,
      c.in-Ok-open.served.value,
      c.in-Ok.ensures,
      c.in-Ok-open.ensures,
      c.put.ensures,
      refl,
    )
