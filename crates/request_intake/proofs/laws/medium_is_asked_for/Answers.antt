use Rattle.std.proofs.Common.{refl, subst, sym}
use Rattle.cdb.specs.Medium.{asks_medium}
use Rattle.request_intake.specs.Decision.{decide_reading}
use Rattle.request_intake.proofs.Medium.{Asks, address_asks}
use Rattle.request_intake.proofs.laws.medium_is_asked_for.Goals as goal

pub returns : goal.returns
returns c = λ units bytes n unit_index asked r read is.
    subst (Asks (asks_medium asked.cdb)) is
    (subst (λ o. Asks (asks_medium asked.cdb) (decide_reading o units n bytes)) (sym read)
    (address_asks units n bytes asked))
