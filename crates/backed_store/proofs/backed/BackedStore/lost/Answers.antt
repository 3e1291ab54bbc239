use Rattle.std.proofs.Common.{ℕ, List, nat_eq, sym, ◌∙◌, ap}
use Rattle.std.specs.List.{list_any}
use Rattle.backed_store.proofs.backed.BackedStore.lost.Goals as goal

pub returns-then-not-load_failed-clause-alone : goal.returns-then-not-load_failed-clause-alone
returns-then-not-load_failed-clause-alone c = λ p apart is.
    ap (λ (l : List ℕ). list_any (nat_eq p) l) (sym c.load_failed.ensures.noted) ∙ is

pub returns-clause-owed : goal.returns-clause-owed
returns-clause-owed c = λ p.
    let owed = c.load_failed.ensures.host.owed p in
    record { dirty = owed.dirty; number = owed.number; rewritten = owed.rewritten; again = owed.again }

pub returns-clause-alone : goal.returns-clause-alone
returns-clause-alone c = λ p apart is.
    ap (λ (l : List ℕ). list_any (nat_eq p) l) (sym c.load_failed.ensures.noted) ∙ c.note-noted.ensures.others p apart is
