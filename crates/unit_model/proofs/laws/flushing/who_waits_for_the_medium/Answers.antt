use Rattle.std.proofs.Common.{◌≡◌, ℕ, ◌==◌, ◌&&◌, ◌||◌, Bool, true, false, Some, is_some, ap, refl}
use Rattle.block_store.specs.Storage.{Ledger}
use Rattle.command_model.specs.Effects.{changes_medium}
use Rattle.command_model.specs.Statuses.{good}
use Rattle.unit_model.specs.Tasks.{Entry}
use Rattle.unit_model.specs.Unit.{PlainUnit, is_backed, needs_medium, tells_no_cache}
use Rattle.unit_model.proofs.laws.flushing.who_waits_for_the_medium.Goals as goal

all_four : (a b c d : Bool) → a ≡ true → b ≡ true → c ≡ true → d ≡ true → (a && (b && (c && d))) ≡ true
all_four a b c d h i j k = rw (h, i, j, k) refl

without_second : (a b x : Bool) → b ≡ false → (a && (b && x)) ≡ false
without_second true b x h = rw h refl
without_second false b x h = refl

without_last : (a b c d : Bool) → d ≡ false → (a && (b && (c && d))) ≡ false
without_last true true true d h = h
without_last true true false d h = refl
without_last true false c d h = refl
without_last false b c d h = refl

by_first : (a b : Bool) → a ≡ true → (a || b) ≡ true
by_first a b h = rw h refl

by_second : (a b : Bool) → b ≡ true → (a || b) ≡ true
by_second true b h = refl
by_second false b h = h

by_neither : (a b : Bool) → a ≡ false → b ≡ false → (a || b) ≡ false
by_neither a b h i = rw (h, i) refl

pub returns-clause-asked : goal.returns-clause-asked
returns-clause-asked c = λ u e l has asks changes.
    all_four (is_backed u) (needs_medium u e) (changes_medium e.command) (good == good) (ap (λ o. is_some o) has)
    (by_second (tells_no_cache u) e.asks_medium asks) changes refl

pub returns-clause-cacheless : goal.returns-clause-cacheless
returns-clause-cacheless c = λ u e l has tells changes.
    all_four (is_backed u) (needs_medium u e) (changes_medium e.command) (good == good) (ap (λ o. is_some o) has)
    (by_first (tells_no_cache u) e.asks_medium tells) changes refl

pub returns-clause-cached : goal.returns-clause-cached
returns-clause-cached c = λ u e status tells asks.
    without_second (is_backed u) (needs_medium u e) (changes_medium e.command && status == good) (by_neither (tells_no_cache u) e.asks_medium tells asks)

pub returns-clause-unwell : goal.returns-clause-unwell
returns-clause-unwell c = λ u e status ends.
    without_last (is_backed u) (needs_medium u e) (changes_medium e.command) (status == good) ends
