use Rattle.std.proofs.Common.{◌≡◌, true, false, sym, ◌∙◌, arith}
use Rattle.backed_store.proofs.Fenced.{never-passes, dirty-stands, owing-stands, contents-kept}
use Rattle.backed_store.proofs.backed.BackedStore.find_unkept_change.Goals as goal

pub returns-in_default-clause-none : goal.returns-in_default-clause-none
returns-in_default-clause-none c = λ p below. never-passes _ (λ is.
    let s = c.args.self.now.cache in
    let no : false ≡ true = sym (c.in_default.ensures.none _ p) ∙ dirty-stands _ _ _ _ _ s.indexed p is in
    cc)

pub returns-in_default-clause-kept : goal.returns-in_default-clause-kept
returns-in_default-clause-kept c = λ b below. contents-kept c.args.self.now b (returns-in_default-clause-none c _ below)

pub returns-then-oldest-number-clause-none : goal.returns-then-oldest-number-clause-none
returns-then-oldest-number-clause-none c = λ p below. never-passes _ (λ is.
    let s = c.args.self.now.cache in
    let least = c.in-Some.ensures.least _ p (dirty-stands _ _ _ _ _ s.indexed p is) in
    omega (arith, least, below, c.if-oldest-number.true))

pub returns-then-oldest-number-clause-kept : goal.returns-then-oldest-number-clause-kept
returns-then-oldest-number-clause-kept c = λ b below. contents-kept c.args.self.now b (returns-then-oldest-number-clause-none c _ below)

pub returns-in_default-clause-flushed : goal.returns-in_default-clause-flushed
returns-in_default-clause-flushed c = λ p. never-passes _ (λ is.
    let s = c.args.self.now.cache in
    let stands = owing-stands _ _ _ _ _ s.indexed _ p is in
    let no : false ≡ true = sym (c.in_default.ensures.none _ p) ∙ stands.0 in
    cc)

pub returns-then-oldest-number-clause-flushed : goal.returns-then-oldest-number-clause-flushed
returns-then-oldest-number-clause-flushed c = λ p. never-passes _ (λ is.
    let s = c.args.self.now.cache in
    let stands = owing-stands _ _ _ _ _ s.indexed _ p is in
    let least = c.in-Some.ensures.least _ p stands.0 in
    let old = stands.1 in
    omega (arith, least, old, c.if-oldest-number.true))
