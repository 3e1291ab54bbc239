use Rattle.std.proofs.Common.{◌≡◌}
use Rattle.backed_store.specs.Passing.{IsPassed}
use Rattle.backed_store.proofs.cache.Cache.evict.Given as goal

-- the pages are as before
abbrev pub invariant-loop : goal.invariant-loop
invariant-loop l = record {
  passed : IsPassed l.fn.self l.self;
  budget : l.self.budget ≡ l.fn.self.budget;
}
