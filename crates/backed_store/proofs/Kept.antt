-- What stays over two changes.
use Rattle.std.proofs.Common.{ℕ, ◌≤◌, ◌∙◌, arith}
use Rattle.backed_store.specs.Stores.{latest_of, IsSame, IsHost, IsOwed, OwesNoMore}
use Rattle.backed_store.specs.Caches as caches
use Rattle.backed_store.specs.declared.cache.Cache.{Cache}
use Rattle.backed_store.specs.declared.backed.BackedStore.{BackedStore}

pub same-then : {a b c : BackedStore} → IsSame a b → IsSame b c → IsSame a c
same-then one two = record { blocks = λ n. two.blocks n ∙ one.blocks n; size = two.size ∙ one.size }

pub owed-then : {a b c : BackedStore} {p : ℕ} → IsOwed a b p → IsOwed b c p → IsOwed a c p
owed-then one two = record {
  dirty = λ is. two.dirty (one.dirty is);
  number = λ is. two.number (one.dirty is) ∙ one.number is;
  rewritten = λ is. two.rewritten (one.rewritten is);
  again = λ is. two.again (one.rewritten is) ∙ one.again is;
}

pub owing-then : {a b c : BackedStore} → OwesNoMore a b → OwesNoMore b c → OwesNoMore a c
owing-then {b = b} one two = record {
  latest = omega (arith, one.latest, two.latest);
  dues = λ n p known bound.
      let first = one.dues n p known bound in
      let reach : n ≤ latest_of b = omega (arith, known, one.latest) in
      let second = two.dues n p reach bound in
      omega (arith, first, second);
}

pub host-then : {a b c : BackedStore} → IsHost a b → IsHost b c → IsHost a c
host-then one two = record {
  storage = two.storage ∙ one.storage;
  ledger = two.ledger ∙ one.ledger;
  owed = λ p. owed-then (one.owed p) (two.owed p);
  writing = λ p. two.writing p ∙ one.writing p;
  owing = owing-then one.owing two.owing;
}

pub caches-owing-then : (a b c : Cache) → caches.OwesNoMore a b → caches.OwesNoMore b c → caches.OwesNoMore a c
caches-owing-then a b c one two = record {
  latest = omega (arith, one.latest, two.latest);
  dues = λ n p known bound.
      let first = one.dues n p known bound in
      let reach : n ≤ b.latest = omega (arith, known, one.latest) in
      let second = two.dues n p reach bound in
      omega (arith, first, second);
}
