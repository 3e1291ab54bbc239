use Rattle.std.specs.Prelude.{ℕ, ◌≡◌, ◌+◌, ◌*◌, ◌≤◌, false, [], length, slice_get, Some, vec_len}
use Rattle.std.specs.Vec.{vec_capacity}
use Rattle.unit_model.specs.Unit.{PlainUnit, is_backed}
use Rattle.lock_scopes.specs.Ledgers.{most_commits}
use Rattle.workers.proofs.opening.lock_units.Given as goal

abbrev pub invariant-loop-unit : goal.invariant-loop-unit
invariant-loop-unit g l = record {
  fresh : (k : ℕ) (u : PlainUnit) → slice_get l.unit-iterator.rest.items k ≡ Some u → (u.steps ≡ []) × (is_backed u ≡ false);
  count : vec_len l.locked + l.unit-iterator.rest.len ≡ length l.fn.units.items;
  room : length l.fn.units.items ≤ vec_capacity l.locked;
  acts : l.ledgers.acts.parts + vec_len l.locked ≡ l.fn.ledgers.acts.parts;
  no_act : l.ledgers.acts.amount ≡ 0;
  receipts : l.ledgers.receipts.parts + vec_len l.locked ≡ l.fn.ledgers.receipts.parts;
  no_receipt : l.ledgers.receipts.amount ≡ 0;
  book : l.ledgers.book.total ≡ vec_len l.locked * most_commits;
}
