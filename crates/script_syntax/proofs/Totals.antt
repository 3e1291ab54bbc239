-- One more item behind the others.
use Rattle.std.proofs.Common.{◌≡◌, ℕ, ◌+◌, ◌*◌, List, [], ◌∷◌, ◌++◌, length, ap, ◌∙◌, sym, add_assoc, arith}
use Rattle.script_syntax.specs.Inner.Values.{total_of}
use Rattle.script_syntax.specs.declared.values.Item.{Item}

pub total_of_more : (items : List Item) (item : Item) → total_of (items ++ item ∷ []) ≡ total_of items + length item.bytes.items * item.repeat
total_of_more [] item = omega arith
total_of_more (first ∷ items) item =
    ap (λ (n : ℕ). length first.bytes.items * first.repeat + n) (total_of_more items item)
    ∙ sym (add_assoc (length first.bytes.items * first.repeat) (total_of items) (length item.bytes.items * item.repeat))
