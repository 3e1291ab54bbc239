use Rattle.std.proofs.Common.{arith, ◌≡◌, List, ℕ, ◌++◌, ap, sym, ◌∙◌, append_assoc}
use Rattle.std.proofs.lemmas.Grind.{common_steps}
use Rattle.std.specs.List.{repeat}
use Rattle.script_syntax.proofs.Copies.{repeat_more}
use Rattle.script_syntax.proofs.values.Item.append_copies.Goals as goal

pub loop-preserved : goal.loop-preserved
loop-preserved c =
    let bytes : List ℕ = c.args.self.now.bytes.items in
    let before : List ℕ = c.args.into.now.items in
    let step : c.extend_from_slice.new.self.items ≡ c.loop.into.items ++ bytes = grind (arith, common_steps) in
    step ∙ ap (λ (xs : List ℕ). xs ++ bytes) c.loop.invariant
    ∙ append_assoc before (repeat c.loop.counter bytes) bytes
    ∙ ap (λ (xs : List ℕ). before ++ xs) (sym (repeat_more c.loop.counter bytes))
