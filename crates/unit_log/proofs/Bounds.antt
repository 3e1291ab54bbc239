-- Which steps are folded: one more is.
use Rattle.std.proofs.Common.{◌≡◌, ℕ, ◌<◌, ◌≤◌, Bool, true, false, List, [], ◌∷◌, ◌++◌, length, take, get_or, slice_get, Some, sym, ◌∙◌, ap, arith, length-append}
use Rattle.std.proofs.lemmas.List.{length-take, take_more, take-append-le}
use Rattle.std.proofs.lemmas.Option.{slice_get_within, get_or_from_slice_get}
use Rattle.unit_log.specs.declared.kind.StepKind.{StepKind}
use Rattle.unit_log.specs.Recorded.{room_left}
use Rattle.unit_log.specs.Inner.Recorded.{AreFirst}

pub first_within : (folded kinds : List StepKind) → AreFirst folded kinds → length folded ≤ length kinds
first_within folded kinds c =
    let n : length folded ≡ length (take (length folded) kinds) = ap (λ (w : List StepKind). length w) c in
    let m = length-take (length folded) kinds in
    omega (arith, n, m)

-- the step behind the folded ones is folded too
pub first_more : (place : ℕ) (folded kinds : List StepKind) (kind : StepKind) → AreFirst folded kinds → length folded ≡ place → slice_get kinds place ≡ Some kind
    → AreFirst (folded ++ kind ∷ []) kinds
first_more place folded kinds kind c is it =
    let within = slice_get_within kinds place kind it in
    let one = length-append folded (kind ∷ []) in
    ap (λ (w : List StepKind). w ++ kind ∷ []) c
    ∙ ap (λ (w : StepKind). take (length folded) kinds ++ w ∷ []) (sym (get_or_from_slice_get kinds place kind kind it) ∙ ap (λ n. get_or kinds n kind) (sym is))
    ∙ sym (take_more kinds (length folded) kind (omega (arith, is, within)))
    ∙ ap (λ n. take n kinds) (sym one)

-- and they stay the first where one more comes
pub first_still : (folded kinds : List StepKind) (kind : StepKind) → AreFirst folded kinds → AreFirst folded (kinds ++ kind ∷ [])
first_still folded kinds kind c = c ∙ sym (take-append-le (length folded) kinds (kind ∷ []) (first_within folded kinds c))

-- room for steps is room for their kinds, and within the limit
pub room_within : (keeps : Bool) (kinds replies left : ℕ) → 0 < room_left keeps kinds replies left → (0 < kinds) × (0 < left)
room_within true kinds replies left r = omega (arith, r)
room_within false kinds replies left r = omega (arith, r)
