use Rattle.std.proofs.Common.{arith, ◌≡◌, ◌⊎◌, inl, inr, sym, subst, ◌∙◌, IsTrue, ℕ, ◌+◌, ◌<◌, List, Some, slice_get, slice_index_or}
use Rattle.std.proofs.lemmas.Option.{get_or_from_slice_get, slice_get_within}
use Rattle.unit_model.specs.Unit.{PlainUnit}
use Rattle.request_intake.specs.declared.inventory.UnitSpec.{UnitSpec}
use Rattle.close_audit.specs.Opened.{IsOpenedAs}
use Rattle.close_audit.proofs.belonging.are_opened_as.Goals as goal

below_or_at : (i n : ℕ) → i < n + 1 → (i < n) ⊎ (i ≡ n)
below_or_at i n le = grind arith

-- a unit that is as it is wanted at one index of both lists
found : (specs : List UnitSpec) (units : List PlainUnit) (k : ℕ) (s d : UnitSpec) (u x : PlainUnit) → slice_get specs k ≡ Some s
    → slice_get units k ≡ Some u → x ≡ slice_index_or units k x → IsOpenedAs (slice_index_or specs k d) x → IsOpenedAs s u
found specs units k s d u x wanted there is met =
    subst (λ y. IsOpenedAs y u) (get_or_from_slice_get specs k s d wanted)
    (subst (IsOpenedAs (slice_index_or specs k d)) (is ∙ get_or_from_slice_get units k u x there) met)

pub loop-unit_index-preserved : goal.loop-unit_index-preserved
loop-unit_index-preserved c = λ k s u less wanted there.
    elim (below_or_at k c.loop-unit_index.unit_index less) [
      | inl before ↦ c.loop-unit_index.invariant k s u before wanted there
      | inr at ↦ found c.args.specs.now c.args.units.now c.loop-unit_index.unit_index s _ u c.index-units-unit_index.result
          (subst (λ i. slice_get c.args.specs.now i ≡ Some s) at wanted)
          (subst (λ i. slice_get c.args.units.now i ≡ Some u) at there)
          c.index-units-unit_index.is
          (c.is_opened_as.ensures.0 (subst IsTrue (sym c.if-not-is_opened_as.false) search))
    ]

pub returns : goal.returns
returns c = (
  λ yes. record {
    count = c.if-units-specs.false;
    each = λ k s u wanted there. c.loop-unit_index.invariant k s u
        (omega (arith, slice_get_within c.args.units.now k u there, c.loop-unit_index-test.false)) wanted there;
  },
  λ are. search,
)
