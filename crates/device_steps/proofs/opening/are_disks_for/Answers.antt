use Rattle.std.proofs.Common.{arith, ◌≡◌, ◌⊎◌, inl, inr, sym, subst, ◌∙◌, IsTrue, ℕ, ◌+◌, ◌<◌, List, Some, slice_get, slice_index_or}
use Rattle.std.proofs.lemmas.Option.{get_or_from_slice_get, slice_get_within}
use Rattle.backed_store.specs.declared.disk.Disk.{Disk}
use Rattle.request_intake.specs.declared.inventory.UnitSpec.{UnitSpec}
use Rattle.device_steps.specs.Opening.{IsDiskFor}
use Rattle.device_steps.proofs.opening.are_disks_for.Goals as goal

below_or_at : (i n : ℕ) → i < n + 1 → (i < n) ⊎ (i ≡ n)
below_or_at i n le = grind arith

-- a disk that the unit at one index of both lists may have
found : (specs : List UnitSpec) (disks : List Disk) (k : ℕ) (s d : UnitSpec) (disk x : Disk) → slice_get specs k ≡ Some s
    → slice_get disks k ≡ Some disk → x ≡ slice_index_or disks k x → IsDiskFor (slice_index_or specs k d) x → IsDiskFor s disk
found specs disks k s d disk x wanted there is met =
    subst (λ y. IsDiskFor y disk) (get_or_from_slice_get specs k s d wanted)
    (subst (IsDiskFor (slice_index_or specs k d)) (is ∙ get_or_from_slice_get disks k disk x there) met)

pub loop-number-preserved : goal.loop-number-preserved
loop-number-preserved c =
    record {
      each = λ k s disk less wanted there.
          elim (below_or_at k c.loop-number.number less) [
            | inl before ↦ c.loop-number.invariant.each k s disk before wanted there
            | inr at ↦ found c.args.wanted.now c.args.disks.now c.loop-number.number s _ disk c.index-disks-number.result
                (subst (λ i. slice_get c.args.wanted.now i ≡ Some s) at wanted)
                (subst (λ i. slice_get c.args.disks.now i ≡ Some disk) at there)
                c.index-disks-number.is
                (c.is_disk_for.ensures.0 (subst IsTrue (sym c.if-not-is_disk_for.false) search))
          ];
    }

pub returns-clause-yes : goal.returns-clause-yes
returns-clause-yes c = λ yes.
    record {
      count = sym c.if-wanted-disks.false;
      each = λ k s disk wanted there. c.loop-number.invariant.each k s disk
          (omega (arith, slice_get_within c.args.wanted.now k s wanted, c.loop-number-test.false)) wanted there;
    }
