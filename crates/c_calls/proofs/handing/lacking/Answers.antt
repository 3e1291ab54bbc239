use Rattle.std.proofs.Common.{arith, ◌≡◌, ◌⊎◌, inl, inr, sym, ap, subst, ◌∙◌, IsTrue, Bool, ℕ, ◌+◌, ◌<◌, List, Some, slice_get, slice_index_or}
use Rattle.std.specs.Prelude.{Option}
use Rattle.std.proofs.lemmas.Option.{get_or_from_slice_get, slice_get_within}
use Rattle.backed_store.specs.declared.disk.Disk.{Disk as UnitDisk}
use Rattle.request_intake.specs.declared.inventory.UnitSpec.{UnitSpec}
use Rattle.c_calls.specs.Disks.{Fits}
use Rattle.c_calls.specs.Kept.{disk_at, disks_at}
use Rattle.c_calls.proofs.Taking.{reads, put_same, set_length}
use Rattle.c_calls.proofs.handing.lacking.Goals as goal

below_or_at : (i n : ℕ) → i < n + 1 → (i < n) ⊎ (i ≡ n)
below_or_at i n le = grind arith

-- a disk that the unit at an index may have
found : (is_live : Bool) (units : List UnitSpec) (k : ℕ) (u d : UnitSpec) (x disk : Option UnitDisk) → slice_get units k ≡ Some u → x ≡ disk
    → Fits is_live (slice_index_or units k d) x → Fits is_live u disk
found is_live units k u d x disk wanted is met =
    subst (λ v. Fits is_live v disk) (get_or_from_slice_get units k u d wanted) (subst (Fits is_live (slice_index_or units k d)) is met)

pub returns-then-not-has_disk_for-clause-same : goal.returns-then-not-has_disk_for-clause-same
returns-then-not-has_disk_for-clause-same c =
    put_same disk_at c.loop-unit_index.disks c.loop-unit_index.unit_index c.has_disk_for.new.disk c.index-disks-unit_index.result
    c.has_disk_for.ensures.same
    ∙ c.loop-unit_index.invariant.same

pub loop-unit_index-preserved : goal.loop-unit_index-preserved
loop-unit_index-preserved c =
    record {
      same =
          put_same disk_at c.loop-unit_index.disks c.loop-unit_index.unit_index c.has_disk_for.new.disk c.index-disks-unit_index.result
          c.has_disk_for.ensures.same
          ∙ c.loop-unit_index.invariant.same;
      fit = λ k u disk less wanted there.
          elim (below_or_at k c.loop-unit_index.unit_index less) [
            | inl before ↦ c.loop-unit_index.invariant.fit k u disk before wanted there
            | inr at ↦ found c.args.is_live c.args.units.now c.loop-unit_index.unit_index u _ (disk_at (slice_index_or c.loop-unit_index.disks c.loop-unit_index.unit_index c.index-disks-unit_index.result)) disk
                (subst (λ i. slice_get c.args.units.now i ≡ Some u) at wanted)
                (reads disk_at c.loop-unit_index.disks c.loop-unit_index.unit_index c.index-disks-unit_index.result disk
                (ap (λ xs. slice_get xs c.loop-unit_index.unit_index) c.loop-unit_index.invariant.same
                ∙ subst (λ i. slice_get (disks_at c.args.disks.now) i ≡ Some disk) at there))
                (c.has_disk_for.ensures.told.0 (subst IsTrue (sym c.if-not-has_disk_for.false) search))
          ];
      all = c.loop-unit_index.invariant.all ∙ sym (set_length c.loop-unit_index.disks c.loop-unit_index.unit_index c.has_disk_for.new.disk);
    }

pub returns-clause-found : goal.returns-clause-found
returns-clause-found c = λ k u disk wanted there. c.loop-unit_index.invariant.fit k u disk
    (omega (arith, c.requires, slice_get_within c.args.units.now k u wanted, c.loop-unit_index-test.false)) wanted there
