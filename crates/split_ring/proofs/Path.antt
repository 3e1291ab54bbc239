-- A step along the path of a chain.
use Rattle.std.proofs.Common.{◌≡◌, ℕ, ◌+◌, ◌<◌, ◌≤◌, List, [], ◌∷◌, ◌++◌, length, true, false, ◌||◌, ◌^◌, Some, None, ap, ◌∙◌, arith, add-one}
use Rattle.std.proofs.lemmas.Grind.{common_steps}
use Rattle.std.proofs.lemmas.Bool.Decides.{nat_tests}
use Rattle.ring_core.specs.Walk.{goes_on, is_writable, part_of, Sequence}
use Rattle.ring_core.specs.Inner.Walking.{Walks, RunFailsOrLacks}
use Rattle.ring_core.specs.Split.{in_table, number_on, path, split_wrong}
use Rattle.ring_core.specs.declared.layout.Features.{Features}
use Rattle.ring_core.specs.declared.descriptor.Part.{Part}
use Rattle.ring_core.specs.declared.descriptor.Descriptor.{Descriptor}
use Rattle.ring_core.specs.declared.before.Before.{Before}
use Rattle.ring_core.specs.declared.run.Run.{Run}
use Rattle.ring_core.specs.declared.fault.RingFault.{RingFault}
use Rattle.ring_core.specs.declared.fault.RingFault.TheVariants.{NoMemory}
use Rattle.ring_core.proofs.Walking.{Walked, split_walk, walked_start, walked_more, walked_end, walked_first, walked_wrong}
use Rattle.split_ring.specs.Inner.Answers.{path_of}
use Rattle.split_ring.specs.declared.walk.Table.{Table}

-- a descriptor that goes on names another of the table
pub right_next : (features : Features) (memory size : ℕ) (b : Before) (d : Descriptor) → split_wrong features memory size b d ≡ None → goes_on d ≡ true → d.next_or_id < size
right_next features memory size b d e on = grind (arith, common_steps, nat_tests)

-- Where a walk stands after n descriptors, at the next one.
pub record OnPath (m : List ℕ) (table : Table) (head : ℕ) (first : Before) (earlier : List Part) (n : ℕ) (before : Before) (d : Descriptor) (parts : List Part) : Type 0 where
  pub walked : Walked (path_of m table head) table.entries first earlier n before parts
  pub here : d ≡ path m table.addr head n

module _ (m : List ℕ) (table : Table) (head : ℕ) (first : Before) (earlier : List Part) where
  abbrev It : Sequence
  It = path_of m table head

  pub path_start : (d : Descriptor) → d ≡ in_table m table.addr head → head < table.entries → first.total ≤ 2 ^ 32
      → OnPath m table head first earlier 0 (record { count = 0; total = first.total; writable = first.writable }) d earlier
  unfolding number_on
  path_start d is lt small =
      record {
        walked = walked_start It table.entries (split_walk table.features m table.addr table.entries head) first earlier (omega arith) small;
        here = is;
      }

  module _ (n : ℕ) (b : Before) (d : Descriptor) (parts : List Part) (w : OnPath m table head first earlier n b d parts) where
    pub path_more : (next : Descriptor) → next ≡ in_table m table.addr d.next_or_id → split_wrong table.features (length m) table.entries b d ≡ None → goes_on d ≡ true
        → OnPath m table head first earlier (n + 1) (record { count = b.count + 1; total = b.total + d.len; writable = b.writable || is_writable d }) next (parts ++ part_of d ∷ [])
    unfolding number_on
    path_more next is right on =
        record {
          walked = walked_more It table.entries (split_walk table.features m table.addr table.entries head) first earlier n b parts d w.walked w.here right on;
          here = rw add-one (is ∙ ap (λ (x : Descriptor). in_table m table.addr x.next_or_id) w.here);
        }

    pub path_end : (run : Run) → run.last ≡ d → run.before ≡ b → run.draft ≡ parts → split_wrong table.features (length m) table.entries b d ≡ None → goes_on d ≡ false → Walks (path_of m table head) table.entries first earlier run
    path_end run is_last is_before is_draft right off =
        walked_end It table.entries (split_walk table.features m table.addr table.entries head) first earlier n b parts d w.walked w.here run is_last is_before is_draft right off

    pub path_first : split_wrong table.features (length m) table.entries b d ≡ None → RunFailsOrLacks (path_of m table head) first NoMemory
    path_first right = walked_first It table.entries (split_walk table.features m table.addr table.entries head) first earlier n b parts d w.walked w.here right

    pub path_wrong : (f : RingFault) → split_wrong table.features (length m) table.entries b d ≡ Some f → RunFailsOrLacks (path_of m table head) first f
    path_wrong f bad = walked_wrong It table.entries (split_walk table.features m table.addr table.entries head) first earlier n b parts d w.walked w.here f bad
