-- A walk along a run, and the chain that one run or two give.
use Rattle.std.proofs.Common.{◌≡◌, ℕ, ◌+◌, ◌/◌, ◌%◌, ◌<◌, ◌≤◌, ◌^◌, List, [], ◌∷◌, ◌++◌, length, Bool, true, false, cond, not, nat_lt, nat_le, ◌==◌, ◌&&◌, ◌||◌, Option, Some, None, refl, sym, ap, ◌∙◌, arith, map, inl, inr, append_assoc}
use Rattle.std.proofs.lemmas.Grind.{common_steps}
use Rattle.std.proofs.lemmas.Bool.Decides.{nat_tests}
use Rattle.std.proofs.lemmas.List.{map-append}
use Rattle.ring_core.specs.Walk.{nothing_before, goes_on, is_writable, is_indirect, part_of, amount, front, first_of, buffer_tests, table_wrong, Sequence, IsRun, IsChain}
use Rattle.ring_core.specs.Inner.Walking.{Walks, RunFailsOrLacks, ChainFailsOrLacks}
use Rattle.ring_core.specs.Split.{split_path, split_wrong}
use Rattle.ring_core.specs.Packed.{packed_slots, packed_table, packed_wrong}
use Rattle.ring_core.specs.declared.layout.Features.{Features}
use Rattle.ring_core.specs.declared.layout.Layout.{Layout}
use Rattle.ring_core.specs.declared.descriptor.Part.{Part}
use Rattle.ring_core.specs.declared.descriptor.Descriptor.{Descriptor}
use Rattle.ring_core.specs.declared.before.Before.{Before}
use Rattle.ring_core.specs.declared.run.Run.{Run}
use Rattle.ring_core.specs.declared.fault.RingFault.{RingFault}
use Rattle.ring_core.specs.declared.fault.RingFault.TheVariants.{NoMemory, BadIndirect, BufferOutside, ReadableAfterWritable, ChainTooLong, NextOutOfRange}
use Rattle.ring_core.proofs.Along.{Along, amount_none, along_start, along_more, along_end, along_first, along_wrong, run_first}
use Rattle.ring_core.proofs.Exists.{Ends, split_ends, packed_table_ends}
use Rattle.ring_core.proofs.RightChains.{less_or_more}

-- what a walk along a sequence needs to know of its tests
pub record CanWalk (s : Sequence) (size : ℕ) : Type 0 where
  pub total : (b : Before) (d : Descriptor) → s.wrong b d ≡ None → s.on b d ≡ true → b.total + d.len ≤ 2 ^ 32
  pub ends : Ends s size
  pub guest : (b : Before) (d : Descriptor) → s.wrong b d ≡ Some NoMemory → ⊥

split_total : (features : Features) (memory size : ℕ) (b : Before) (d : Descriptor) → split_wrong features memory size b d ≡ None → goes_on d ≡ true → b.total + d.len ≤ 2 ^ 32
split_total features memory size b d e on = grind (arith, common_steps, nat_tests)

in_either : (b : Bool) (x y : Option RingFault) → (x ≡ Some NoMemory → ⊥) → (y ≡ Some NoMemory → ⊥) → cond b x y ≡ Some NoMemory → ⊥
in_either true x y at_x at_y e = at_x e
in_either false x y at_x at_y e = at_y e

-- no test names want of memory
table_guest : (a b c d e : Bool) → first_of ((a, BadIndirect) ∷ (b, BadIndirect) ∷ (c, BadIndirect) ∷ (d, BadIndirect) ∷ (e, BadIndirect) ∷ []) ≡ Some NoMemory → ⊥
table_guest true b c d e p = cc
table_guest false true c d e p = cc
table_guest false false true d e p = cc
table_guest false false false true e p = cc
table_guest false false false false true p = cc
table_guest false false false false false p = cc

split_plain_guest : (a b c d e : Bool) → first_of ((a, BufferOutside) ∷ (b, ReadableAfterWritable) ∷ (c, ChainTooLong) ∷ (d, NextOutOfRange) ∷ (e, ChainTooLong) ∷ []) ≡ Some NoMemory → ⊥
split_plain_guest true b c d e p = cc
split_plain_guest false true c d e p = cc
split_plain_guest false false true d e p = cc
split_plain_guest false false false true e p = cc
split_plain_guest false false false false true p = cc
split_plain_guest false false false false false p = cc

packed_plain_guest : (a b c d : Bool) → first_of ((a, BufferOutside) ∷ (b, ReadableAfterWritable) ∷ (c, ChainTooLong) ∷ (d, ChainTooLong) ∷ []) ≡ Some NoMemory → ⊥
packed_plain_guest true b c d p = cc
packed_plain_guest false true c d p = cc
packed_plain_guest false false true d p = cc
packed_plain_guest false false false true p = cc
packed_plain_guest false false false false p = cc

split_guest : (features : Features) (memory size : ℕ) (b : Before) (d : Descriptor) → split_wrong features memory size b d ≡ Some NoMemory → ⊥
split_guest features memory size b d e =
    in_either (is_indirect d) (table_wrong features memory d)
    (first_of (buffer_tests memory b d ++ (goes_on d && nat_le size d.next_or_id, NextOutOfRange) ∷ (goes_on d && nat_le size (b.count + 1), ChainTooLong) ∷ []))
    (table_guest (not features.indirect_descriptors) (goes_on d) (d.len == 0) (not (d.len % 16 == 0)) (nat_lt memory (d.addr + d.len)))
    (split_plain_guest (not (d.len == 0) && nat_lt memory (d.addr + d.len)) (not (is_writable d) && b.writable) (nat_lt (2 ^ 32) (b.total + d.len)) (goes_on d && nat_le size d.next_or_id) (goes_on d && nat_le size (b.count + 1))) e

packed_total : (features : Features) (memory size : ℕ) (b : Before) (d : Descriptor) → packed_wrong features memory size b d ≡ None → goes_on d ≡ true → b.total + d.len ≤ 2 ^ 32
packed_total features memory size b d e on = grind (arith, common_steps, nat_tests)

packed_guest : (features : Features) (memory size : ℕ) (b : Before) (d : Descriptor) → packed_wrong features memory size b d ≡ Some NoMemory → ⊥
packed_guest features memory size b d e =
    in_either (is_indirect d) (table_wrong features memory d)
    (first_of (buffer_tests memory b d ++ (goes_on d && nat_le size (b.count + 1), ChainTooLong) ∷ []))
    (table_guest (not features.indirect_descriptors) (goes_on d) (d.len == 0) (not (d.len % 16 == 0)) (nat_lt memory (d.addr + d.len)))
    (packed_plain_guest (not (d.len == 0) && nat_lt memory (d.addr + d.len)) (not (is_writable d) && b.writable) (nat_lt (2 ^ 32) (b.total + d.len)) (goes_on d && nat_le size (b.count + 1))) e

packed_end : (features : Features) (memory size : ℕ) (b : Before) (d : Descriptor) → size ≤ b.count + 1 → packed_wrong features memory size b d ≡ None → goes_on d ≡ true → ⊥
packed_end features memory size b d small right more = grind (arith, common_steps, nat_tests)

buffer_total : (memory : ℕ) (b : Before) (d : Descriptor) → first_of (buffer_tests memory b d) ≡ None → b.total + d.len ≤ 2 ^ 32
buffer_total memory b d e = grind (arith, common_steps, nat_tests)

buffer_guest : (memory : ℕ) (b : Before) (d : Descriptor) → first_of (buffer_tests memory b d) ≡ Some NoMemory → ⊥
buffer_guest memory b d e = grind (arith, common_steps, nat_tests)

pub split_walk : (features : Features) (m : List ℕ) (table size head : ℕ) → CanWalk (split_path features m table size head) size
split_walk features m table size head =
    record {
      total = λ b d e on. split_total features (length m) size b d e on;
      ends = split_ends features m table size head;
      guest = λ b d e. split_guest features (length m) size b d e;
    }

pub packed_walk : (features : Features) (m : List ℕ) (l : Layout) (t : ℕ) → CanWalk (packed_slots features m l t) l.size
packed_walk features m l t =
    record {
      total = λ b d e on. packed_total features (length m) l.size b d e on;
      ends = λ b d small right more. packed_end features (length m) l.size b d small right more;
      guest = λ b d e. packed_guest features (length m) l.size b d e;
    }

pub entries_walk : (m : List ℕ) (x : Descriptor) → CanWalk (packed_table m x) (x.len / 16)
entries_walk m x =
    record {
      total = λ b d e on. buffer_total (length m) b d e;
      ends = packed_table_ends m x;
      guest = λ b d e. buffer_guest (length m) b d e;
    }

-- Where a walk stands after n descriptors, behind these parts.
pub record Walked (s : Sequence) (size : ℕ) (first : Before) (earlier : List Part) (n : ℕ) (before : Before) (parts : List Part) : Type 0 where
  pub along : Along s first earlier n before parts
  pub bounded : before.total ≤ 2 ^ 32
  pub counted : before.count ≡ n
  pub left : n < size

module _ (s : Sequence) (size : ℕ) (can : CanWalk s size) (first : Before) (earlier : List Part) where
  pub walked_start : 0 < size → first.total ≤ 2 ^ 32 → Walked s size first earlier 0 (record { count = 0; total = first.total; writable = first.writable }) earlier
  walked_start some small =
      record { along = rw (amount_none first) at (along_start s first earlier); bounded = small; counted = refl; left = some }

  module _ (n : ℕ) (b : Before) (parts : List Part) (d : Descriptor) (w : Walked s size first earlier n b parts) (is : d ≡ s.at n) where
    pub walked_more : s.wrong b d ≡ None → s.on b d ≡ true
        → Walked s size first earlier (n + 1) (record { count = b.count + 1; total = b.total + d.len; writable = b.writable || is_writable d }) (parts ++ part_of d ∷ [])
    walked_more right on =
        record {
          along = along_more s first earlier n b parts d w.along is right on;
          bounded = can.total b d right on;
          counted = omega (arith, w.counted);
          left =
              elim (less_or_more (b.count + 1) size) [
                | inl lt ↦ omega (arith, w.counted, lt)
                | inr le ↦ absurd (can.ends b d le right on)
              ];
        }

    pub walked_end : (run : Run) → run.last ≡ d → run.before ≡ b → run.draft ≡ parts → s.wrong b d ≡ None → s.on b d ≡ false → Walks s size first earlier run
    walked_end run is_last is_before is_draft right off =
        let e = along_end s first earlier n b parts d w.along is right off in
        record {
          direct = front s.at n;
          run = rw is_last e;
          before = is_before ∙ w.along.amounts;
          found = is_draft ∙ w.along.found;
          bounded = rw is_before w.bounded;
          few = rw is_before (omega (arith, w.counted, w.left));
        }

    pub walked_first : s.wrong b d ≡ None → RunFailsOrLacks s first NoMemory
    walked_first right = along_first s first earlier n b parts d w.along is right

    pub walked_wrong : (f : RingFault) → s.wrong b d ≡ Some f → RunFailsOrLacks s first f
    walked_wrong NoMemory bad = absurd (can.guest b d bad)
    walked_wrong f bad = along_wrong s first earlier n b parts d w.along is f bad

-- A chain of two runs, where they were walked:
module _ (ring : Sequence) (table : Descriptor → Sequence) where
  pub lacks_first : (direct : List Descriptor) (last : Descriptor) → IsRun ring nothing_before direct last → ChainFailsOrLacks ring table NoMemory
  lacks_first direct last run = run_first ring nothing_before direct last run

  -- the run in the ring fails
  pub ring_fails : (f : RingFault) → RunFailsOrLacks ring nothing_before f → ChainFailsOrLacks ring table f
  ring_fails NoMemory lacks = lacks
  ring_fails f bad = inl bad

  -- the run in the table fails
  pub table_fails : (f : RingFault) (direct : List Descriptor) (last : Descriptor) → IsRun ring nothing_before direct last → is_indirect last ≡ true
      → RunFailsOrLacks (table last) (amount nothing_before direct) f → ChainFailsOrLacks ring table f
  table_fails NoMemory direct last run tabled lacks = lacks_first direct last run
  table_fails f direct last run tabled bad = inr (direct, last, run, tabled, bad)

  -- the run in the ring is the chain
  pub chain_direct : (direct : List Descriptor) (last : Descriptor) (parts : List Part) → IsRun ring nothing_before direct last → is_indirect last ≡ false
      → parts ≡ map part_of direct → IsChain ring table direct last (parts ++ part_of last ∷ [])
  chain_direct direct last parts run plain are =
      (run, (last ∷ [], inl (plain, refl), ap (λ (ps : List Part). ps ++ part_of last ∷ []) are ∙ sym (map-append part_of direct (last ∷ []))))

  -- it and that in the table are
  pub chain_table : (direct : List Descriptor) (last : Descriptor) (inner : List Descriptor) (end : Descriptor) (parts : List Part)
      → IsRun ring nothing_before direct last → is_indirect last ≡ true → IsRun (table last) (amount nothing_before direct) inner end
      → parts ≡ map part_of direct ++ map part_of inner → IsChain ring table direct last (parts ++ part_of end ∷ [])
  chain_table direct last inner end parts run tabled run2 are =
      (run, (inner ++ end ∷ [], inr (tabled, (inner, end, run2, refl)), whole))
    where
      whole : parts ++ part_of end ∷ [] ≡ map part_of (direct ++ (inner ++ end ∷ []))
      whole =
          ap (λ (ps : List Part). ps ++ part_of end ∷ []) are
          ∙ append_assoc (map part_of direct) (map part_of inner) (part_of end ∷ [])
          ∙ ap (λ (ps : List Part). map part_of direct ++ ps) (sym (map-append part_of inner (end ∷ [])))
          ∙ sym (map-append part_of direct (inner ++ end ∷ []))
