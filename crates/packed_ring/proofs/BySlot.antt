-- A step along the slots of a chain, and the table that the last of them names.
use Rattle.std.proofs.Common.{◌≡◌, ℕ, suc, ◌+◌, ◌*◌, ◌/◌, ◌%◌, ◌≤◌, List, [], ◌∷◌, ◌++◌, length, true, false, map, None, refl, sym, ap, ◌∙◌, subst, arith}
use Rattle.std.proofs.lemmas.Grind.{common_steps}
use Rattle.std.proofs.Math.Nat.{suc-mod}
use Rattle.guest_mem.specs.Memory.{bytes_at}
use Rattle.ring_core.specs.Walk.{nothing_before, goes_on, is_indirect, part_of, amount, table_wrong, Sequence, IsRun, IsChain}
use Rattle.ring_core.specs.Inner.Walking.{Walks, RunFailsOrLacks, ChainFailsOrLacks}
use Rattle.ring_core.specs.Packed.{packed_descriptor, slot_at, packed_wrong, packed_slots, packed_table, PackedChain}
use Rattle.ring_core.specs.declared.layout.Features.{Features}
use Rattle.ring_core.specs.declared.layout.Layout.{Layout}
use Rattle.ring_core.specs.declared.descriptor.Part.{Part}
use Rattle.ring_core.specs.declared.descriptor.Descriptor.{Descriptor}
use Rattle.ring_core.specs.declared.before.Before.{Before}
use Rattle.ring_core.specs.declared.run.Run.{Run}
use Rattle.ring_core.specs.declared.fault.RingFault.{RingFault}
use Rattle.ring_core.specs.declared.fault.RingFault.TheVariants.{NoMemory}
use Rattle.ring_core.proofs.Along.{run_last}
use Rattle.ring_core.proofs.RightChains.{packed_names}
use Rattle.ring_core.proofs.ChainProperties.{names_table, some_entry}
use Rattle.ring_core.proofs.Walking.{Walked, packed_walk, walked_end, table_fails, chain_direct, chain_table}
use Rattle.packed_ring.specs.Inner.Answers.{EndsInTable, PackedFailsOrLacks}

entries_inside : (addr len memory : ℕ) → len % 16 ≡ 0 → addr + len ≤ memory → addr + 16 * (len / 16) ≤ memory
entries_inside addr len memory whole inside = omega (arith, whole, inside)

-- one that names a table is the last
names_last : (features : Features) (memory : ℕ) (d : Descriptor) → table_wrong features memory d ≡ None → goes_on d ≡ false
names_last features memory d e = grind (arith, common_steps)

-- what a walk finds wrong, in the words of a packed queue
pub as_packed : (features : Features) (m : List ℕ) (l : Layout) (t : ℕ) (f : RingFault) → ChainFailsOrLacks (packed_slots features m l t) (packed_table m) f → PackedFailsOrLacks features m l t f
as_packed features m l t NoMemory lacks = let e : t + 0 ≡ t = omega arith in rw e at lacks
as_packed features m l t f bad = bad

-- the slot that is reached once t + n were passed, and the one behind it
pub at_slot : (l : Layout) (m : List ℕ) (t n slot : ℕ) (d : Descriptor) → slot ≡ (t + n) % l.size → d ≡ packed_descriptor (bytes_at m (l.desc + 16 * slot) 16) → d ≡ slot_at l m (t + n)
at_slot l m t n slot d here is = is ∙ ap (λ (k : ℕ). packed_descriptor (bytes_at m (l.desc + 16 * k) 16)) here

pub slot_moves : (size t n slot : ℕ) → slot ≡ (t + n) % size → (slot + 1) % size ≡ (t + (n + 1)) % size
slot_moves size t n slot here =
    let after : t + (n + 1) ≡ suc (t + n) = omega arith in
    let next : (t + n) % size + 1 ≡ suc ((t + n) % size) = omega arith in
    ap (λ (k : ℕ). (k + 1) % size) here ∙ ap (λ (k : ℕ). k % size) next ∙ sym (suc-mod (t + n) size) ∙ ap (λ (k : ℕ). k % size) (sym after)

-- The chain that a run in the ring gives.
module _ (features : Features) (m : List ℕ) (l : Layout) (t : ℕ) (run : Run) (w : Walks (packed_slots features m l t) l.size nothing_before [] run) where
  abbrev Ring : Sequence
  Ring = packed_slots features m l t

  -- as many slots as descriptors of the run in the ring
  slots_are : (slots : ℕ) → slots ≡ run.before.count + 1 → slots ≡ length w.direct + 1
  slots_are slots count = count ∙ ap (λ (b : Before). b.count + 1) w.before

  -- the run names no table
  alone : (slots : ℕ) (parts : List Part) → slots ≡ run.before.count + 1 → is_indirect run.last ≡ false → parts ≡ run.draft ++ part_of run.last ∷ [] → PackedChain features m l t run.last.next_or_id slots parts
  alone slots parts count plain are =
      (w.direct, run.last, subst (λ (ps : List Part). IsChain Ring (packed_table m) w.direct run.last ps) (sym are) (chain_direct Ring (packed_table m) w.direct run.last run.draft w.run plain w.found), refl, slots_are slots count)

  module _ (tabled : is_indirect run.last ≡ true) where
    named : table_wrong features (length m) run.last ≡ None
    named = packed_names features (length m) l.size (amount nothing_before w.direct) run.last (run_last Ring nothing_before w.direct run.last w.run).0 tabled

    -- the table lies in memory
    table_lies : (run.last.addr + 16 * (run.last.len / 16) ≤ length m) × (1 ≤ run.last.len / 16)
    table_lies =
        let names = names_table features m run.last named tabled in
        (entries_inside run.last.addr run.last.len (length m) names.whole names.inside, some_entry run.last.len names.some names.whole)

    -- the run along it fails
    fails : (f : RingFault) → RunFailsOrLacks (packed_table m run.last) run.before f → PackedFailsOrLacks features m l t f
    fails f bad =
        as_packed features m l t f (table_fails Ring (packed_table m) f w.direct run.last w.run tabled (subst (λ (b : Before). RunFailsOrLacks (packed_table m run.last) b f) w.before bad))

    -- or ends the chain
    module _ (further : Run) (w2 : Walks (packed_table m run.last) (run.last.len / 16) run.before run.draft further) where
      both : IsRun (packed_table m run.last) (amount nothing_before w.direct) w2.direct further.last
      both = subst (λ (b : Before). IsRun (packed_table m run.last) b w2.direct further.last) w.before w2.run

      found : further.draft ≡ map part_of w.direct ++ map part_of w2.direct
      found = w2.found ∙ ap (λ (ps : List Part). ps ++ map part_of w2.direct) w.found

      ended : (slots : ℕ) (parts : List Part) → slots ≡ run.before.count + 1 → parts ≡ further.draft ++ part_of further.last ∷ [] → PackedChain features m l t run.last.next_or_id slots parts
      ended slots parts count are =
          (w.direct, run.last, subst (λ (ps : List Part). IsChain Ring (packed_table m) w.direct run.last ps) (sym are) (chain_table Ring (packed_table m) w.direct run.last w2.direct further.last further.draft w.run tabled both found), refl, slots_are slots count)

-- A walk along the ring that stands at a slot with nothing wrong.
module _ (features : Features) (m : List ℕ) (l : Layout) (t n : ℕ) (b : Before) (parts : List Part) (d : Descriptor)
    (w : Walked (packed_slots features m l t) l.size nothing_before [] n b parts) (is : d ≡ slot_at l m (t + n)) (right : packed_wrong features (length m) l.size b d ≡ None) where
  abbrev here : Run
  here = record { last = d; before = b; draft = parts }

  ends : goes_on d ≡ false → Walks (packed_slots features m l t) l.size nothing_before [] here
  ends off = walked_end (packed_slots features m l t) l.size (packed_walk features m l t) nothing_before [] n b parts d w is here refl refl refl right off

  count : n + 1 ≡ b.count + 1
  count = omega (arith, w.counted)

  -- the chain ends in it
  pub last_alone : goes_on d ≡ false → is_indirect d ≡ false → PackedChain features m l t d.next_or_id (n + 1) (parts ++ part_of d ∷ [])
  last_alone off plain = alone features m l t here (ends off) (n + 1) (parts ++ part_of d ∷ []) count plain refl

  -- or it names a table
  module _ (tabled : is_indirect d ≡ true) where
    names : Walks (packed_slots features m l t) l.size nothing_before [] here
    names = ends (names_last features (length m) d (packed_names features (length m) l.size b d right tabled))

    pub named_lies : (d.addr + 16 * (d.len / 16) ≤ length m) × (1 ≤ d.len / 16)
    named_lies = table_lies features m l t here names tabled

    pub named_fails : (f : RingFault) → RunFailsOrLacks (packed_table m d) b f → PackedFailsOrLacks features m l t f
    named_fails f bad = fails features m l t here names tabled f bad

    pub named_ends : (all : List Part) → EndsInTable m d b parts all → PackedChain features m l t d.next_or_id (n + 1) all
    named_ends all (further, w2, are) = ended features m l t here names tabled further w2 (n + 1) all count are
