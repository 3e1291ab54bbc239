-- The chain that a walk along one run, or along two, gives.
use Rattle.std.proofs.Common.{◌≡◌, ℕ, ◌+◌, ◌*◌, ◌/◌, ◌%◌, ◌≤◌, List, [], ◌∷◌, ◌++◌, length, true, false, map, MatchResult, Result, Ok, Err, None, sym, ap, ◌∙◌, subst, arith}
use Rattle.ring_core.specs.Walk.{nothing_before, is_indirect, part_of, amount, table_wrong, Sequence, IsRun}
use Rattle.ring_core.specs.Inner.Walking.{Walks, RunFailsOrLacks, ChainFailsOrLacks}
use Rattle.ring_core.specs.Split.{number_on, split_table, SplitChain}
use Rattle.ring_core.specs.declared.layout.Features.{Features}
use Rattle.ring_core.specs.declared.layout.Layout.{Layout}
use Rattle.ring_core.specs.declared.descriptor.Part.{Part}
use Rattle.ring_core.specs.declared.before.Before.{Before}
use Rattle.ring_core.specs.declared.run.Run.{Run}
use Rattle.ring_core.specs.declared.fault.RingFault.{RingFault}
use Rattle.ring_core.specs.declared.fault.RingFault.TheVariants.{NoMemory}
use Rattle.ring_core.proofs.Along.{run_last}
use Rattle.ring_core.proofs.RightChains.{split_names}
use Rattle.ring_core.proofs.ChainProperties.{names_table, some_entry}
use Rattle.ring_core.proofs.Walking.{lacks_first, table_fails, chain_direct, chain_table}
use Rattle.split_ring.specs.Inner.Answers.{queue_path, SplitFailsOrLacks}

entries_inside : (addr len memory : ℕ) → len % 16 ≡ 0 → addr + len ≤ memory → addr + 16 * (len / 16) ≤ memory
entries_inside addr len memory whole inside = omega (arith, whole, inside)

-- what a walk finds wrong, in the words of a split queue
pub as_split : (features : Features) (m : List ℕ) (l : Layout) (head : ℕ) (f : RingFault) → ChainFailsOrLacks (queue_path features m l head) (split_table m) f → SplitFailsOrLacks features m l head f
unfolding number_on
as_split features m l head NoMemory lacks = lacks
as_split features m l head f bad = bad

module _ (features : Features) (m : List ℕ) (l : Layout) (head : ℕ) (run : Run) (w : Walks (queue_path features m l head) l.size nothing_before [] run) where
  abbrev Ring : Sequence
  Ring = queue_path features m l head

  abbrev Answers : Result (List Part) RingFault → Type 0
  Answers r = MatchResult r (λ draft. SplitChain features m l.desc l.size head draft) (λ fault. SplitFailsOrLacks features m l head fault)

  -- the run names no table
  pub alone : is_indirect run.last ≡ false → (r : Result (List Part) RingFault) → MatchResult r (λ draft. draft ≡ run.draft ++ part_of run.last ∷ []) (λ fault. fault ≡ NoMemory) → Answers r
  alone plain (Ok draft) e = subst (λ (ps : List Part). SplitChain features m l.desc l.size head ps) (sym e) (w.direct, run.last, chain_direct Ring (split_table m) w.direct run.last run.draft w.run plain w.found)
  alone plain (Err fault) e = subst (λ (f : RingFault). SplitFailsOrLacks features m l head f) (sym e) (as_split features m l head NoMemory (lacks_first Ring (split_table m) w.direct run.last w.run))

  module _ (tabled : is_indirect run.last ≡ true) where
    named : table_wrong features (length m) run.last ≡ None
    named = split_names features (length m) l.size (amount nothing_before w.direct) run.last (run_last Ring nothing_before w.direct run.last w.run).0 tabled

    -- the table lies in memory
    pub table_lies : (run.last.addr + 16 * (run.last.len / 16) ≤ length m) × (1 ≤ run.last.len / 16)
    table_lies =
        let names = names_table features m run.last named tabled in
        (entries_inside run.last.addr run.last.len (length m) names.whole names.inside, some_entry run.last.len names.some names.whole)

    -- the run along it fails
    pub fails : (f : RingFault) → RunFailsOrLacks (split_table m run.last) run.before f → SplitFailsOrLacks features m l head f
    fails f bad =
        as_split features m l head f (table_fails Ring (split_table m) f w.direct run.last w.run tabled (subst (λ (b : Before). RunFailsOrLacks (split_table m run.last) b f) w.before bad))

    -- or ends the chain
    module _ (further : Run) (w2 : Walks (split_table m run.last) (run.last.len / 16) run.before run.draft further) where
      both : IsRun (split_table m run.last) (amount nothing_before w.direct) w2.direct further.last
      both = subst (λ (b : Before). IsRun (split_table m run.last) b w2.direct further.last) w.before w2.run

      found : further.draft ≡ map part_of w.direct ++ map part_of w2.direct
      found = w2.found ∙ ap (λ (ps : List Part). ps ++ map part_of w2.direct) w.found

      pub ended : (r : Result (List Part) RingFault) → MatchResult r (λ draft. draft ≡ further.draft ++ part_of further.last ∷ []) (λ fault. fault ≡ NoMemory) → Answers r
      ended (Ok draft) e =
          subst (λ (ps : List Part). SplitChain features m l.desc l.size head ps) (sym e)
          (w.direct, run.last, chain_table Ring (split_table m) w.direct run.last w2.direct further.last further.draft w.run tabled both found)
      ended (Err fault) e = subst (λ (f : RingFault). SplitFailsOrLacks features m l head f) (sym e) (as_split features m l head NoMemory (lacks_first Ring (split_table m) w.direct run.last w.run))
