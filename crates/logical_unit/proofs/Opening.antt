-- The blocks that a unit opens with.
use Rattle.std.proofs.Common.{◌≡◌, ℕ, zero, suc, ◌+◌, ◌*◌, ◌<◌, ◌≤◌, true, false, cond, nat_lt, Bool, List, [], ◌++◌, length, take, drop, Option, refl, sym, ◌∙◌, ap, subst, arith}
use Rattle.std.proofs.Math.Seq.{take-append_seam, drop-append-add}
use Rattle.std.proofs.lemmas.Bool.{ltb-true, ltb-false}
use Rattle.std.proofs.lemmas.List.{drop_all}
use Rattle.block_store.specs.Blocks.{Blocks, nth_block, zero_block, run}
use Rattle.block_store.specs.Pages.{blocks_in}
use Rattle.block_store.proofs.Paging.{blocks_in-none, blocks_in-whole}
use Rattle.block_store.proofs.Runs.{length-run}
use Rattle.unit_attention.specs.declared.code.Code.{Code}
use Rattle.unit_model.specs.Steps.{Step}
use Rattle.unit_model.specs.Contents.{Opening, pending_at_start}
use Rattle.task_set.specs.Tasks.{PlainTask}
use Rattle.task_set.specs.Inner.Tasks.{seen_of}
use Rattle.unit_log.specs.Inner.LastTickets.{floor_kept}
use Rattle.logical_unit.specs.Inner.Parts.{AreKept, AreBased}
use Rattle.logical_unit.proofs.Keeping.{keep_new}

-- what stands at a place of a run of whole blocks is that block
nth-run : (f : Blocks) (first n k : ℕ) → ((b : ℕ) → length (f b) ≡ 512) → k < n → nth_block (run f first n) k ≡ f (first + k)
nth-run f first zero k whole below = absurd (let h = below in omega (arith, h))
nth-run f first (suc n) zero whole below =
    let none : 512 * zero ≡ 0 = omega arith in
    let here : first ≡ first + zero = omega arith in
    ap (λ i. take 512 (drop i (f first ++ run f (first + 1) n))) none
    ∙ ap (λ i. take i (f first ++ run f (first + 1) n)) (sym (whole first))
    ∙ take-append_seam (f first) (run f (first + 1) n)
    ∙ ap f here
nth-run f first (suc n) (suc k) whole below =
    let size = whole first in
    let at : 512 * suc k ≡ length (f first) + 512 * k = omega (arith, size) in
    let next : first + 1 + k ≡ first + suc k = omega arith in
    ap (λ i. take 512 (drop i (f first ++ run f (first + 1) n))) at
    ∙ ap (take 512) (drop-append-add (f first) (run f (first + 1) n) (512 * k))
    ∙ nth-run f (first + 1) n k whole (let h = below in omega (arith, h))
    ∙ ap f next

-- and behind its end nothing does
nth-behind : (f : Blocks) (n k : ℕ) → ((b : ℕ) → length (f b) ≡ 512) → n ≤ k → nth_block (run f 0 n) k ≡ []
nth-behind f n k whole behind =
    let size : length (run f 0 n) ≡ 512 * n = length-run f 0 n (λ b low high. whole b) in
    ap (take 512) (drop_all (512 * k) (run f 0 n) (let h = behind in omega (arith, size, h)))

pub content_blocks : (f : Blocks) (n b : ℕ) → ((k : ℕ) → length (f k) ≡ 512) → cond (nat_lt b n) (f b) zero_block ≡ blocks_in (run f 0 n) b
content_blocks f n b whole =
    (elim (nat_lt b n) as (λ x. nat_lt b n ≡ x → cond x (f b) zero_block ≡ blocks_in (run f 0 n) b) [
      | true ↦ λ e.
          let zeroth : 0 + b ≡ b = omega arith in
          let is = nth-run f 0 n b whole (ltb-true b n e) ∙ ap f zeroth in
          sym (blocks_in-whole (run f 0 n) b (ap (λ (l : List ℕ). length l) is ∙ whole b) ∙ is)
      | false ↦ λ e.
          sym (ap (λ l. take 512 (l ++ zero_block)) (nth-behind f n b whole (ltb-false b n e) ∙ sym (nth_none b)) ∙ blocks_in-none b)
    ]) refl
  where
    nth_none : (k : ℕ) → nth_block [] k ≡ []
    nth_none k = ap (take 512) (drop_all (512 * k) [] (omega arith))

-- the parts of a unit of which no step was taken
pub kept_new : (o : Opening) (block_at : Blocks) (pending : List Code) (last_tickets : List (Option ℕ)) (room : ℕ) (steps : List Step) (tasks : List PlainTask)
    → steps ≡ [] → tasks ≡ [] → pending ≡ pending_at_start o.calm → ((b : ℕ) → block_at b ≡ blocks_in o.content b) → ((q : ℕ) → floor_kept last_tickets q ≡ 0)
    → AreKept o steps block_at pending tasks last_tickets room
kept_new o block_at pending last_tickets room steps tasks none idle pends stored floors =
    subst (λ w. AreKept o w block_at pending tasks last_tickets room) (sym none)
    (subst (λ ts. AreKept o [] block_at pending ts last_tickets room) (sym idle) (keep_new o block_at pending last_tickets room pends stored floors))

-- a unit of which no step was taken opens with other blocks
pub opens_again : (o : Opening) (blocks : ℕ) (content : List ℕ) (backed : Bool) (old new : Blocks) (pending : List Code) (last_tickets : List (Option ℕ)) (room : ℕ)
    (steps : List Step) (tasks : List PlainTask) → steps ≡ [] → AreKept o steps old pending tasks last_tickets room
    → ((b : ℕ) → new b ≡ blocks_in content b)
    → AreKept (record o { blocks = blocks; content = content; backed = backed }) steps new pending tasks last_tickets room
opens_again o blocks content backed old new pending last_tickets room steps tasks none is stored =
    subst (λ w. AreKept (record o { blocks = blocks; content = content; backed = backed }) w new pending tasks last_tickets room) (sym none)
    (let here = subst (λ w. AreKept o w old pending tasks last_tickets room) none is in
    record { lawful = tt; stored = stored; pends = here.pends; set = here.set; fit = here.fit; floors = here.floors; reserved = here.reserved })

pub based_new : (base forgotten : ℕ) (steps : List Step) (tasks : List PlainTask) → steps ≡ [] → tasks ≡ [] → base ≡ 0 → forgotten ≡ 0
    → AreBased base forgotten steps (seen_of tasks)
based_new base forgotten steps tasks none idle low all =
    subst (λ w. AreBased base forgotten w (seen_of tasks)) (sym none)
    (subst (λ ts. AreBased base forgotten [] (seen_of ts)) (sym idle)
    (record { based = low; clear = (omega (arith, all), tt) }))
