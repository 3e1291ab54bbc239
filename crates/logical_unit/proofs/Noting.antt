-- What a unit has noted of its blocks, after each of its steps.
use Rattle.std.proofs.Common.{◌≡◌, ℕ, ◌-◌, ◌<◌, ◌≤◌, inl, inr, Bool, true, false, cond, nat_lt, min, List, [], ◌∷◌, length, Option, Some, None, is_some, refl, sym, ◌∙◌, ap, subst, arith}
use Rattle.std.proofs.lemmas.Bool.{ltb-true, ltb-false}
use Rattle.std.specs.Prelude.{unwrap_or}
use Rattle.ring_core.specs.declared.log.Ticket.{Ticket}
use Rattle.block_store.specs.Blocks.{Blocks, is_within, zero_block}
use Rattle.command_model.specs.Effects.{given}
use Rattle.unit_model.specs.Tasks.{Entry, task_of}
use Rattle.unit_model.specs.Steps.{Step, alive, as_of}
use Rattle.command_model.specs.PlainReply.{PlainReply}
use Rattle.unit_model.specs.Contents.{Opening, blocks_of, block_with, capacity_of, IsUnwrittenAfter}
use Rattle.unit_model.proofs.Failing.{unwritten_blocks}
use Rattle.unit_model.proofs.Past.{as_of-more, as_of-now}
use Rattle.logical_unit.specs.Inner.Performing.{PlainPerformed, step_for}
use Rattle.logical_unit.specs.Changes.{PlainChanges, is_in}
use Rattle.logical_unit.specs.Inner.Noting.{Notes, AreRecorded}

-- a step leaves the blocks of a unit but those that it touches, and gives it no others
abbrev pub Leaves : Opening → Step → List Step → (ℕ → Bool) → Type 0
Leaves o s past touched =
    (b : ℕ) → b < capacity_of o (s ∷ past) → touched b ≡ false → (b < capacity_of o past) × (blocks_of o (s ∷ past) b ≡ blocks_of o past b)

module _ (o : Opening) (s : Step) (past : List Step) (touched : ℕ → Bool) (capacity : ℕ) (c c' : PlainChanges) (k : AreRecorded o past c)
    (n : Notes touched capacity (length past) c c') (le : capacity_of o (s ∷ past) ≤ capacity) (leaves : Leaves o s past touched) where
  since_past : c'.since ≤ length (s ∷ past)
  since_past = elim n.kept [
    | inl same ↦ (let is = same.0 in let was = k.past in omega (arith, is, was))
    | inr anew ↦ (let is = anew in omega (arith, is))
  ]

  was : (p b : ℕ) → c'.since ≤ p → p ≤ length past → b < capacity_of o (s ∷ past) → b < capacity_of o past → is_in c'.ranges b ≡ false
      → blocks_of o past b ≡ blocks_of o (as_of p past) b
  was p b from to below held out = elim n.kept [
    | inl same ↦ k.unchanged p b (subst (λ x. x ≤ p) same.0 from) to held (same.1 b (omega (arith, below, le)) out)
    | inr anew ↦ ap (λ (w : List Step). blocks_of o w b) (sym (as_of-now p past (let is = anew in omega (arith, is, from))))
  ]

  unchanged : (p b : ℕ) → c'.since ≤ p → p ≤ length (s ∷ past) → b < capacity_of o (s ∷ past) → is_in c'.ranges b ≡ false
      → blocks_of o (s ∷ past) b ≡ blocks_of o (as_of p (s ∷ past)) b
  unchanged p b from to below out =
      (elim (nat_lt p (length (s ∷ past))) as (λ x. nat_lt p (length (s ∷ past)) ≡ x → blocks_of o (s ∷ past) b ≡ blocks_of o (as_of p (s ∷ past)) b) [
        | true ↦ λ e.
            let earlier : p ≤ length past = (let h = ltb-true p (length (s ∷ past)) e in omega (arith, h)) in
            let left = leaves b below (n.noted b (omega (arith, below, le)) out) in
            left.1 ∙ was p b from earlier below left.0 out ∙ ap (λ (w : List Step). blocks_of o w b) (sym (as_of-more p s past earlier))
        | false ↦ λ e. ap (λ (w : List Step). blocks_of o w b) (sym (as_of-now p (s ∷ past) (ltb-false p (length (s ∷ past)) e)))
      ]) refl

  pub recorded_by : (steps' : List Step) → steps' ≡ s ∷ past → AreRecorded o steps' c'
  recorded_by steps' is = subst (λ w. AreRecorded o w c') (sym is) (record { past = since_past; unchanged = unchanged })

notes_none : (capacity place : ℕ) (c : PlainChanges) → Notes (λ b. false) capacity place c c
notes_none capacity place c = record { noted = λ b below out. refl; kept = inl (refl, λ b below out. out) }

-- after a step that touches no block
pub recorded_on : (o : Opening) (s : Step) (past steps' : List Step) (c : PlainChanges) → AreRecorded o past c → Leaves o s past (λ b. false) → steps' ≡ s ∷ past → AreRecorded o steps' c
recorded_on o s past steps' c k leaves is =
    recorded_by o s past (λ b. false) (capacity_of o (s ∷ past)) c c k (notes_none _ _ c) (omega arith) leaves steps' is

-- a unit of which no step was taken
pub recorded_new : (o : Opening) (steps : List Step) (c : PlainChanges) → steps ≡ [] → c.since ≡ 0 → AreRecorded o steps c
recorded_new o steps c none start =
    subst (λ w. AreRecorded o w c) (sym none)
    (record { past = (let is = start in omega (arith, is)); unchanged = λ p b from to below out. ap (λ (w : List Step). blocks_of o w b) (sym (as_of-now p [] (omega arith))) })

pub recorded_again : (o o' : Opening) (steps : List Step) (c : PlainChanges) → steps ≡ [] → AreRecorded o steps c → AreRecorded o' steps c
recorded_again o o' steps c none k =
    recorded_new o' steps c none (let le = k.past in let is = ap (λ (w : List Step). length w) none in omega (arith, le, is))

-- nothing is noted from now on
pub recorded_anew : (o : Opening) (steps : List Step) (c : PlainChanges) → c.since ≡ length steps → AreRecorded o steps c
recorded_anew o steps c start =
    record {
      past = (let is = start in omega (arith, is));
      unchanged = λ p b from to below out. ap (λ (w : List Step). blocks_of o w b) (sym (as_of-now p steps (let is = start in omega (arith, is, from))));
    }

given_none : (x : Option (List ℕ)) (ends : Bool) (old : List ℕ) → is_some x ≡ false → cond ends (unwrap_or x old) old ≡ old
given_none None true old none = refl
given_none None false old none = refl
given_none (Some bytes) ends old some = absurd (cc)

-- a command leaves the blocks that it gives nothing
leaves_run : (o : Opening) (t : Ticket) (e : Entry) (p : Option PlainPerformed) (past : List Step) → task_of t (alive past) ≡ Some e
    → Leaves o (step_for t p) past (λ b. is_some (given e.command e.data_out b (blocks_of o past b)))
leaves_run o t e None past there b below none = (below, refl)
leaves_run o t e (Some p) past there b below none = (
  below,
  ap (λ x. block_with x p.reply.status (blocks_of o past) b) there ∙ given_none (given e.command e.data_out b (blocks_of o past b)) _ (blocks_of o past b) none,
)

capacity_ran : (o : Opening) (t : Ticket) (p : Option PlainPerformed) (past : List Step) → capacity_of o (step_for t p ∷ past) ≡ capacity_of o past
capacity_ran o t None past = refl
capacity_ran o t (Some p) past = refl

-- after a command ran
pub recorded_run : (o : Opening) (t : Ticket) (e : Entry) (p : Option PlainPerformed) (past steps' : List Step) (capacity : ℕ) (c c' : PlainChanges) → AreRecorded o past c
    → task_of t (alive past) ≡ Some e
    → ((blocks : Blocks) → Notes (λ b. is_some (given e.command e.data_out b (blocks b))) capacity (length past) c c') → capacity ≡ capacity_of o past
    → steps' ≡ step_for t p ∷ past → AreRecorded o steps' c'
recorded_run o t e p past steps' capacity c c' k there n size is =
    recorded_by o (step_for t p) past (λ b. is_some (given e.command e.data_out b (blocks_of o past b))) capacity c c' k (n (blocks_of o past))
    (let same = capacity_ran o t p past in let h = size in omega (arith, same, h)) (leaves_run o t e p past there) steps' is

-- after a flush of what can't be written
pub recorded_unwritten : (o : Opening) (t : Ticket) (e : Entry) (past steps' : List Step) (page : ℕ) (r : PlainReply) (c : PlainChanges) → AreRecorded o past c
    → IsUnwrittenAfter o e past page r → steps' ≡ Step.Commit t r ∷ past → AreRecorded o steps' c
recorded_unwritten o t e past steps' page r c k unwritten is =
    recorded_on o (Step.Commit t r) past steps' c k (λ b below out. (below, unwritten_blocks o e t past page r b unwritten)) is

-- a unit that grows leaves the blocks that it had
leaves_resize : (o : Opening) (blocks : ℕ) (past : List Step) → Leaves o (Step.Resize blocks) past (is_within (capacity_of o past) (blocks - capacity_of o past))
leaves_resize o blocks past b below out =
    (elim (nat_lt b (min (capacity_of o past) blocks)) as (λ x. nat_lt b (min (capacity_of o past) blocks) ≡ x
    → (b < capacity_of o past) × (cond x (blocks_of o past b) zero_block ≡ blocks_of o past b)) [
      | true ↦ λ e. (let h = ltb-true b (min (capacity_of o past) blocks) e in omega (arith, h), refl)
      | false ↦ λ e. absurd (let h = ltb-false b (min (capacity_of o past) blocks) e in outside (capacity_of o past) blocks b below h out)
    ]) refl
  where
    outside : (old new b : ℕ) → b < new → min old new ≤ b → is_within old (new - old) b ≡ false → ⊥
    outside old new b below above out = search arith

-- after a unit got another capacity
pub recorded_resize : (o : Opening) (blocks : ℕ) (past steps' : List Step) (c c' : PlainChanges) → AreRecorded o past c
    → Notes (is_within (capacity_of o past) (blocks - capacity_of o past)) blocks (length past) c c' → steps' ≡ Step.Resize blocks ∷ past → AreRecorded o steps' c'
recorded_resize o blocks past steps' c c' k n is =
    recorded_by o (Step.Resize blocks) past (is_within (capacity_of o past) (blocks - capacity_of o past)) blocks c c' k n (omega arith) (leaves_resize o blocks past) steps' is
