-- What is kept of a history, and what is folded.
use Rattle.std.proofs.Common.{◌≡◌, ℕ, zero, suc, ◌+◌, ◌-◌, ◌≤◌, Bool, true, false, cond, List, [], ◌∷◌, ◌++◌, length, take, drop, refl, sym, ◌∙◌, ap, arith, length-drop}
use Rattle.std.proofs.lemmas.List.{take-append-drop}
use Rattle.unit_model.specs.Steps.{Step}
use Rattle.unit_model.specs.Seen.{tasks_of, owed}
use Rattle.unit_model.specs.Contents.{Opening}
use Rattle.unit_model.specs.Lawful.{IsLawful}
use Rattle.unit_model.specs.Base.{most_before, folds, base_of, kept_steps, folded_steps, most_kept}
use Rattle.unit_model.proofs.Owing.{alive_owed, commit_owed, busy_owed, leave_owed}

-- where there are folded steps, at least as many are kept as may be where one is added
pub base_low : (h : List Step) → base_of h ≤ length h - 4095
base_low [] = omega arith
base_low (Step.Enter e ∷ past) = omega arith
base_low (Step.Full t ∷ past) = omega arith
base_low (Step.Resize blocks ∷ past) = omega arith
base_low (Step.Abort rule ∷ past) = omega arith
base_low (Step.Reset c ∷ past) = omega arith
base_low (Step.Commit t r ∷ past) = let low = base_low past in omega (arith, low)
base_low (Step.Busy t ∷ past) = let low = base_low past in omega (arith, low)
base_low (Step.Leave t ∷ past) = let low = base_low past in omega (arith, low)

pub base_within : (h : List Step) → base_of h ≤ length h
base_within h = let low = base_low h in omega (arith, low)

-- and a step never brings one back
pub base_grows : (s : Step) (past : List Step) → base_of past ≤ base_of (s ∷ past)
base_grows (Step.Enter e) past = base_low past
base_grows (Step.Full t) past = base_low past
base_grows (Step.Resize blocks) past = base_low past
base_grows (Step.Abort rule) past = base_low past
base_grows (Step.Reset c) past = base_low past
base_grows (Step.Commit t r) past = omega arith
base_grows (Step.Busy t) past = omega arith
base_grows (Step.Leave t) past = omega arith

pub joined_again : (h : List Step) → kept_steps h ++ folded_steps h ≡ h
joined_again h = take-append-drop (length h - base_of h) h

pub folded_count : (h : List Step) → length (folded_steps h) ≡ base_of h
folded_count h = let l = length-drop (length h - base_of h) h in let w = base_within h in omega (arith, l, w)

pub lawful_before : (o : Opening) (n : ℕ) (h : List Step) → IsLawful o h → IsLawful o (drop n h)
lawful_before o zero h l = l
lawful_before o (suc n) [] l = tt
lawful_before o (suc n) (s ∷ past) l = lawful_before o n past l.0

-- what is kept and what the tasks alive may still take
with_owed : (o : Opening) (h : List Step) → IsLawful o h → length h + owed (tasks_of h) ≤ base_of h + 4224
with_owed o [] l = omega arith
with_owed o (Step.Enter e ∷ past) l = let most = alive_owed o (Step.Enter e ∷ past) l in omega (arith, most)
with_owed o (Step.Full t ∷ past) l = let most = alive_owed o (Step.Full t ∷ past) l in omega (arith, most)
with_owed o (Step.Resize blocks ∷ past) l = let most = alive_owed o (Step.Resize blocks ∷ past) l in omega (arith, most)
with_owed o (Step.Abort rule ∷ past) l = let most = alive_owed o (Step.Abort rule ∷ past) l in omega (arith, most)
with_owed o (Step.Reset c ∷ past) l = let most = alive_owed o (Step.Reset c ∷ past) l in omega (arith, most)
with_owed o (Step.Commit t r ∷ past) l = let was = with_owed o past l.0 in let took = commit_owed o t r past l in omega (arith, was, took)
with_owed o (Step.Busy t ∷ past) l = let was = with_owed o past l.0 in let took = busy_owed o t past l in omega (arith, was, took)
with_owed o (Step.Leave t ∷ past) l = let was = with_owed o past l.0 in let took = leave_owed o t past l in omega (arith, was, took)

pub kept_few : (o : Opening) (h : List Step) → IsLawful o h → length h ≤ base_of h + 4224
kept_few o h l = let all = with_owed o h l in omega (arith, all)

pub before_few : (s : Step) (past : List Step) → folds s ≡ true → length past ≤ base_of (s ∷ past) + 4095
before_few (Step.Enter e) past is = omega arith
before_few (Step.Full t) past is = omega arith
before_few (Step.Resize blocks) past is = omega arith
before_few (Step.Abort rule) past is = omega arith
before_few (Step.Reset c) past is = omega arith
before_few (Step.Commit t r) past is = absurd (cc)
before_few (Step.Busy t) past is = absurd (cc)
before_few (Step.Leave t) past is = absurd (cc)
