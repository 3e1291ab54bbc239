-- The tasks that were never handed out, after one more step.
use Rattle.std.proofs.Common.{◌≡◌, ℕ, ◌+◌, Bool, true, false, not, ◌||◌, ◌&&◌, cond, List, [], ◌∷◌, Option, Some, None, is_some, refl, sym, ◌∙◌, ap, arith}
use Rattle.std.specs.List.{AllByRecursion}
use Rattle.ring_core.specs.declared.log.Ticket.{Ticket}
use Rattle.unit_attention.specs.declared.code.Code.{Code}
use Rattle.command_model.specs.PlainReply.{PlainReply}
use Rattle.unit_model.specs.declared.rule.Rule.{Rule}
use Rattle.unit_model.specs.declared.rule.Rule.TheVariants as rules
use Rattle.unit_model.specs.declared.reason.Reason.{Reason}
use Rattle.unit_model.specs.declared.reason.Reason.TheVariants as reason
use Rattle.unit_model.specs.Tasks.{Entry, task_of, without, is_blocked}
use Rattle.unit_model.specs.Steps.{Step, alive, has_entered}
use Rattle.unit_model.specs.Marks.{is_marked_by, first_mark, mark_of, marked}
use Rattle.unit_model.specs.Enabling.{enabled, is_parked, newly_enabled, newly_marked}
use Rattle.unit_model.specs.Weights.{weight, weigh, parked_count, alive_count}
use Rattle.unit_model.proofs.Weight.{weight_push, weight_filter, weigh_split, weigh_same, weigh_without, weight_without}

or_again : (a n : Bool) → ((a || n) || n) ≡ (a || n)
or_again true n = refl
or_again false true = refl
or_again false false = refl

-- a step that leaves the alive tasks as they are enables none
pub enabled_same : (e : Entry) (s r : Step) (past : List Step) → has_entered e.ticket (s ∷ r ∷ past) ≡ has_entered e.ticket (r ∷ past) → alive (s ∷ r ∷ past) ≡ alive (r ∷ past) → enabled e (s ∷ r ∷ past) ≡ enabled e (r ∷ past)
enabled_same e s r past h same =
    ap (λ b. enabled e (r ∷ past) || (b && not (is_blocked e (alive (s ∷ r ∷ past))))) h
    ∙ ap (λ w. enabled e (r ∷ past) || (has_entered e.ticket (r ∷ past) && not (is_blocked e w))) same
    ∙ or_again (enabled e past) (has_entered e.ticket (r ∷ past) && not (is_blocked e (alive (r ∷ past))))

all_same : (q r : Entry → Bool) (es : List Entry) → ((e : Entry) → q e ≡ r e) → AllByRecursion (λ e. q e ≡ r e) es
all_same q r [] h = tt
all_same q r (e ∷ es) h = (h e, all_same q r es h)

-- a step that marks none and leaves the alive tasks as they are
same_parked : (p : Ticket → ℕ) (s : Step) (h : List Step) → ((t : Ticket) → has_entered t (s ∷ h) ≡ has_entered t h)
    → ((t : Ticket) → marked t (s ∷ h) ≡ marked t h) → alive (s ∷ h) ≡ alive h → parked_count p (s ∷ h) ≡ parked_count p h
same_parked p s [] n m a = ap (λ es. weigh p (is_parked (s ∷ [])) es) a
same_parked p s (r ∷ past) n m a =
    ap (λ es. weigh p (is_parked (s ∷ r ∷ past)) es) a
    ∙ weigh_same p (is_parked (s ∷ r ∷ past)) (is_parked (r ∷ past)) (alive (r ∷ past))
    (all_same _ _ (alive (r ∷ past)) (λ e. ap (λ b. not (enabled e (s ∷ r ∷ past)) && not b) (m e.ticket) ∙ ap (λ b. not b && not (marked e.ticket (r ∷ past))) (enabled_same e s r past (n e.ticket) a)))

pub parked_commit : (p : Ticket → ℕ) (t : Ticket) (r : PlainReply) (h : List Step)
    → parked_count p (Step.Commit t r ∷ h) ≡ parked_count p h
parked_commit p t r h = same_parked p (Step.Commit t r) h (λ u. refl) (λ u. refl) refl

pub parked_busy : (p : Ticket → ℕ) (t : Ticket) (h : List Step) → parked_count p (Step.Busy t ∷ h) ≡ parked_count p h
parked_busy p t h = same_parked p (Step.Busy t) h (λ u. refl) (λ u. refl) refl

pub parked_full : (p : Ticket → ℕ) (t : Ticket) (h : List Step) → parked_count p (Step.Full t ∷ h) ≡ parked_count p h
parked_full p t h = same_parked p (Step.Full t) h (λ u. refl) (λ u. refl) refl

pub parked_resize : (p : Ticket → ℕ) (blocks : ℕ) (h : List Step) → parked_count p (Step.Resize blocks ∷ h) ≡ parked_count p h
parked_resize p blocks h = same_parked p (Step.Resize blocks) h (λ u. refl) (λ u. refl) refl

-- whether there is a mark, the earlier one or this
pub some_mark : (m : Option Reason) (b : Bool) (now : Reason) → is_some (first_mark m b now) ≡ (is_some m || b)
some_mark (Some r) b now = refl
some_mark None true now = refl
some_mark None false now = refl

split_by : (a m b : Bool) (k : ℕ) → cond (not a && not m) k 0 ≡ cond (not a && not (m || b)) k 0 + cond (not m && ((m || b) && not a)) k 0
split_by true true b k = omega arith
split_by true false true k = omega arith
split_by true false false k = omega arith
split_by false true b k = omega arith
split_by false false true k = omega arith
split_by false false false k = omega arith

split_at : (a a' m m' b : Bool) (k : ℕ) → a' ≡ a → m' ≡ (m || b) → cond (not a && not m) k 0 ≡ cond (not a' && not m') k 0 + cond (not m && (m' && not a)) k 0
split_at a a' m m' b k same marks =
    split_by a m b k
    ∙ ap (λ c. cond (not c && not (m || b)) k 0 + cond (not m && ((m || b) && not a)) k 0) (sym same)
    ∙ ap (λ c. cond (not a' && not c) k 0 + cond (not m && (c && not a)) k 0) (sym marks)

-- what a marking step hands out was parked
marking : (p : Ticket → ℕ) (s r : Step) (past : List Step) (mark : Ticket → Bool) → alive (s ∷ r ∷ past) ≡ alive (r ∷ past)
    → ((t : Ticket) → has_entered t (s ∷ r ∷ past) ≡ has_entered t (r ∷ past)) → ((t : Ticket) → marked t (s ∷ r ∷ past) ≡ (marked t (r ∷ past) || mark t))
    → parked_count p (r ∷ past) ≡ weigh p (is_parked (s ∷ r ∷ past)) (alive (r ∷ past)) + weight p (newly_marked s (r ∷ past))
marking p s r past mark same n m =
    let h = r ∷ past in
    weigh_split p (is_parked h) (is_parked (s ∷ h)) (λ e. not (marked e.ticket h) && (marked e.ticket (s ∷ h) && not (enabled e h))) (alive h)
    (λ e k. split_at (enabled e h) (enabled e (s ∷ h)) (marked e.ticket h) (marked e.ticket (s ∷ h)) (mark e.ticket) k (enabled_same e s r past (n e.ticket) same) (m e.ticket))
    ∙ ap (λ k. weigh p (is_parked (s ∷ h)) (alive h) + k) (sym (weight_filter p (λ e. not (marked e.ticket h) && (marked e.ticket (s ∷ h) && not (enabled e h))) (alive h)))

pub parked_abort : (p : Ticket → ℕ) (rule : Rule) (h : List Step)
    → parked_count p h ≡ parked_count p (Step.Abort rule ∷ h) + weight p (newly_marked (Step.Abort rule) h)
parked_abort p rule [] = omega arith
parked_abort p rule (r ∷ past) =
    marking p (Step.Abort rule) r past (λ t. is_marked_by rule t (r ∷ past)) refl (λ t. refl) (λ t. some_mark (mark_of t (r ∷ past)) (is_marked_by rule t (r ∷ past)) reason.Aborted)

pub parked_reset : (p : Ticket → ℕ) (c : Code) (h : List Step)
    → parked_count p h ≡ parked_count p (Step.Reset c ∷ h) + weight p (newly_marked (Step.Reset c) h)
parked_reset p c [] = omega arith
parked_reset p c (r ∷ past) =
    marking p (Step.Reset c) r past (λ t. is_marked_by rules.All t (r ∷ past)) refl (λ t. refl) (λ t. some_mark (mark_of t (r ∷ past)) (is_marked_by rules.All t (r ∷ past)) reason.Reset)

frees : (a m n : Bool) (k : ℕ) → cond (not a && not m) k 0 ≡ cond (not (a || n) && not m) k 0 + cond (not m && (not a && (a || n))) k 0
frees true true n k = omega arith
frees true false n k = omega arith
frees false true true k = omega arith
frees false true false k = omega arith
frees false false true k = omega arith
frees false false false k = omega arith

-- what a Leave hands out was parked
pub parked_leave : (p : Ticket → ℕ) (t : Ticket) (e : Entry) (h : List Step) → task_of t (alive h) ≡ Some e → is_parked h e ≡ false
    → parked_count p h ≡ parked_count p (Step.Leave t ∷ h) + weight p (newly_enabled t h)
parked_leave p t e h at off =
    weigh_without p (is_parked h) t (alive h) e at off
    ∙ weigh_split p (is_parked h) (is_parked (Step.Leave t ∷ h)) (λ f. not (marked f.ticket h) && (not (enabled f h) && enabled f (Step.Leave t ∷ h))) (without t (alive h))
    (λ f n. frees (enabled f h) (marked f.ticket h) (has_entered f.ticket h && not (is_blocked f (without t (alive h)))) n)
    ∙ ap (λ n. parked_count p (Step.Leave t ∷ h) + n) (sym (weight_filter p (λ f. not (marked f.ticket h) && (not (enabled f h) && enabled f (Step.Leave t ∷ h))) (without t (alive h))))

pub alive_enter : (p : Ticket → ℕ) (e : Entry) (h : List Step) → alive_count p (Step.Enter e ∷ h) ≡ alive_count p h + p e.ticket
alive_enter p e h = weight_push p (alive h) e

pub alive_leave : (p : Ticket → ℕ) (t : Ticket) (e : Entry) (h : List Step) → task_of t (alive h) ≡ Some e
    → alive_count p h ≡ alive_count p (Step.Leave t ∷ h) + p t
alive_leave p t e h at = weight_without p t (alive h) e at
