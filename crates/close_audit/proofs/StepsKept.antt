-- What the steps that are kept of a history tell of a task: all of it, where its Enter is among them.
use Rattle.std.proofs.Common.{◌≡◌, ℕ, zero, suc, Bool, true, false, not, ◌||◌, cond, is_some, List, [], ◌∷◌, ◌++◌, take, drop, Option, Some, None, refl, sym, ap, ◌∙◌}
use Rattle.std.specs.List.{list_any}
use Rattle.ring_core.specs.declared.log.Ticket.{Ticket}
use Rattle.unit_model.specs.Tasks.{Entry, same_ticket, task_of, without}
use Rattle.unit_model.specs.Steps.{Step, alive, has_entered, has_left, done}
use Rattle.unit_model.specs.Marks.{marked}
use Rattle.unit_model.specs.Contents.{Opening}
use Rattle.unit_model.specs.Lawful.{IsLawful}
use Rattle.unit_model.proofs.Base.{lawful_before}
use Rattle.unit_model.proofs.Tickets.{same-true}
use Rattle.unit_model.proofs.Fresh.{fresh, none_of, above_fresh, fresh_undone, entered_before}
use Rattle.unit_model.proofs.Clearing.{left_not_alive}
use Rattle.unit_model.proofs.Distinct.{task_push_other, task_without_other}
use Rattle.unit_model.proofs.Marking.{left_marked, marked_undone}
use Rattle.close_audit.specs.Words.{has_busy, has_run}
use Rattle.close_audit.proofs.Bools.{or_false, or_true, or_over, is_false, clash, split_false}

or_between : (a b c : Bool) → (a || (b || c)) ≡ (b || (a || c))
or_between true b c = sym (or_true b)
or_between false b c = refl

-- what is done ran or was answered BUSY
pub done_is : (t : Ticket) (h : List Step) → done t h ≡ (has_run t h || has_busy t h)
done_is t [] = refl
done_is t (Step.Enter e ∷ past) = done_is t past
done_is t (Step.Full u ∷ past) = done_is t past
done_is t (Step.Resize blocks ∷ past) = done_is t past
done_is t (Step.Commit u r ∷ past) = ap (λ b. same_ticket u t || b) (done_is t past) ∙ sym (or_over (same_ticket u t) (has_run t past) (has_busy t past))
done_is t (Step.Busy u ∷ past) = ap (λ b. same_ticket u t || b) (done_is t past) ∙ or_between (same_ticket u t) (has_run t past) (has_busy t past)
done_is t (Step.Abort rule ∷ past) = done_is t past
done_is t (Step.Reset c ∷ past) = done_is t past
done_is t (Step.Leave u ∷ past) = done_is t past

run_split : (t : Ticket) (n : ℕ) (h : List Step) → has_run t h ≡ (has_run t (take n h) || has_run t (drop n h))
run_split t zero h = refl
run_split t (suc n) [] = refl
run_split t (suc n) (Step.Enter e ∷ past) = run_split t n past
run_split t (suc n) (Step.Full u ∷ past) = run_split t n past
run_split t (suc n) (Step.Resize blocks ∷ past) = run_split t n past
run_split t (suc n) (Step.Commit u r ∷ past) =
    ap (λ b. same_ticket u t || b) (run_split t n past) ∙ sym (or_over (same_ticket u t) (has_run t (take n past)) (has_run t (drop n past)))
run_split t (suc n) (Step.Busy u ∷ past) = run_split t n past
run_split t (suc n) (Step.Abort rule ∷ past) = run_split t n past
run_split t (suc n) (Step.Reset c ∷ past) = run_split t n past
run_split t (suc n) (Step.Leave u ∷ past) = run_split t n past

busy_split : (t : Ticket) (n : ℕ) (h : List Step) → has_busy t h ≡ (has_busy t (take n h) || has_busy t (drop n h))
busy_split t zero h = refl
busy_split t (suc n) [] = refl
busy_split t (suc n) (Step.Enter e ∷ past) = busy_split t n past
busy_split t (suc n) (Step.Full u ∷ past) = busy_split t n past
busy_split t (suc n) (Step.Resize blocks ∷ past) = busy_split t n past
busy_split t (suc n) (Step.Commit u r ∷ past) = busy_split t n past
busy_split t (suc n) (Step.Busy u ∷ past) =
    ap (λ b. same_ticket u t || b) (busy_split t n past) ∙ sym (or_over (same_ticket u t) (has_busy t (take n past)) (has_busy t (drop n past)))
busy_split t (suc n) (Step.Abort rule ∷ past) = busy_split t n past
busy_split t (suc n) (Step.Reset c ∷ past) = busy_split t n past
busy_split t (suc n) (Step.Leave u ∷ past) = busy_split t n past

fresh_before : (t : Ticket) (n : ℕ) (h : List Step) → has_entered t h ≡ false → has_entered t (drop n h) ≡ false
fresh_before t zero h new = new
fresh_before t (suc n) [] new = refl
fresh_before t (suc n) (s ∷ past) new = fresh_before t n past (entered_before s t past new)

pub entered_latest : (t : Ticket) (n : ℕ) (h : List Step) → has_entered t (take n h) ≡ true → has_entered t h ≡ true
entered_latest t zero h e = absurd (cc)
entered_latest t (suc n) [] e = absurd (cc)
entered_latest t (suc n) (Step.Enter f ∷ past) e =
    (elim (same_ticket f.ticket t) as (λ b. (b || has_entered t (take n past)) ≡ true → (b || has_entered t past) ≡ true) [
      | true ↦ λ w. refl
      | false ↦ λ w. entered_latest t n past w
    ]) e
entered_latest t (suc n) (Step.Full u ∷ past) e = entered_latest t n past e
entered_latest t (suc n) (Step.Resize blocks ∷ past) e = entered_latest t n past e
entered_latest t (suc n) (Step.Commit u r ∷ past) e = entered_latest t n past e
entered_latest t (suc n) (Step.Busy u ∷ past) e = entered_latest t n past e
entered_latest t (suc n) (Step.Abort rule ∷ past) e = entered_latest t n past e
entered_latest t (suc n) (Step.Reset c ∷ past) e = entered_latest t n past e
entered_latest t (suc n) (Step.Leave u ∷ past) e = entered_latest t n past e

-- what entered among the latest steps didn't enter before
fresh_behind : (o : Opening) (t : Ticket) (n : ℕ) (h : List Step) → IsLawful o h → has_entered t (take n h) ≡ true → has_entered t (drop n h) ≡ false
fresh_behind o t zero h l e = absurd (cc)
fresh_behind o t (suc n) [] l e = absurd (cc)
fresh_behind o t (suc n) (Step.Enter f ∷ past) l e =
    (elim (same_ticket f.ticket t) as (λ b. (same_ticket f.ticket t ≡ b) → (b || has_entered t (take n past)) ≡ true → has_entered t (drop n past) ≡ false) [
      | true ↦ λ q w. fresh_before t n past (ap (λ z. has_entered z past) (sym (same-true f.ticket t q)) ∙ above_fresh o f.ticket past l.0 l.1.1)
      | false ↦ λ q w. fresh_behind o t n past l.0 w
    ]) refl e
fresh_behind o t (suc n) (Step.Full u ∷ past) l e = fresh_behind o t n past l.0 e
fresh_behind o t (suc n) (Step.Resize blocks ∷ past) l e = fresh_behind o t n past l.0 e
fresh_behind o t (suc n) (Step.Commit u r ∷ past) l e = fresh_behind o t n past l.0 e
fresh_behind o t (suc n) (Step.Busy u ∷ past) l e = fresh_behind o t n past l.0 e
fresh_behind o t (suc n) (Step.Abort rule ∷ past) l e = fresh_behind o t n past l.0 e
fresh_behind o t (suc n) (Step.Reset c ∷ past) l e = fresh_behind o t n past l.0 e
fresh_behind o t (suc n) (Step.Leave u ∷ past) l e = fresh_behind o t n past l.0 e

module _ (o : Opening) (t : Ticket) (n : ℕ) (h : List Step) (l : IsLawful o h) (e : has_entered t (take n h) ≡ true) where
  none_done : (has_run t (drop n h) || has_busy t (drop n h)) ≡ false
  none_done = sym (done_is t (drop n h)) ∙ fresh_undone o t (drop n h) (lawful_before o n h l) (fresh_behind o t n h l e)

  -- its Commit isn't before them
  pub none_run : has_run t (drop n h) ≡ false
  none_run = (split_false (has_run t (drop n h)) (has_busy t (drop n h)) none_done).0

  pub run_kept : has_run t h ≡ has_run t (take n h)
  run_kept =
      run_split t n h ∙ ap (λ b. has_run t (take n h) || b) none_run
      ∙ or_false (has_run t (take n h))

  pub busy_kept : has_busy t h ≡ has_busy t (take n h)
  busy_kept =
      busy_split t n h ∙ ap (λ b. has_busy t (take n h) || b) (split_false (has_run t (drop n h)) (has_busy t (drop n h)) none_done).1
      ∙ or_false (has_busy t (take n h))

  -- where it left, it is marked where it neither ran nor was answered BUSY
  pub marked_kept : has_left t h ≡ true → marked t h ≡ not (has_run t (take n h) || has_busy t (take n h))
  marked_kept k =
      (elim (done t h) as (λ b. (done t h ≡ b) → marked t h ≡ not b) [
        | true ↦ λ d. is_false (marked t h) (λ m. clash (sym d ∙ marked_undone o t h l m))
        | false ↦ λ d. left_marked o t h l k d
      ]) refl
      ∙ ap not (done_is t h ∙ ap (λ b. b || has_busy t h) run_kept ∙ ap (λ b. has_run t (take n h) || b) busy_kept)

-- Of tasks that are alive:
any_task : (t : Ticket) (es : List Entry) → list_any (λ (e : Entry). same_ticket e.ticket t) es ≡ is_some (task_of t es)
any_task t [] = refl
any_task t (e ∷ es) =
    elim (same_ticket e.ticket t) as (λ b. (b || list_any (λ (x : Entry). same_ticket x.ticket t) es) ≡ is_some (cond b (Some e) (task_of t es))) [
      | true ↦ refl
      | false ↦ any_task t es
    ]

found_last : (t : Ticket) (f : Entry) (es : List Entry) → same_ticket f.ticket t ≡ true → is_some (task_of t (es ++ f ∷ [])) ≡ true
found_last t f [] q = ap (λ b. is_some (cond b (Some f) None)) q
found_last t f (x ∷ es) q =
    elim (same_ticket x.ticket t) as (λ b. is_some (cond b (Some x) (task_of t (es ++ f ∷ []))) ≡ true) [ true ↦ refl | false ↦ found_last t f es q ]

-- what entered is alive or left
entered_or : (t : Ticket) (h : List Step) → has_entered t h ≡ true → (is_some (task_of t (alive h)) || has_left t h) ≡ true
entered_or t [] e = absurd (cc)
entered_or t (Step.Enter f ∷ past) e =
    (elim (same_ticket f.ticket t) as (λ b. (same_ticket f.ticket t ≡ b) → (b || has_entered t past) ≡ true → (is_some (task_of t (alive past ++ f ∷ [])) || has_left t past) ≡ true) [
      | true ↦ λ q w. ap (λ b. b || has_left t past) (found_last t f (alive past) q)
      | false ↦ λ q w. ap (λ (x : Option Entry). is_some x || has_left t past) (task_push_other t f (alive past) q) ∙ entered_or t past w
    ]) refl e
entered_or t (Step.Full u ∷ past) e = entered_or t past e
entered_or t (Step.Resize blocks ∷ past) e = entered_or t past e
entered_or t (Step.Commit u r ∷ past) e = entered_or t past e
entered_or t (Step.Busy u ∷ past) e = entered_or t past e
entered_or t (Step.Abort rule ∷ past) e = entered_or t past e
entered_or t (Step.Reset c ∷ past) e = entered_or t past e
entered_or t (Step.Leave u ∷ past) e =
    elim (same_ticket u t) as (λ b. (same_ticket u t ≡ b) → (is_some (task_of t (without u (alive past))) || (b || has_left t past)) ≡ true) [
      | true ↦ λ q. or_true (is_some (task_of t (without u (alive past))))
      | false ↦ λ q. ap (λ (x : Option Entry). is_some x || has_left t past) (task_without_other t u (alive past) q) ∙ entered_or t past e
    ] refl

-- none is alive that didn't enter
fresh_gone : (t : Ticket) (h : List Step) → has_entered t h ≡ false → is_some (task_of t (alive h)) ≡ false
fresh_gone t h new = ap is_some (none_of t (alive h) (fresh t h new))

by_either : (a l : Bool) → (a || l) ≡ true → (l ≡ true → a ≡ false) → not a ≡ l
by_either true true w f = absurd (clash (f refl))
by_either true false w f = refl
by_either false l w f = sym w

-- a task isn't alive exactly where it left or didn't enter
pub gone_is : (o : Opening) (t : Ticket) (h : List Step) → IsLawful o h
    → not (list_any (λ (e : Entry). same_ticket e.ticket t) (alive h)) ≡ (not (has_entered t h) || has_left t h)
gone_is o t h l =
    ap not (any_task t (alive h))
    ∙ (elim (has_entered t h) as (λ b. (has_entered t h ≡ b) → not (is_some (task_of t (alive h))) ≡ (not b || has_left t h)) [
      | true ↦ λ e. by_either (is_some (task_of t (alive h))) (has_left t h) (entered_or t h e) (λ k. left_not_alive o t h l k)
      | false ↦ λ e. ap not (fresh_gone t h e)
    ]) refl
