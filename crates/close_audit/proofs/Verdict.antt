-- The tally of a request ends well where the request is settled.
use Rattle.std.proofs.Common.{◌≡◌, ℕ, suc, ◌+◌, ◌-◌, ◌<◌, ◌≤◌, Bool, true, false, not, ◌&&◌, ◌||◌, cond, eqb, List, [], ◌∷◌, length, Some, None, refl, sym, ap, subst, ◌∙◌, arith, count_by, zero-add}
use Rattle.std.proofs.lemmas.Bool.Decides.{nat_tests}
use Rattle.std.specs.Prelude.{slice_get}
use Rattle.std.specs.List.{fold, list_any}
use Rattle.ring_core.specs.declared.log.Ticket.{Ticket}
use Rattle.unit_model.specs.Tasks.{Entry, same_ticket}
use Rattle.unit_model.specs.Steps.{alive, has_entered, has_left}
use Rattle.unit_model.specs.Base.{base_of, kept_steps, folded_steps}
use Rattle.unit_model.specs.Receipts.{Receipt}
use Rattle.unit_model.specs.Unit.{PlainUnit}
use Rattle.phases.specs.Notes.{PlainNote}
use Rattle.phases.specs.declared.note.Cause.{Cause}
use Rattle.phases.specs.declared.note.Cause.TheVariants as cause
use Rattle.close_audit.specs.declared.tally.Answer.{Answer}
use Rattle.close_audit.specs.declared.tally.Answer.TheVariants as answer
use Rattle.close_audit.specs.declared.tally.Tally.{Tally}
use Rattle.close_audit.specs.Words.{has_busy, has_full, has_run, has_step, in_two}
use Rattle.close_audit.specs.Settled.{answers, is_folded_in, has_run_in, has_step_in, any_folded, any_entered, any_run, any_full, is_astray, all_left, where_entered, is_of, is_founded, is_right, are_right, has_run_there, is_settled}
use Rattle.close_audit.specs.Inner.Tallies.{fresh, elsewhere, home_at, read, read_commits, read_folded, read_alive, is_ground, is_end, is_fine, ends_well, with_receipt, with_note, with_units, tally_of}
use Rattle.close_audit.specs.Inner.Unconfirmed.{AllStand}
use Rattle.close_audit.proofs.Bools.{all_at, or_false, or_true, and_true, and_false, not_or, unless_true}
use Rattle.close_audit.proofs.Histories.{home_by, shut, closed, read_closed, commits_closed, shut_both, entered_step, run_step, busy_step}
use Rattle.close_audit.proofs.StepsKept.{none_run, run_kept, busy_kept, marked_kept, entered_latest, gone_is}
use Rattle.close_audit.proofs.Home.{two_any, where_one}
use Rattle.close_audit.proofs.Answering.{Amounts, Answered, receipts_read, notes_read}

-- a unit knows a step of the task, or its Commit; keeps its Busy; its task is alive there
abbrev steps_in : Ticket → PlainUnit → Bool
steps_in t u = has_step_in t u

abbrev runs_in : Ticket → PlainUnit → Bool
runs_in t u = has_run_in t u

abbrev rests_in : Ticket → PlainUnit → Bool
rests_in t u = has_busy t (kept_steps u.steps)

abbrev lives_in : Ticket → PlainUnit → Bool
lives_in t u = list_any (λ (e : Entry). same_ticket e.ticket t) (alive u.steps)

abbrev unit_closed : Ticket → ℕ → PlainUnit → Tally → Tally
unit_closed t k u s =
    read_alive t (alive u.steps)
    (shut (steps_in t u) (has_entered t (kept_steps u.steps)) (has_full t (kept_steps u.steps)) (runs_in t u) (has_busy t (kept_steps u.steps)) k s)

folded_closed : (t : Ticket) (k : ℕ) (u : PlainUnit) (s : Tally) → read_folded t k u s ≡ shut (is_folded_in t u) false false (is_folded_in t u) false k s
folded_closed t k u s =
    elim u.keeps_replies as (λ b. cond b (read_commits t k (folded_steps u.steps) s) s ≡ shut (b && has_run t (folded_steps u.steps)) false false (b && has_run t (folded_steps u.steps)) false k s) [
      | true ↦ commits_closed t k (folded_steps u.steps) s
      | false ↦ refl
    ]

both_closed : (t : Ticket) (k : ℕ) (u : PlainUnit) (s : Tally) → read t k (kept_steps u.steps) (read_folded t k u s)
    ≡ shut (steps_in t u) (has_entered t (kept_steps u.steps)) (has_full t (kept_steps u.steps)) (runs_in t u) (has_busy t (kept_steps u.steps)) k s
both_closed t k u s =
    read_closed t k (kept_steps u.steps) (read_folded t k u s)
    ∙ ap (closed t k (kept_steps u.steps)) (folded_closed t k u s)
    ∙ shut_both (has_step t (kept_steps u.steps)) (has_entered t (kept_steps u.steps)) (has_full t (kept_steps u.steps)) (has_run t (kept_steps u.steps)) (has_busy t (kept_steps u.steps)) (is_folded_in t u) k s

unit_read : (t : Ticket) (k : ℕ) (u : PlainUnit) (us : List PlainUnit) (s : Tally) → with_units t k (u ∷ us) s ≡ with_units t (k + 1) us (unit_closed t k u s)
unit_read t k u us s = ap (λ (z : Tally). with_units t (k + 1) us (read_alive t (alive u.steps) z)) (both_closed t k u s)

-- what the units leave of a tally
pub record ReadAll (t : Ticket) (units : List PlainUnit) (s r : Tally) : Type 0 where
  pub answer_is : r.answer ≡ s.answer
  pub entered_is : r.entered ≡ (any_entered units t || s.entered)
  pub full_is : r.full ≡ (any_full units t || s.full)
  pub ran_is : r.ran ≡ (any_run units t || s.ran)
  pub busy_is : r.busy ≡ (list_any (rests_in t) units || s.busy)
  pub alive_is : r.alive ≡ (list_any (lives_in t) units || s.alive)

more : (e m s : Bool) → (m || (e || s)) ≡ ((e || m) || s)
more true m s = or_true m
more false m s = refl

read_all : (t : Ticket) (k : ℕ) (units : List PlainUnit) (s : Tally) → ReadAll t units s (with_units t k units s)
read_all t k [] s = record { answer_is = refl; entered_is = refl; full_is = refl; ran_is = refl; busy_is = refl; alive_is = refl }
read_all t k (u ∷ us) s =
    let x : Tally = unit_closed t k u s in
    let r = read_all t (k + 1) us x in
    subst (λ (z : Tally). ReadAll t (u ∷ us) s z) (sym (unit_read t k u us s))
    (record {
      answer_is = r.answer_is;
      entered_is = r.entered_is ∙ more (has_entered t (kept_steps u.steps)) (any_entered us t) s.entered;
      full_is = r.full_is ∙ more (has_full t (kept_steps u.steps)) (any_full us t) s.full;
      ran_is = r.ran_is ∙ more (runs_in t u) (any_run us t) s.ran;
      busy_is = r.busy_is ∙ more (rests_in t u) (list_any (rests_in t) us) s.busy;
      alive_is = r.alive_is ∙ more (lives_in t u) (list_any (lives_in t) us) s.alive;
    })

home_stays : (b : Bool) (k j : ℕ) → home_by b k (Some j) ≡ Some j
home_stays true k j = refl
home_stays false k j = refl

other_test : (j k : ℕ) → j < k → eqb j k ≡ false
other_test j k lt = grind (arith, nat_tests)

next : (j k : ℕ) → j < k → j < k + 1
next j k lt = omega (arith, lt)

last : (k : ℕ) → k < k + 1
last k = omega arith

-- once a unit was found that keeps a step of it
astray_some : (t : Ticket) (k : ℕ) (units : List PlainUnit) (s : Tally) (j : ℕ) → s.home ≡ Some j → j < k
    → (with_units t k units s).astray ≡ (list_any (steps_in t) units || s.astray)
astray_some t k [] s j at lt = refl
astray_some t k (u ∷ us) s j at lt =
    let x : Tally = unit_closed t k u s in
    let off : elsewhere k s.home ≡ true = ap (elsewhere k) at ∙ ap not (other_test j k lt) in
    let its : x.astray ≡ (steps_in t u || s.astray) = ap (λ b. (steps_in t u && b) || s.astray) off ∙ ap (λ b. b || s.astray) (and_true (steps_in t u)) in
    ap (λ (z : Tally). z.astray) (unit_read t k u us s)
    ∙ astray_some t (k + 1) us x j (ap (home_by (steps_in t u) k) at ∙ home_stays (steps_in t u) k j) (next j k lt)
    ∙ ap (λ b. list_any (steps_in t) us || b) its
    ∙ more (steps_in t u) (list_any (steps_in t) us) s.astray

-- and before one was
astray_none : (t : Ticket) (k : ℕ) (units : List PlainUnit) (s : Tally) → s.home ≡ None
    → (with_units t k units s).astray ≡ (in_two (steps_in t) units || s.astray)
astray_none t k [] s at = refl
astray_none t k (u ∷ us) s at =
    let x : Tally = unit_closed t k u s in
    let its : x.astray ≡ s.astray = ap (λ h. (steps_in t u && elsewhere k h) || s.astray) at ∙ ap (λ b. b || s.astray) (and_false (steps_in t u)) in
    ap (λ (z : Tally). z.astray) (unit_read t k u us s)
    ∙ (elim (steps_in t u) as (λ b. (steps_in t u ≡ b) → (with_units t (k + 1) us x).astray ≡ (((b && list_any (steps_in t) us) || in_two (steps_in t) us) || s.astray)) [
      | true ↦ λ e.
          astray_some t (k + 1) us x k (ap (λ b. home_by b k s.home) e ∙ ap (home_at k) at) (last k)
          ∙ ap (λ b. list_any (steps_in t) us || b) its
          ∙ ap (λ b. b || s.astray) (sym (two_any (steps_in t) us))
      | false ↦ λ e.
          astray_none t (k + 1) us x (ap (λ b. home_by b k s.home) e ∙ at)
          ∙ ap (λ b. in_two (steps_in t) us || b) its
    ]) refl

-- no task of the ticket is alive exactly where it left where it entered
none_lives : (t : Ticket) (units : List PlainUnit) → AllStand units → not (list_any (lives_in t) units) ≡ all_left units t
none_lives t [] stand = refl
none_lives t (u ∷ us) stand =
    not_or (lives_in t u) (list_any (lives_in t) us)
    ∙ ap (λ b. b && not (list_any (lives_in t) us)) (gone_is u.opening t u.steps (stand 0 u refl).lawful)
    ∙ ap (λ b. (not (has_entered t u.steps) || has_left t u.steps) && b) (none_lives t us (λ k v e. stand (suc k) v e))

left_in : (t : Ticket) (units : List PlainUnit) → all_left units t ≡ true → (k : ℕ) (u : PlainUnit) → slice_get units k ≡ Some u
    → (not (has_entered t u.steps) || has_left t u.steps) ≡ true
left_in t units all k u at = all_at (λ (v : PlainUnit). not (has_entered t v.steps) || has_left t v.steps) units k u all at

founded : (units : List PlainUnit) (c : Cause) (t : Ticket) → is_ground c (any_entered units t) (any_full units t) (any_folded units) ≡ is_founded units c t
founded units cause.Aborted t = refl
founded units cause.Full t = refl
founded units cause.Busy t = refl
founded units cause.Direct t = refl
founded units cause.Stale t = refl
founded units cause.Unknown t = refl

or_more : (a b q : Bool) → (a ≡ true → b ≡ true) → (a || q) ≡ true → (b || q) ≡ true
or_more true b q f e = ap (λ x. x || q) (f refl)
or_more false b q f e = ap (λ x. b || x) e ∙ or_true b

-- Where one unit alone has steps of the task:
module _ (t : Ticket) (units : List PlainUnit) (stand : AllStand units) where
  by_enter : (u : PlainUnit) → has_entered t (kept_steps u.steps) ≡ true → steps_in t u ≡ true
  by_enter u e = ap (λ b. b || is_folded_in t u) (entered_step t (kept_steps u.steps) e)

  by_run : (u : PlainUnit) → runs_in t u ≡ true → steps_in t u ≡ true
  by_run u e = or_more (has_run t (kept_steps u.steps)) (has_step t (kept_steps u.steps)) (is_folded_in t u) (run_step t (kept_steps u.steps)) e

  by_busy : (u : PlainUnit) → rests_in t u ≡ true → steps_in t u ≡ true
  by_busy u e = ap (λ b. b || is_folded_in t u) (busy_step t (kept_steps u.steps) e)

  -- what entered among the kept steps has no folded Commit
  runs_kept : (k : ℕ) (u : PlainUnit) → slice_get units k ≡ Some u → has_entered t (kept_steps u.steps) ≡ true → has_run t (kept_steps u.steps) ≡ runs_in t u
  runs_kept k u at e =
      sym (
      ap (λ b. has_run t (kept_steps u.steps) || (u.keeps_replies && b)) (none_run u.opening t (length u.steps - base_of u.steps) u.steps (stand k u at).lawful e)
      ∙ ap (λ b. has_run t (kept_steps u.steps) || b) (and_false u.keeps_replies)
      ∙ or_false (has_run t (kept_steps u.steps))
      )

  run_is : is_astray units t ≡ false → where_entered units t (λ h. has_run t h) ≡ (not (any_entered units t) || any_run units t)
  run_is one =
      where_one (λ (u : PlainUnit). has_entered t (kept_steps u.steps)) (runs_in t) (rests_in t) (steps_in t)
      (λ (u : PlainUnit). has_run t u.steps) (λ r b. r)
      by_enter by_run by_busy
      units
      (λ k u at e. run_kept u.opening t (length u.steps - base_of u.steps) u.steps (stand k u at).lawful e ∙ runs_kept k u at e)
      one

  ends_there : (c : Cause) → all_left units t ≡ true → (k : ℕ) (u : PlainUnit) → slice_get units k ≡ Some u → has_entered t (kept_steps u.steps) ≡ true
      → is_of c t u.steps ≡ is_end c (runs_in t u) (rests_in t u)
  ends_there cause.Busy left k u at e = busy_kept u.opening t (length u.steps - base_of u.steps) u.steps (stand k u at).lawful e
  ends_there cause.Aborted left k u at e =
      marked_kept u.opening t (length u.steps - base_of u.steps) u.steps (stand k u at).lawful e
      (unless_true (has_entered t u.steps) (has_left t u.steps) (left_in t units left k u at) (entered_latest t (length u.steps - base_of u.steps) u.steps e))
      ∙ ap (λ b. not (b || rests_in t u)) (runs_kept k u at e)
  ends_there cause.Full left k u at e = refl
  ends_there cause.Direct left k u at e = refl
  ends_there cause.Stale left k u at e = refl
  ends_there cause.Unknown left k u at e = refl

  end_is : (c : Cause) → all_left units t ≡ true → is_astray units t ≡ false
      → where_entered units t (λ h. is_of c t h) ≡ (not (any_entered units t) || is_end c (any_run units t) (list_any (rests_in t) units))
  end_is c left one =
      where_one (λ (u : PlainUnit). has_entered t (kept_steps u.steps)) (runs_in t) (rests_in t) (steps_in t)
      (λ (u : PlainUnit). is_of c t u.steps) (is_end c)
      by_enter by_run by_busy
      units (ends_there c left) one

  right_is : (c : Cause) → all_left units t ≡ true → is_astray units t ≡ false
      → is_fine (answer.Note c) (any_entered units t) (any_full units t) (any_run units t) (list_any (rests_in t) units) (any_folded units) ≡ is_right units t c
  right_is c left one =
      ap (λ b. b && (not (any_run units t) && (not (any_entered units t) || is_end c (any_run units t) (list_any (rests_in t) units)))) (founded units c t)
      ∙ ap (λ b. is_founded units c t && (not (any_run units t) && b)) (sym (end_is c left one))

  abbrev fine : Answer → Bool
  fine a = is_fine a (any_entered units t) (any_full units t) (any_run units t) (list_any (rests_in t) units) (any_folded units)

both_hold : (l a x y : Bool) → (l ≡ true → a ≡ false → x ≡ y) → (l && (not a && x)) ≡ (l && (not a && y))
both_hold true true x y f = refl
both_hold true false x y f = f refl refl
both_hold false a x y f = refl

never : (l a : Bool) → (l && (not a && false)) ≡ false
never true true = refl
never true false = refl
never false a = refl

many : (n : ℕ) → 2 ≤ n → eqb n 1 ≡ false
many n le = grind (arith, nat_tests)

-- by its answer
by_answer : (t : Ticket) (units : List PlainUnit) (stand : AllStand units) (a : Answer) (n : ℕ) (right : Bool)
    → Amounts (where_entered units t (λ h. has_run t h)) (λ c. is_right units t c) a n right
    → (all_left units t && (not (is_astray units t) && fine t units stand a)) ≡ (eqb n 1 && (all_left units t && (not (is_astray units t) && right)))
by_answer t units stand answer.Missing n right is =
    never (all_left units t) (is_astray units t) ∙ sym (ap (λ k. eqb k 1 && (all_left units t && (not (is_astray units t) && right))) is.0)
by_answer t units stand answer.Receipt n right is =
    both_hold (all_left units t) (is_astray units t) (fine t units stand answer.Receipt) (where_entered units t (λ h. has_run t h)) (λ l one. sym (run_is t units stand one))
    ∙ sym (ap (λ k. eqb k 1 && (all_left units t && (not (is_astray units t) && right))) is.0 ∙ ap (λ r. all_left units t && (not (is_astray units t) && r)) is.1)
by_answer t units stand (answer.Note c) n right is =
    both_hold (all_left units t) (is_astray units t) (fine t units stand (answer.Note c)) (is_right units t c) (λ l one. right_is t units stand c l one)
    ∙ sym (ap (λ k. eqb k 1 && (all_left units t && (not (is_astray units t) && right))) is.0 ∙ ap (λ r. all_left units t && (not (is_astray units t) && r)) is.1)
by_answer t units stand answer.Several n right is =
    never (all_left units t) (is_astray units t) ∙ sym (ap (λ b. b && (all_left units t && (not (is_astray units t) && right))) (many n is))

-- what was answered, before any unit is read
answered : (units : List PlainUnit) (receipts : List Receipt) (notes : List PlainNote) (t : Ticket)
    → Answered (where_entered units t (λ h. has_run t h)) (λ c. is_right units t c) fresh (fold (with_note t) (fold (with_receipt t) fresh receipts) notes)
    (answers receipts notes t) (has_run_there units receipts t && are_right units notes t)
answered units receipts notes t =
    let q : Bool = where_entered units t (λ h. has_run t h) in
    let p : Cause → Bool = λ c. is_right units t c in
    let one : Tally = fold (with_receipt t) fresh receipts in
    let r = receipts_read q p t receipts fresh 0 true (refl, refl) in
    let m : ℕ = count_by (λ (c : Receipt). same_ticket c.ticket t) receipts in
    let amount : Amounts q p one.answer m (has_run_there units receipts t) = subst (λ n. Amounts q p one.answer n (has_run_there units receipts t)) (zero-add m) r.1 in
    let s = notes_read q p t notes one m (has_run_there units receipts t) amount in
    (s.0 ∙ ap (λ (z : Tally). record z { answer = (fold (with_note t) one notes).answer }) r.0, s.1)

pub ends_settled : (units : List PlainUnit) (receipts : List Receipt) (notes : List PlainNote) (t : Ticket) → AllStand units
    → ends_well (any_folded units) (tally_of units receipts notes t) ≡ is_settled units receipts notes t
ends_settled units receipts notes t stand =
    let one : Tally = fold (with_note t) (fold (with_receipt t) fresh receipts) notes in
    let two : Tally = tally_of units receipts notes t in
    let g : Bool = any_folded units in
    let a = answered units receipts notes t in
    let r = read_all t 0 units one in
    let alive_two : two.alive ≡ list_any (lives_in t) units = r.alive_is ∙ ap (λ (z : Tally). list_any (lives_in t) units || z.alive) a.0 ∙ or_false (list_any (lives_in t) units) in
    let astray_two : two.astray ≡ is_astray units t =
    astray_none t 0 units one (ap (λ (z : Tally). z.home) a.0) ∙ ap (λ (z : Tally). is_astray units t || z.astray) a.0 ∙ or_false (is_astray units t) in
    let entered_two : two.entered ≡ any_entered units t = r.entered_is ∙ ap (λ (z : Tally). any_entered units t || z.entered) a.0 ∙ or_false (any_entered units t) in
    let full_two : two.full ≡ any_full units t = r.full_is ∙ ap (λ (z : Tally). any_full units t || z.full) a.0 ∙ or_false (any_full units t) in
    let ran_two : two.ran ≡ any_run units t = r.ran_is ∙ ap (λ (z : Tally). any_run units t || z.ran) a.0 ∙ or_false (any_run units t) in
    let busy_two : two.busy ≡ list_any (rests_in t) units = r.busy_is ∙ ap (λ (z : Tally). list_any (rests_in t) units || z.busy) a.0 ∙ or_false (list_any (rests_in t) units) in
    ap (λ x. not x && (not two.astray && is_fine two.answer two.entered two.full two.ran two.busy g)) alive_two
    ∙ ap (λ x. x && (not two.astray && is_fine two.answer two.entered two.full two.ran two.busy g)) (none_lives t units stand)
    ∙ ap (λ x. all_left units t && (not x && is_fine two.answer two.entered two.full two.ran two.busy g)) astray_two
    ∙ ap (λ x. all_left units t && (not (is_astray units t) && is_fine x two.entered two.full two.ran two.busy g)) r.answer_is
    ∙ ap (λ x. all_left units t && (not (is_astray units t) && is_fine one.answer x two.full two.ran two.busy g)) entered_two
    ∙ ap (λ x. all_left units t && (not (is_astray units t) && is_fine one.answer (any_entered units t) x two.ran two.busy g)) full_two
    ∙ ap (λ x. all_left units t && (not (is_astray units t) && is_fine one.answer (any_entered units t) (any_full units t) x two.busy g)) ran_two
    ∙ ap (λ x. all_left units t && (not (is_astray units t) && is_fine one.answer (any_entered units t) (any_full units t) (any_run units t) x g)) busy_two
    ∙ by_answer t units stand one.answer (answers receipts notes t) (has_run_there units receipts t && are_right units notes t) a.1
