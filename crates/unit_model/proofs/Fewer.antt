-- Where a task is alive, fewer are parked than alive.
use Rattle.std.proofs.Common.{◌≡◌, ℕ, ◌+◌, ◌<◌, ◌≤◌, Bool, true, false, not, ◌||◌, ◌&&◌, cond, List, [], ◌∷◌, is_some, refl, sym, ◌∙◌, ap, arith}
use Rattle.std.specs.List.{list_any}
use Rattle.ring_core.specs.declared.log.Ticket.{Ticket}
use Rattle.unit_model.specs.Tasks.{Entry, task_of, any_task, is_blocked}
use Rattle.unit_model.specs.Steps.{Step, alive, has_entered}
use Rattle.unit_model.specs.Marks.{marked}
use Rattle.unit_model.specs.Enabling.{enabled, is_parked}
use Rattle.unit_model.specs.Weights.{weight, weigh, parked_count, alive_count, each_one}
use Rattle.unit_model.proofs.Tickets.{clash}
use Rattle.unit_model.proofs.Fresh.{fresh, none_of}
use Rattle.unit_model.proofs.Clearing.{Each, each_map, all_found}
use Rattle.unit_model.proofs.Progress.{some_free}

few : (q : Entry → Bool) (es : List Entry) → weigh each_one q es ≤ weight each_one es
few q [] = omega arith
few q (e ∷ es) =
    let h = few q es in
    elim (q e) as (λ b. cond b 1 0 + weigh each_one q es ≤ 1 + weight each_one es) [ true ↦ omega (arith, h) | false ↦ omega (arith, h) ]

abbrev bit : Bool → ℕ
bit b = cond b 1 0

-- where one passes, and none that passes is counted, fewer are counted
fewer : (q r : Entry → Bool) (es : List Entry) → Each (λ e. q e ≡ true → r e ≡ false) es → list_any q es ≡ true
    → weigh each_one r es < weight each_one es
fewer q r [] off h = absurd (let e : false ≡ true = h in cc)
fewer q r (e ∷ es) off h =
    (elim (q e) as (λ b. (q e ≡ b) → (b || list_any q es) ≡ true → cond (r e) 1 0 + weigh each_one r es < 1 + weight each_one es) [
      | true ↦ λ k s. let here = ap bit (off.0 k) in let rest = few r es in omega (arith, here, rest)
      | false ↦ λ k s. let rest = fewer q r es off.1 s in elim (r e) as (λ b. cond b 1 0 + weigh each_one r es < 1 + weight each_one es) [ true ↦ omega (arith, rest) | false ↦ omega (arith, rest) ]
    ]) refl h

found_entered : (t : Ticket) (h : List Step) → is_some (task_of t (alive h)) ≡ true → has_entered t h ≡ true
found_entered t h k =
    elim (has_entered t h) as (λ b. (has_entered t h ≡ b) → b ≡ true) [
      | true ↦ λ q. refl
      | false ↦ λ q. absurd (clash (sym k ∙ ap (λ x. is_some x) (none_of t (alive h) (fresh t h q))))
    ] refl

-- what is alive has entered
pub all_entered : (h : List Step) → Each (λ e. has_entered e.ticket h ≡ true) (alive h)
all_entered h = each_map (λ e. is_some (task_of e.ticket (alive h)) ≡ true) (λ e. has_entered e.ticket h ≡ true) (alive h) (λ e k. found_entered e.ticket h k) (all_found (alive h))

free_out : (a n b m : Bool) → n ≡ true → b ≡ true → (not (a || (n && b)) && not m) ≡ false
free_out true n b m h k = refl
free_out false n b m h k = ap (λ c. not (c && b) && not m) h ∙ ap (λ c. not c && not m) k

pub parked_fewer : (h : List Step) → any_task (alive h) ≡ true → parked_count each_one h < alive_count each_one h
parked_fewer [] k = absurd (let e : false ≡ true = k in cc)
parked_fewer (s ∷ past) k =
    let h = s ∷ past in
    fewer (λ e. not (is_blocked e (alive h))) (is_parked h) (alive h)
    (each_map (λ e. has_entered e.ticket h ≡ true) (λ e. not (is_blocked e (alive h)) ≡ true → is_parked h e ≡ false) (alive h)
    (λ e n on. free_out (enabled e past) (has_entered e.ticket h) (not (is_blocked e (alive h))) (marked e.ticket h) n on) (all_entered h))
    (some_free (alive h) k)

-- never more are parked than alive
pub parked_few : (h : List Step) → parked_count each_one h ≤ alive_count each_one h
parked_few h = few (is_parked h) (alive h)
