-- The weight of tasks.
use Rattle.std.proofs.Common.{◌≡◌, ℕ, ◌+◌, Bool, true, false, cond, List, [], ◌∷◌, ◌++◌, filter, length, Some, None, refl, ◌∙◌, ap, arith}
use Rattle.std.specs.List.{AllByRecursion}
use Rattle.ring_core.specs.declared.log.Ticket.{Ticket}
use Rattle.unit_model.specs.Tasks.{Entry, same_ticket, task_of, without}
use Rattle.unit_model.specs.Weights.{weight, weigh, each_one}
use Rattle.unit_model.proofs.Tickets.{same-true}

weight_append : (p : Ticket → ℕ) (xs ys : List Entry) → weight p (xs ++ ys) ≡ weight p xs + weight p ys
weight_append p [] ys = omega arith
weight_append p (x ∷ xs) ys = let h = weight_append p xs ys in omega (arith, h)

pub weight_push : (p : Ticket → ℕ) (xs : List Entry) (e : Entry) → weight p (xs ++ e ∷ []) ≡ weight p xs + p e.ticket
weight_push p xs e = let h = weight_append p xs (e ∷ []) in omega (arith, h)

pub weigh_append : (p : Ticket → ℕ) (q : Entry → Bool) (xs ys : List Entry) → weigh p q (xs ++ ys) ≡ weigh p q xs + weigh p q ys
weigh_append p q [] ys = omega arith
weigh_append p q (x ∷ xs) ys = let h = weigh_append p q xs ys in omega (arith, h)

pub weight_filter : (p : Ticket → ℕ) (q : Entry → Bool) (es : List Entry) → weight p (filter q es) ≡ weigh p q es
weight_filter p q [] = refl
weight_filter p q (e ∷ es) =
    elim (q e) as (λ b. weight p (cond b (e ∷ filter q es) (filter q es)) ≡ cond b (p e.ticket) 0 + weigh p q es) [
      | true ↦ ap (λ n. p e.ticket + n) (weight_filter p q es)
      | false ↦ let h = weight_filter p q es in omega (arith, h)
    ]

-- a test that splits in two
pub weigh_split : (p : Ticket → ℕ) (q r s : Entry → Bool) (es : List Entry) → ((e : Entry) (n : ℕ) → cond (q e) n 0 ≡ cond (r e) n 0 + cond (s e) n 0) → weigh p q es ≡ weigh p r es + weigh p s es
weigh_split p q r s [] h = refl
weigh_split p q r s (e ∷ es) h = let rest = weigh_split p q r s es h in let here = h e (p e.ticket) in omega (arith, rest, here)

pub weigh_same : (p : Ticket → ℕ) (q r : Entry → Bool) (es : List Entry) → AllByRecursion (λ e. q e ≡ r e) es → weigh p q es ≡ weigh p r es
weigh_same p q r [] h = refl
weigh_same p q r (e ∷ es) h = let rest = weigh_same p q r es h.1 in let here = ap (λ b. cond b (p e.ticket) 0) h.0 in omega (arith, rest, here)

nothing : {X : Type 0} {x : X} → None ≡ Some x → ⊥
nothing e = cc

-- what fails the test may go
pub weigh_without : (p : Ticket → ℕ) (q : Entry → Bool) (t : Ticket) (es : List Entry) (e : Entry) → task_of t es ≡ Some e → q e ≡ false → weigh p q es ≡ weigh p q (without t es)
weigh_without p q t [] e h off = absurd (nothing h)
weigh_without p q t (x ∷ es) e h off =
    (elim (same_ticket x.ticket t) as (λ b. cond b (Some x) (task_of t es) ≡ Some e → cond (q x) (p x.ticket) 0 + weigh p q es ≡ weigh p q (cond b es (x ∷ without t es))) [
      | true ↦ λ k. let same : x ≡ e = cc in let no = ap (λ b. cond b (p x.ticket) 0) (ap q same ∙ off) in omega (arith, no)
      | false ↦ λ k. let rest = weigh_without p q t es e k off in omega (arith, rest)
    ]) h

-- what leaves takes its weight along
pub weight_without : (p : Ticket → ℕ) (t : Ticket) (es : List Entry) (e : Entry) → task_of t es ≡ Some e
    → weight p es ≡ weight p (without t es) + p t
weight_without p t [] e h = absurd (nothing h)
weight_without p t (x ∷ es) e h =
    (elim (same_ticket x.ticket t) as (λ b. (same_ticket x.ticket t ≡ b) → cond b (Some x) (task_of t es) ≡ Some e → p x.ticket + weight p es ≡ weight p (cond b es (x ∷ without t es)) + p t) [
      | true ↦ λ q k. let same = ap p (same-true x.ticket t q) in omega (arith, same)
      | false ↦ λ q k. let rest = weight_without p t es e k in omega (arith, rest)
    ]) refl h

pub weight_ones : (es : List Entry) → weight each_one es ≡ length es
weight_ones [] = refl
weight_ones (e ∷ es) = let h = weight_ones es in omega (arith, h)
