-- Lists of tasks of which those that fail a test went.
use Rattle.std.proofs.Common.{◌≡◌, Bool, true, false, not, ◌&&◌, ◌||◌, cond, List, [], ◌∷◌, filter, Some, None, is_some, refl, sym, ◌∙◌, ap}
use Rattle.std.specs.List.{list_any, list_all}
use Rattle.ring_core.specs.declared.log.Ticket.{Ticket}
use Rattle.unit_model.specs.Tasks.{Entry, same_ticket, task_of, without, AreDistinct}
use Rattle.unit_model.proofs.Tickets.{same-true, itself, apart}
use Rattle.unit_model.proofs.Clearing.{Each}

nothing : {X : Type 0} {x : X} → None ≡ Some x → ⊥
nothing e = cc

-- what stands in a list isn't the ticket that no task of it has
pub other_head : (t : Ticket) (x : Entry) (es : List Entry) → task_of t (x ∷ es) ≡ None → (same_ticket x.ticket t ≡ false) × (task_of t es ≡ None)
other_head t x es h =
    (elim (same_ticket x.ticket t) as (λ b. (same_ticket x.ticket t ≡ b) → cond b (Some x) (task_of t es) ≡ None → (b ≡ false) × (task_of t es ≡ None)) [
      | true ↦ λ q k. absurd (nothing (sym k))
      | false ↦ λ q k. (refl, k)
    ]) refl h

-- what isn't there isn't among those that pass
pub filter_none : (q : Entry → Bool) (t : Ticket) (es : List Entry) → task_of t es ≡ None → task_of t (filter q es) ≡ None
filter_none q t [] h = refl
filter_none q t (x ∷ es) h =
    let k = other_head t x es h in
    elim (q x) as (λ b. task_of t (cond b (x ∷ filter q es) (filter q es)) ≡ None) [
      | true ↦ ap (λ c. cond c (Some x) (task_of t (filter q es))) k.0 ∙ filter_none q t es k.1
      | false ↦ filter_none q t es k.1
    ]

-- of a ticket, whether its task passes
abbrev Passes : (Entry → Bool) → List Entry → Entry → Type 0
Passes q all e = is_some (task_of e.ticket (filter q all)) ≡ q e

here_passes : (q : Entry → Bool) (x : Entry) (es : List Entry) → task_of x.ticket es ≡ None → Passes q (x ∷ es) x
here_passes q x es h =
    elim (q x) as (λ b. is_some (task_of x.ticket (cond b (x ∷ filter q es) (filter q es))) ≡ b) [
      | true ↦ ap (λ c. is_some (cond c (Some x) (task_of x.ticket (filter q es)))) (itself x.ticket)
      | false ↦ ap (λ o. is_some o) (filter_none q x.ticket es h)
    ]

-- a task before changes nothing for those of other tickets
behind : (q : Entry → Bool) (x : Entry) (t : Ticket) (es : List Entry) → same_ticket x.ticket t ≡ false → task_of t (filter q (x ∷ es)) ≡ task_of t (filter q es)
behind q x t es ne =
    elim (q x) as (λ b. task_of t (cond b (x ∷ filter q es) (filter q es)) ≡ task_of t (filter q es)) [
      | true ↦ ap (λ c. cond c (Some x) (task_of t (filter q es))) ne
      | false ↦ refl
    ]

rest_pass : (q : Entry → Bool) (x : Entry) (all es : List Entry) → task_of x.ticket es ≡ None → Each (Passes q all) es → Each (Passes q (x ∷ all)) es
rest_pass q x all [] h p = tt
rest_pass q x all (e ∷ es) h p =
    let k = other_head x.ticket e es h in
    (ap (λ o. is_some o) (behind q x e.ticket all (apart e.ticket x.ticket k.0)) ∙ p.0, rest_pass q x all es k.1 p.1)

-- a task stands among those that pass exactly where it passes
pub filter_found : (q : Entry → Bool) (es : List Entry) → AreDistinct es → Each (λ e. is_some (task_of e.ticket (filter q es)) ≡ q e) es
filter_found q [] d = tt
filter_found q (x ∷ es) d = (here_passes q x es d.0, rest_pass q x es es d.0 (filter_found q es d.1))

-- those that pass do
pub each_passes : (q : Entry → Bool) (es : List Entry) → Each (λ e. q e ≡ true) (filter q es)
each_passes q [] = tt
each_passes q (e ∷ es) =
    elim (q e) as (λ b. (q e ≡ b) → Each (λ f. q f ≡ true) (cond b (e ∷ filter q es) (filter q es))) [
      | true ↦ λ k. (k, each_passes q es)
      | false ↦ λ k. each_passes q es
    ] refl

-- tests that agree keep the same
pub filter_same : (q r : Entry → Bool) (es : List Entry) → Each (λ e. q e ≡ r e) es → filter q es ≡ filter r es
filter_same q r [] h = refl
filter_same q r (e ∷ es) h = ap (λ b. cond b (e ∷ filter q es) (filter q es)) h.0 ∙ ap (λ w. cond (r e) (e ∷ w) w) (filter_same q r es h.1)

-- one test after another is both
pub filter_twice : (q r : Entry → Bool) (es : List Entry) → filter r (filter q es) ≡ filter (λ e. q e && r e) es
filter_twice q r [] = refl
filter_twice q r (e ∷ es) =
    elim (q e) as (λ b. filter r (cond b (e ∷ filter q es) (filter q es)) ≡ cond (b && r e) (e ∷ filter (λ f. q f && r f) es) (filter (λ f. q f && r f) es)) [
      | true ↦ ap (λ w. cond (r e) (e ∷ w) w) (filter_twice q r es)
      | false ↦ filter_twice q r es
    ]

all_others : (t : Ticket) (es : List Entry) → task_of t es ≡ None → Each (λ e. not (same_ticket e.ticket t) ≡ true) es
all_others t [] h = tt
all_others t (e ∷ es) h = let k = other_head t e es h in (ap not k.0, all_others t es k.1)

kept : (q : Entry → Bool) (es : List Entry) → Each (λ e. q e ≡ true) es → filter q es ≡ es
kept q [] h = refl
kept q (e ∷ es) h = ap (λ b. cond b (e ∷ filter q es) (filter q es)) h.0 ∙ ap (λ w. e ∷ w) (kept q es h.1)

-- where no ticket stands twice, the tasks but that of a ticket are those of other tickets
pub without_filter : (t : Ticket) (es : List Entry) → AreDistinct es → without t es ≡ filter (λ e. not (same_ticket e.ticket t)) es
without_filter t [] d = refl
without_filter t (e ∷ es) d =
    elim (same_ticket e.ticket t) as (λ b. (same_ticket e.ticket t ≡ b) → cond b es (e ∷ without t es) ≡ cond (not b) (e ∷ filter (λ f. not (same_ticket f.ticket t)) es) (filter (λ f. not (same_ticket f.ticket t)) es)) [
      | true ↦ λ k. sym (kept (λ f. not (same_ticket f.ticket t)) es (all_others t es (ap (λ n. task_of n es) (sym (same-true e.ticket t k)) ∙ d.0)))
      | false ↦ λ k. ap (λ w. e ∷ w) (without_filter t es d.1)
    ] refl

-- whether one passes
pub any_filter : (q : Entry → Bool) (es : List Entry) → list_any q es ≡ list_any (λ e. true) (filter q es)
any_filter q [] = refl
any_filter q (e ∷ es) =
    elim (q e) as (λ b. (b || list_any q es) ≡ list_any (λ f. true) (cond b (e ∷ filter q es) (filter q es))) [ true ↦ refl | false ↦ any_filter q es ]

neither : (a b : Bool) → (not a && not b) ≡ not (a || b)
neither true b = refl
neither false b = refl

-- none passes
pub all_not : (q : Entry → Bool) (es : List Entry) → list_all (λ e. not (q e)) es ≡ not (list_any q es)
all_not q [] = refl
all_not q (e ∷ es) = ap (λ b. not (q e) && b) (all_not q es) ∙ neither (q e) (list_any q es)
