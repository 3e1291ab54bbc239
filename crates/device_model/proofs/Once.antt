-- Where the logs number their chains, each ticket was accepted at most once.
use Rattle.std.proofs.Common.{◌≡◌, ℕ, ◌+◌, ◌≤◌, ◌&&◌, eqb, Bool, true, false, List, [], ◌∷◌, refl, sym, ◌∙◌, ap, subst, arith, zero, suc, length}
use Rattle.std.specs.List.{sum_by}
use Rattle.std.proofs.lemmas.List.Sums.{sum_by-cons, sum_by_push}
use Rattle.std.proofs.lemmas.Bool.{eqb-true}
use Rattle.std.proofs.Math.Dec.{eqb-suc-zero, eqb-zero-suc, eqb-suc-suc}
use Rattle.ring_core.specs.State.{tickets}
use Rattle.ring_core.specs.declared.log.Ticket.{Ticket}
use Rattle.device_model.specs.World.{PlainWorld, Everywhere}
use Rattle.device_model.specs.Changing.{bit}
use Rattle.device_model.specs.Places.{standing_count, log_accepted, accepted_count, used_count, only}
use Rattle.device_model.proofs.Places.{nothing_counts}

abbrev ticket : ℕ → ℕ → Ticket
ticket i n = record { queue = i; number = n }

-- one more ticket of a queue
counts_more : (t : Ticket) (i n : ℕ)
    → sum_by (only t) (tickets i (suc n)) ≡ sum_by (only t) (tickets i n) + only t (ticket i n)
unfolding tickets
counts_more t i n = sum_by_push (only t) (tickets i n) (ticket i n)

none_yet : (t : Ticket) (i : ℕ) → sum_by (only t) (tickets i zero) ≡ 0
unfolding tickets
none_yet t i = refl

-- a ticket of another queue
not_here : (t : Ticket) (i n : ℕ) → eqb t.queue i ≡ false → sum_by (only t) (tickets i n) ≡ 0
not_here t i zero e = none_yet t i
not_here t i (suc n) e =
    let a = not_here t i n e in
    let b = counts_more t i n in
    let c = ap (λ z. bit (z && eqb t.number n)) e in
    omega (arith, a, b, c)

abbrev UpTo : Ticket → ℕ → ℕ → Type 0
UpTo t i n = (sum_by (only t) (tickets i n) ≤ 1) × (n ≤ t.number → sum_by (only t) (tickets i n) ≡ 0)

weight_at_most : (b : Bool) → bit b ≤ 1
weight_at_most true = omega (arith)
weight_at_most false = omega (arith)

never : (b : Bool) → bit (b && false) ≡ 0
never true = refl
never false = refl

at_most : (t s : Ticket) → only t s ≤ 1
at_most t s = weight_at_most (eqb t.queue s.queue && eqb t.number s.number)

-- a ticket of another number
other : (t : Ticket) (i n : ℕ) → eqb t.number n ≡ false → only t (ticket i n) ≡ 0
other t i n e = ap (λ z. bit (eqb t.queue i && z)) e ∙ never (eqb t.queue i)

-- the next number is that of the ticket, or not
next : (t : Ticket) (i n : ℕ) (b : Bool) → eqb t.number n ≡ b → UpTo t i n → UpTo t i (suc n)
next t i n true e h =
    let is = eqb-true t.number n e in
    let a = h.1 (omega (arith, is)) in
    let b = counts_more t i n in
    let m = at_most t (ticket i n) in
    (omega (arith, a, b, m), λ l. absurd (omega (arith, l, is)))
next t i n false e h =
    let b = counts_more t i n in
    let z = other t i n e in
    (omega (arith, h.0, b, z), λ l. let a = h.1 (omega (arith, l)) in omega (arith, a, b, z))

up_to : (t : Ticket) (i n : ℕ) → UpTo t i n
up_to t i zero = let a = none_yet t i in (omega (arith, a), λ l. a)
up_to t i (suc n) = next t i n (eqb t.number n) refl (up_to t i n)

-- at most one item counts
at_one : {X : Type 0} (f : X → ℕ) (k : ℕ) (xs : List X) → Everywhere (λ i x. f x ≤ 1) xs
    → Everywhere (λ i x. eqb k i ≡ false → f x ≡ 0) xs → sum_by f xs ≤ 1
at_one f k [] h o = omega (arith)
at_one f zero (x ∷ xs) h o =
    let a = h 0 x refl in
    let b = nothing_counts f xs (λ i y at. o (suc i) y at (eqb-zero-suc i)) in
    let c = sum_by-cons f x xs in
    omega (arith, a, b, c)
at_one f (suc k) (x ∷ xs) h o =
    let a = o 0 x refl (eqb-suc-zero k) in
    let b = at_one f k xs (λ i y at. h (suc i) y at) (λ i y at e. o (suc i) y at (eqb-suc-suc k i ∙ e)) in
    let c = sum_by-cons f x xs in
    omega (arith, a, b, c)

pub accepted_once : (t : Ticket) (w : PlainWorld)
    → Everywhere (λ i q. q.ring.log.accepted ≡ tickets i (length q.ring.log.accepted)) w.queues
    → accepted_count (only t) w ≤ 1
accepted_once t w h =
    at_one (log_accepted (only t)) t.queue w.queues
    (λ i q at. subst (λ l. sum_by (only t) l ≤ 1) (sym (h i q at)) (up_to t i (length q.ring.log.accepted)).0)
    (λ i q at e. ap (λ l. sum_by (only t) l) (h i q at) ∙ not_here t i (length q.ring.log.accepted) e)

pub once : (t : Ticket) (w : PlainWorld) → accepted_count (only t) w ≡ standing_count (only t) w + used_count (only t) w
    → Everywhere (λ i q. q.ring.log.accepted ≡ tickets i (length q.ring.log.accepted)) w.queues
    → standing_count (only t) w + used_count (only t) w ≤ 1
once t w b h = let a = accepted_once t w h in omega (arith, a, b)
