-- The test of tickets.
use Rattle.std.proofs.Common.{◌≡◌, ℕ, Bool, true, false, ◌&&◌, ◌||◌, eqb, refl, sym, ◌∙◌, ap, eq-eqb}
use Rattle.std.proofs.lemmas.Bool.{eqb-true}
use Rattle.ring_core.specs.declared.log.Ticket.{Ticket}
use Rattle.unit_model.specs.Tasks.{same_ticket}

and_left : (a b : Bool) → (a && b) ≡ true → a ≡ true
and_left true b h = refl
and_left false b h = absurd (cc)

and_right : (a b : Bool) → (a && b) ≡ true → b ≡ true
and_right true b h = h
and_right false b h = absurd (cc)

abbrev both : ℕ → ℕ → Ticket
both q n = record { queue = q; number = n }

joined : (q r m n : ℕ) → q ≡ r → m ≡ n → both q m ≡ both r n
joined q r m n e f = cc

pub same-true : (a b : Ticket) → same_ticket a b ≡ true → a ≡ b
same-true a b h =
    joined a.queue b.queue a.number b.number (eqb-true a.queue b.queue (and_left (eqb a.queue b.queue) (eqb a.number b.number) h)) (eqb-true a.number b.number (and_right (eqb a.queue b.queue) (eqb a.number b.number) h))

pub eq-same : (a b : Ticket) → a ≡ b → same_ticket a b ≡ true
eq-same a b e =
    ap (λ c. c && eqb a.number b.number) (eq-eqb a.queue b.queue (ap (λ (t : Ticket). t.queue) e)) ∙ eq-eqb a.number b.number (ap (λ (t : Ticket). t.number) e)

pub itself : (t : Ticket) → same_ticket t t ≡ true
itself t = eq-same t t refl

pub clash : true ≡ false → ⊥
clash e = cc

pub apart : (a b : Ticket) → same_ticket a b ≡ false → same_ticket b a ≡ false
apart a b h =
    elim (same_ticket b a) as (λ c. (same_ticket b a ≡ c) → c ≡ false) [ true ↦ λ k. absurd (clash (sym (eq-same a b (sym (same-true b a k))) ∙ h)) | false ↦ λ k. refl ] refl

pub left_off : (a b : Bool) → (a || b) ≡ false → a ≡ false
left_off true b h = cc
left_off false b h = refl

pub right_off : (a b : Bool) → (a || b) ≡ false → b ≡ false
right_off true b h = cc
right_off false b h = h

pub or_right : (a b : Bool) → b ≡ true → (a || b) ≡ true
or_right true b h = refl
or_right false b h = h
