-- What holds of the items that were looked at so far.
use Rattle.std.proofs.Common.{◌≡◌, ℕ, zero, suc, ◌+◌, ◌<◌, ◌≤◌, Bool, true, false, not, ◌&&◌, ◌||◌, cond, List, [], ◌∷◌, length, take, get_or, Option, Some, None, is_some, refl, sym, ap, subst, ◌∙◌, arith, ◌⊎◌, inl, inr, Vec}
use Rattle.std.proofs.lemmas.List.Folds.{list_any_more}
use Rattle.std.proofs.lemmas.Option.{same_Some, slice_get_within, slice_get_read}
use Rattle.std.specs.Prelude.{slice_get}
use Rattle.std.specs.List.{list_any}
use Rattle.std.specs.declared.alloc.Global.{Global}
use Rattle.ring_core.specs.declared.log.Ticket.{Ticket}
use Rattle.unit_model.specs.Tasks.{same_ticket}
use Rattle.unit_model.specs.Receipts.{Receipt}
use Rattle.unit_model.proofs.Tickets.{same-true, itself}
use Rattle.unit_model.specs.Unit.{PlainUnit}
use Rattle.close_audit.specs.declared.tally.Tally.{Tally}
use Rattle.close_audit.specs.Words.{is_before}
use Rattle.close_audit.specs.Closed.{IsFirst, IsConfirmedBy}
use Rattle.close_audit.specs.Inner.Tallies.{tally_at, lesser_of}
use Rattle.close_audit.specs.Inner.Sources.{stray, stray_one}
use Rattle.close_audit.specs.Inner.Unconfirmed.{Confirms}
use Rattle.close_audit.specs.Inner.Prefix.{ConfirmsTo}
use Rattle.close_audit.proofs.Bools.{and_false, and_or, is_false, clash}
use Rattle.close_audit.proofs.Firsts.{same_first, lesser_first, before_self, before_trans}

-- a ticket before another is another
pub before_apart : (v u : Ticket) → is_before v u ≡ true → same_ticket u v ≡ false
before_apart v u b =
    is_false (same_ticket u v) (λ q. clash (sym b ∙ ap (λ (z : Ticket). is_before v z) (same-true u v q) ∙ before_self v.queue v.number))

module _ (tables : List (Vec Tally Global)) where
  one_stray : (u : Ticket) (known : Bool) → known ≡ is_some (tally_at tables u)
      → IsFirst (λ t. not (is_some (tally_at tables t)) && same_ticket u t) (stray_one known u)
  one_stray u true e = λ t.
      elim (same_ticket u t) as (λ c. (same_ticket u t ≡ c) → (not (is_some (tally_at tables t)) && c) ≡ false) [
        | true ↦ λ q. ap (λ (z : Ticket). not (is_some (tally_at tables z)) && true) (sym (same-true u t q)) ∙ ap (λ b. not b && true) (sym e)
        | false ↦ λ q. and_false (not (is_some (tally_at tables t)))
      ] refl
  one_stray u false e = (
    ap (λ b. not b && same_ticket u u) (sym e) ∙ itself u,
    λ v b. ap (λ c. not (is_some (tally_at tables v)) && c) (before_apart v u b) ∙ and_false (not (is_some (tally_at tables v))),
  )

  pub stray_start : {A : Type 0} (ticket : A → Ticket) → IsFirst (stray ticket tables []) None
  stray_start ticket = λ t. and_false (not (is_some (tally_at tables t)))

  pub stray_step : {A : Type 0} (ticket : A → Ticket) (xs : List A) (i : ℕ) (d : A) (first : Option Ticket) (known : Bool) → i < length xs
      → known ≡ is_some (tally_at tables (ticket (get_or xs i d))) → IsFirst (stray ticket tables (take i xs)) first
      → IsFirst (stray ticket tables (take (i + 1) xs)) (lesser_of first (stray_one known (ticket (get_or xs i d))))
  stray_step ticket xs i d first known lt e old =
      let u : Ticket = ticket (get_or xs i d) in
      same_first
      (λ t. stray ticket tables (take i xs) t || (not (is_some (tally_at tables t)) && same_ticket u t))
      (stray ticket tables (take (i + 1) xs))
      (lesser_of first (stray_one known u))
      (λ t.
      ap (λ b. not (is_some (tally_at tables t)) && b) (list_any_more (λ a. same_ticket (ticket a) t) xs i d lt)
      ∙ and_or (not (is_some (tally_at tables t))) (list_any (λ a. same_ticket (ticket a) t) (take i xs)) (same_ticket u t))
      (lesser_first (stray ticket tables (take i xs)) (λ t. not (is_some (tally_at tables t)) && same_ticket u t) first (stray_one known u) old (one_stray u known e))

-- what holds of each item so far
abbrev pub EachTo : {X : Type 0} → (X → Type 0) → List X → ℕ → Type 0
EachTo {X} P xs n = (k : ℕ) (x : X) → k < n → slice_get xs k ≡ Some x → P x

item : {X : Type 0} (xs : List X) (k : ℕ) (x y : X) → slice_get xs k ≡ Some x → y ≡ get_or xs k y → y ≡ x
item [] k x y e f = absurd (cc)
item (z ∷ zs) zero x y e f = f ∙ same_Some z x e
item (z ∷ zs) (suc k) x y e f = item zs k x y e f

pub less : (k i : ℕ) → k < i + 1 → (k < i) ⊎ (k ≡ i)
less k i lt = grind arith

pub item_at : {X : Type 0} (xs : List X) (k i : ℕ) (x y : X) → k ≡ i → slice_get xs k ≡ Some x → y ≡ get_or xs i y → y ≡ x
item_at xs k i x y q e f = item xs i x y (subst (λ (n : ℕ). slice_get xs n ≡ Some x) q e) f

pub each_more : {X : Type 0} (P : X → Type 0) (xs : List X) (i : ℕ) (y : X) → EachTo P xs i → y ≡ get_or xs i y → P y → EachTo P xs (i + 1)
each_more P xs i y old is holds k x lt e =
    elim (less k i lt) [
      | inl q ↦ old k x q e
      | inr q ↦ subst P (item_at xs k i x y q e is) holds
    ]

pub each_all : {X : Type 0} (P : X → Type 0) (xs : List X) (n : ℕ) → EachTo P xs n → length xs ≤ n → (k : ℕ) (x : X) → slice_get xs k ≡ Some x → P x
each_all P xs n old le k x e = let lt = slice_get_within xs k x e in old k x (omega arith) e

slice_get_here : {X : Type 0} (xs : List X) (i : ℕ) (y : X) → i < length xs → y ≡ get_or xs i y → slice_get xs i ≡ Some y
slice_get_here xs i y lt is = slice_get_read xs (length xs) i y refl lt is

module _ (units : List PlainUnit) (receipts : List Receipt) (i : ℕ) (y : Receipt) (lt : i < length receipts) (is : y ≡ get_or receipts i y) where
  -- the receipt that is looked at stands in the list
  here : slice_get receipts i ≡ Some y
  here = slice_get_here receipts i y lt is

  only_here : (k : ℕ) (c : Receipt) → k ≡ i → slice_get receipts k ≡ Some c → y ≡ c
  only_here k c q e = item_at receipts k i c y q e is

  pub confirms_yes : (r : Option Ticket) → IsConfirmedBy units y → ConfirmsTo units receipts i r → ConfirmsTo units receipts (i + 1) (lesser_of r None)
  confirms_yes None holds old = λ k c b e. elim (less k i b) [ inl q ↦ old k c q e | inr q ↦ subst (IsConfirmedBy units) (only_here k c q e) holds ]
  confirms_yes (Some t) holds old =
      record {
        some = old.some;
        first = λ k c b e a. elim (less k i b) [ inl q ↦ old.first k c q e a | inr q ↦ subst (IsConfirmedBy units) (only_here k c q e) holds ];
      }

  -- the ticket itself isn't before it
  not_itself : (k : ℕ) (c : Receipt) → k ≡ i → slice_get receipts k ≡ Some c → is_before c.ticket y.ticket ≡ true → ⊥
  not_itself k c q e a =
      clash (sym a ∙ ap (λ (z : Receipt). is_before z.ticket y.ticket) (sym (only_here k c q e)) ∙ before_self y.ticket.queue y.ticket.number)

  pub confirms_no : (r : Option Ticket) → (IsConfirmedBy units y → ⊥) → ConfirmsTo units receipts i r
      → ConfirmsTo units receipts (i + 1) (lesser_of r (Some y.ticket))
  confirms_no None lacks old =
      record {
        some = (i, y, here, refl, lacks);
        first = λ k c b e a. elim (less k i b) [ inl q ↦ old k c q e | inr q ↦ absurd (not_itself k c q e a) ];
      }
  confirms_no (Some t) lacks old =
      elim (is_before y.ticket t) as (λ w. (is_before y.ticket t ≡ w) → ConfirmsTo units receipts (i + 1) (cond w (Some y.ticket) (Some t))) [
        | true ↦ λ w.
            record {
              some = (i, y, here, refl, lacks);
              first = λ k c b e a. elim (less k i b) [ inl q ↦ old.first k c q e (before_trans c.ticket y.ticket t a w) | inr q ↦ absurd (not_itself k c q e a) ];
            }
        | false ↦ λ w.
            record {
              some = old.some;
              first = λ k c b e a. elim (less k i b) [
                | inl q ↦ old.first k c q e a
                | inr q ↦ absurd (clash (sym a ∙ ap (λ (z : Receipt). is_before z.ticket t) (sym (only_here k c q e)) ∙ w))
              ];
            }
      ] refl

pub confirms_all : (units : List PlainUnit) (receipts : List Receipt) (i : ℕ) (r : Option Ticket) → length receipts ≤ i → ConfirmsTo units receipts i r → Confirms units receipts r
confirms_all units receipts i None le old = λ k c e. each_all (IsConfirmedBy units) receipts i old le k c e
confirms_all units receipts i (Some t) le old =
    record { some = old.some; first = λ k c e a. let lt = slice_get_within receipts k c e in old.first k c (omega arith) e a }
