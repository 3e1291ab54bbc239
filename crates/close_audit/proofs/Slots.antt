-- How what is told changes the tally of one ticket, and no other.
use Rattle.std.proofs.Common.{◌≡◌, ◌≢◌, ℕ, zero, suc, ◌<◌, ◌≤◌, Bool, true, false, ◌&&◌, cond, eqb, List, [], ◌∷◌, length, get_or, set, Option, Some, None, is_some, refl, sym, ap, ◌∙◌, arith, ◌⊎◌, inl, inr, Vec}
use Rattle.std.proofs.lemmas.Option.{slice_get_read, slice_get_past}
use Rattle.std.proofs.lemmas.Bool.{eqb-true}
use Rattle.std.specs.Prelude.{slice_get}
use Rattle.std.specs.Option.{option_map}
use Rattle.std.specs.declared.alloc.Global.{Global}
use Rattle.ring_core.specs.declared.log.Ticket.{Ticket}
use Rattle.close_audit.specs.declared.tally.Fact.{Fact}
use Rattle.close_audit.specs.declared.tally.Tally.{Tally}
use Rattle.close_audit.specs.Inner.Tallies.{after, marking, tally_in, tally_at}

-- one number is another, by the test
pub same_or_other : (i j : ℕ) → ((i ≡ j) × (eqb i j ≡ true)) ⊎ ((i ≢ j) × (eqb i j ≡ false))
same_or_other i j = elim (eqb i j) as (λ b. (eqb i j ≡ b) → ((i ≡ j) × (b ≡ true)) ⊎ ((i ≢ j) × (b ≡ false))) [
  | true ↦ λ e. inl (eqb-true i j e, refl)
  | false ↦ λ e. inr (grind (arith, eqb-true), refl)
] refl

set_same : {X : Type 0} (xs : List X) (i : ℕ) (v : X) → i < length xs → slice_get (set xs i v) i ≡ Some v
set_same [] i v lt = absurd (omega arith)
set_same (x ∷ xs) zero v lt = refl
set_same (x ∷ xs) (suc i) v lt = set_same xs i v (omega arith)

set_other : {X : Type 0} (xs : List X) (i j : ℕ) (v : X) → i ≢ j → slice_get (set xs i v) j ≡ slice_get xs j
set_other [] i j v ne = refl
set_other (x ∷ xs) zero zero v ne = absurd (ne refl)
set_other (x ∷ xs) zero (suc j) v ne = refl
set_other (x ∷ xs) (suc i) zero v ne = refl
set_other (x ∷ xs) (suc i) (suc j) v ne = set_other xs i j v (λ e. ne (ap suc e))

pub map_same : {X : Type 0} (o : Option X) → o ≡ option_map (λ (s : X). s) o
map_same None = refl
map_same (Some x) = refl

abbrev marked_at : ℕ → Fact → ℕ → Tally → Tally
marked_at i m n s = cond (eqb i n) (after m s) s

unmarked : (i : ℕ) (m : Fact) (n : ℕ) (o : Option Tally) → eqb i n ≡ false → o ≡ option_map (marked_at i m n) o
unmarked i m n None e = refl
unmarked i m n (Some s) e = ap (λ b. Some (cond b (after m s) s)) (sym e)

pub mark_set : (xs : List Tally) (i : ℕ) (m : Fact) (x v : Tally) → i < length xs → x ≡ get_or xs i x → v ≡ after m x
    → (n : ℕ) → slice_get (set xs i v) n ≡ option_map (marked_at i m n) (slice_get xs n)
mark_set xs i m x v lt is e n =
    elim (same_or_other i n) [
      | inl q ↦
          ap (λ k. slice_get (set xs i v) k) (sym q.0) ∙ set_same xs i v lt ∙ ap (λ s. Some s) e
          ∙ ap (λ b. Some (cond b (after m x) x)) (sym q.1)
          ∙ ap (option_map (marked_at i m n)) (sym (ap (λ k. slice_get xs k) (sym q.0) ∙ slice_get_read xs (length xs) i x refl lt is))
      | inr q ↦ set_other xs i n v q.0 ∙ unmarked i m n (slice_get xs n) q.1
    ]

pub mark_past : (xs : List Tally) (i : ℕ) (m : Fact) → length xs ≤ i → (n : ℕ) → slice_get xs n ≡ option_map (marked_at i m n) (slice_get xs n)
mark_past xs i m le n =
    elim (same_or_other i n) [
      | inl q ↦ let e : slice_get xs n ≡ None = ap (λ k. slice_get xs k) (sym q.0) ∙ slice_get_past xs i le in e ∙ sym (ap (option_map (marked_at i m n)) e)
      | inr q ↦ unmarked i m n (slice_get xs n) q.1
    ]

pub none_past : {X : Type 0} (xs : List X) (i : ℕ) → length xs ≤ i → false ≡ is_some (slice_get xs i)
none_past xs i le = ap is_some (sym (slice_get_past xs i le))

another : (u t : Ticket) (m : Fact) (o : Option Tally) → (eqb u.queue t.queue && eqb u.number t.number) ≡ false → o ≡ option_map (marking u m t) o
another u t m None e = refl
another u t m (Some s) e = ap (λ b. Some (cond b (after m s) s)) (sym e)

module _ (tables : List (Vec Tally Global)) (u : Ticket) (m : Fact) where
  pub tables_marked : (table new : Vec Tally Global) → u.queue < length tables → table ≡ get_or tables u.queue table
      → ((n : ℕ) → slice_get new.items n ≡ option_map (marked_at u.number m n) (slice_get table.items n))
      → (t : Ticket) → tally_at (set tables u.queue new) t ≡ option_map (marking u m t) (tally_at tables t)
  tables_marked table new lt is marks t =
      elim (same_or_other u.queue t.queue) [
        | inl q ↦
            ap (λ o. tally_in o t.number) (ap (λ k. slice_get (set tables u.queue new) k) (sym q.0) ∙ set_same tables u.queue new lt)
            ∙ marks t.number
            ∙ ap (λ b. option_map (λ (s : Tally). cond (b && eqb u.number t.number) (after m s) s) (slice_get table.items t.number)) (sym q.1)
            ∙ ap (λ o. option_map (marking u m t) (tally_in o t.number)) (sym (ap (λ k. slice_get tables k) (sym q.0) ∙ slice_get_read tables (length tables) u.queue table refl lt is))
        | inr q ↦
            ap (λ o. tally_in o t.number) (set_other tables u.queue t.queue new q.0)
            ∙ another u t m (tally_at tables t) (ap (λ b. b && eqb u.number t.number) q.1)
      ]

  pub tables_past : length tables ≤ u.queue → (t : Ticket) → tally_at tables t ≡ option_map (marking u m t) (tally_at tables t)
  tables_past le t =
      elim (same_or_other u.queue t.queue) [
        | inl q ↦
            let e : tally_at tables t ≡ None = ap (λ o. tally_in o t.number) (ap (λ k. slice_get tables k) (sym q.0) ∙ slice_get_past tables u.queue le) in
            e ∙ sym (ap (option_map (marking u m t)) e)
        | inr q ↦ another u t m (tally_at tables t) (ap (λ b. b && eqb u.number t.number) q.1)
      ]

  pub unknown_past : length tables ≤ u.queue → false ≡ is_some (tally_at tables u)
  unknown_past le = ap (λ o. is_some (tally_in o u.number)) (sym (slice_get_past tables u.queue le))

  pub known_there : (table : Vec Tally Global) (known : Bool) → u.queue < length tables → table ≡ get_or tables u.queue table
      → known ≡ is_some (slice_get table.items u.number) → known ≡ is_some (tally_at tables u)
  known_there table known lt is e = e ∙ ap (λ o. is_some (tally_in o u.number)) (sym (slice_get_read tables (length tables) u.queue table refl lt is))
