-- What makes a ticket outstanding, source by source, and what a report says where nothing does.
use Rattle.std.proofs.Common.{◌≡◌, ◌≢◌, ℕ, zero, suc, ◌+◌, ◌<◌, ◌≤◌, Bool, true, false, not, ◌&&◌, ◌||◌, cond, eqb, ltb, leb, List, [], ◌∷◌, length, get_or, Option, Some, None, is_some, refl, sym, ap, ◌∙◌, arith, inl, inr, Vec}
use Rattle.std.proofs.lemmas.Bool.{eqb-true}
use Rattle.std.proofs.lemmas.Bool.Decides.{nat_tests}
use Rattle.std.proofs.lemmas.Option.{same_Some, slice_get_read}
use Rattle.std.specs.Prelude.{slice_get}
use Rattle.std.specs.List.{list_any}
use Rattle.std.specs.Option.{option_map}
use Rattle.std.specs.declared.alloc.Global.{Global}
use Rattle.ring_core.specs.declared.log.Ticket.{Ticket}
use Rattle.ring_core.specs.Sound.{IsSound, WasUsed, IsLeastOutstanding}
use Rattle.unit_model.specs.Tasks.{same_ticket}
use Rattle.unit_model.specs.Receipts.{Receipt}
use Rattle.unit_model.proofs.Tickets.{same-true, itself}
use Rattle.unit_model.specs.Unit.{PlainUnit}
use Rattle.virtqueue.specs.Queue.{BareQueue}
use Rattle.phases.specs.Notes.{PlainNote}
use Rattle.close_audit.specs.declared.tally.Tally.{Tally}
use Rattle.close_audit.specs.Settled.{is_asked, is_used, uses, is_request, is_settled, count_accepted, any_folded}
use Rattle.close_audit.specs.Closed.{IsFirst, is_outstanding}
use Rattle.close_audit.specs.Inner.Tallies.{tally_at, tally_of, fresh, ends_well, ends_amiss, AreTallies, lesser_of}
use Rattle.close_audit.specs.Inner.Sources.{unused_in, amiss_in, amiss_at, amiss_of, stray}
use Rattle.close_audit.specs.Inner.Unconfirmed.{AllStand}
use Rattle.close_audit.proofs.Bools.{and_true, and_false, and_over, and_or, or_over, or_false, is_false}
use Rattle.close_audit.proofs.Slots.{same_or_other}
use Rattle.close_audit.proofs.Firsts.{same_first, lesser_first, before_in}
use Rattle.close_audit.proofs.Verdict.{ends_settled}

same_off : (u t : Ticket) → (u ≡ t → ⊥) → same_ticket u t ≡ false
same_off u t ne = is_false (same_ticket u t) (λ e. ne (same-true u t e))

none_same : (used : List Ticket) (t : Ticket) → ((k : ℕ) → slice_get used k ≡ Some t → ⊥) → list_any (λ u. same_ticket u t) used ≡ false
none_same [] t none = refl
none_same (u ∷ us) t none =
    ap (λ b. b || list_any (λ u. same_ticket u t) us) (same_off u t (λ e. none 0 (ap (λ (z : Ticket). Some z) e))) ∙ none_same us t (λ k e. none (suc k) e)

some_same : (used : List Ticket) (t : Ticket) (k : ℕ) → slice_get used k ≡ Some t → list_any (λ u. same_ticket u t) used ≡ true
some_same [] t k e = absurd (cc)
some_same (u ∷ us) t zero e =
    ap (λ b. b || list_any (λ u. same_ticket u t) us) (ap (λ (z : Ticket). same_ticket z t) (same_Some u t e) ∙ itself t)
some_same (u ∷ us) t (suc k) e = ap (λ b. same_ticket u t || b) (some_same us t k e) ∙ or_end (same_ticket u t)
  where
    or_end : (a : Bool) → (a || true) ≡ true
    or_end true = refl
    or_end false = refl

-- a ticket of a queue by its number
named : (t : Ticket) (q : ℕ) → eqb t.queue q ≡ true → t ≡ record { queue = q; number = t.number }
named t q e = ap (λ (k : ℕ). record { queue = k; number = t.number }) (eqb-true t.queue q e)

same_number : (q : ℕ) → eqb q q ≡ true
same_number q = grind (arith, nat_tests)

below : (m n : ℕ) → ltb m n ≡ true → m < n
below m n e = grind (arith, nat_tests)

above : (m n : ℕ) → m < n → ltb m n ≡ true
above m n e = grind (arith, nat_tests)

module _ (queue_index : ℕ) (q : BareQueue) (sound : IsSound q.ring) where
  -- by whether the ticket is of the index, and accepted
  unused_off : (t : Ticket) → (eqb t.queue queue_index ≡ true → t.number < length q.ring.log.accepted → list_any (λ u. same_ticket u t) q.ring.log.used ≡ true)
      → unused_in queue_index q t ≡ false
  unused_off t f =
      (elim (eqb t.queue queue_index) as (λ b. (eqb t.queue queue_index ≡ b) → (b && (ltb t.number (length q.ring.log.accepted) && not (list_any (λ u. same_ticket u t) q.ring.log.used))) ≡ false) [
        | true ↦ λ e.
            (elim (ltb t.number (length q.ring.log.accepted)) as (λ b. (ltb t.number (length q.ring.log.accepted) ≡ b) → (b && not (list_any (λ u. same_ticket u t) q.ring.log.used)) ≡ false) [
              | true ↦ λ g. ap not (f e (below t.number (length q.ring.log.accepted) g))
              | false ↦ λ g. refl
            ]) refl
        | false ↦ λ e. refl
      ]) refl

  pub unused_elsewhere : (r : Option Ticket) → q.ring.queue ≢ queue_index → IsFirst (λ t. eqb t.queue queue_index && ltb t.number (length q.ring.log.accepted)) r → IsFirst (unused_in queue_index q) r
  unused_elsewhere r ne is =
      same_first (λ t. eqb t.queue queue_index && ltb t.number (length q.ring.log.accepted)) (unused_in queue_index q) r
      (λ t. (elim (eqb t.queue queue_index) as (λ b. (eqb t.queue queue_index ≡ b)
      → (b && (ltb t.number (length q.ring.log.accepted) && not (list_any (λ u. same_ticket u t) q.ring.log.used))) ≡ (b && ltb t.number (length q.ring.log.accepted))) [
        | true ↦ λ e.
            ap (λ b. ltb t.number (length q.ring.log.accepted) && not b)
            (none_same q.ring.log.used t (λ k at. ne (sym (sound.lawful.used_accepted k t at).0 ∙ eqb-true t.queue queue_index e)))
            ∙ and_true (ltb t.number (length q.ring.log.accepted))
        | false ↦ λ e. refl
      ]) refl)
      is

  module _ (same : q.ring.queue ≡ queue_index) where
    was_used : (t : Ticket) → eqb t.queue queue_index ≡ true → WasUsed q.ring t.number → list_any (λ u. same_ticket u t) q.ring.log.used ≡ true
    was_used t e used =
        some_same q.ring.log.used t used.0 (used.1 ∙ ap (λ (z : Ticket). Some z) (sym (named t q.ring.queue (ap (λ k. eqb t.queue k) same ∙ e))))

    pub unused_none : IsLeastOutstanding q.ring None → (t : Ticket) → unused_in queue_index q t ≡ false
    unused_none least t = unused_off t (λ e lt. was_used t e (least t.number lt))

    pub unused_some : (n : ℕ) → IsLeastOutstanding q.ring (Some n) → IsFirst (unused_in queue_index q) (Some (record { queue = queue_index; number = n }))
    unused_some n least =
        let t : Ticket = record { queue = queue_index; number = n } in
        let fresh_one : list_any (λ u. same_ticket u t) q.ring.log.used ≡ false =
        none_same q.ring.log.used t (λ k at. least.1 (k, at ∙ ap (λ (z : ℕ). Some (record { queue = z; number = n })) (sym same))) in (
          ap (λ b. b && (ltb n (length q.ring.log.accepted) && not (list_any (λ u. same_ticket u t) q.ring.log.used))) (same_number queue_index)
              ∙ ap (λ b. b && not (list_any (λ u. same_ticket u t) q.ring.log.used)) (above n (length q.ring.log.accepted) least.0)
              ∙ ap not fresh_one,
          λ u b. unused_off u (λ e lt. was_used u e (least.2 u.number (before_in u.queue u.number queue_index n b e))),
        )

-- one queue more
module _ (queues : List BareQueue) (folded : Bool) (tables : List (Vec Tally Global)) (i : ℕ) (q : BareQueue) (lt : i < length queues) (is : q ≡ get_or queues i q) where
  there : slice_get queues i ≡ Some q
  there = slice_get_read queues (length queues) i q refl lt is

  not_of : (k : ℕ) (t : Ticket) → eqb t.queue k ≡ false → amiss_in k q folded tables t ≡ false
  not_of k t e =
      ap (λ b. (not (eqb k 1) && (b && (ltb t.number (length q.ring.log.accepted) && not (list_any (λ u. same_ticket u t) q.ring.log.used))))
      || (b && (ltb t.number (length q.ring.log.accepted) && ends_amiss folded (tally_at tables t)))) e
      ∙ ap (λ b. b || false) (and_false (not (eqb k 1)))

  by_place : (t : Ticket) → (ltb t.queue (i + 1) && amiss_of queues folded tables t) ≡ ((ltb t.queue i && amiss_of queues folded tables t) || amiss_in i q folded tables t)
  by_place t =
      elim (same_or_other t.queue i) [
        | inl e ↦
            let at : amiss_of queues folded tables t ≡ amiss_in i q folded tables t =
            ap (λ (k : ℕ). amiss_at (slice_get queues k) folded tables t) e.0 ∙ ap (λ (o : Option BareQueue). amiss_at o folded tables t) there ∙ ap (λ (k : ℕ). amiss_in k q folded tables t) e.0 in
            ap (λ b. b && amiss_of queues folded tables t) (last_in t.queue i e.0) ∙ at
            ∙ sym (ap (λ b. (b && amiss_of queues folded tables t) || amiss_in i q folded tables t) (last_out t.queue i e.0))
        | inr e ↦
            ap (λ b. b && amiss_of queues folded tables t) (other_in t.queue i e.0)
            ∙ sym (or_false (ltb t.queue i && amiss_of queues folded tables t))
            ∙ ap (λ b. (ltb t.queue i && amiss_of queues folded tables t) || b) (sym (not_of i t e.1))
      ]
    where
      last_in : (a b : ℕ) → a ≡ b → ltb a (b + 1) ≡ true
      last_in a b e = grind (arith, nat_tests)

      last_out : (a b : ℕ) → a ≡ b → ltb a b ≡ false
      last_out a b e = grind (arith, nat_tests)

      other_in : (a b : ℕ) → a ≢ b → ltb a (b + 1) ≡ ltb a b
      other_in a b e = grind (arith, nat_tests)

  pub one_queue_more : (r s : Option Ticket) → IsFirst (λ t. ltb t.queue i && amiss_of queues folded tables t) r → IsFirst (amiss_in i q folded tables) s
      → IsFirst (λ t. ltb t.queue (i + 1) && amiss_of queues folded tables t) (lesser_of r s)
  one_queue_more r s old new =
      same_first (λ t. (ltb t.queue i && amiss_of queues folded tables t) || amiss_in i q folded tables t) (λ t. ltb t.queue (i + 1) && amiss_of queues folded tables t) (lesser_of r s)
      by_place (lesser_first (λ t. ltb t.queue i && amiss_of queues folded tables t) (amiss_in i q folded tables) r s old new)

past_none : {X : Type 0} (xs : List X) (k : ℕ) → length xs ≤ k → slice_get xs k ≡ None
past_none [] k le = refl
past_none (x ∷ xs) zero le = absurd (omega arith)
past_none (x ∷ xs) (suc k) le = past_none xs k (omega arith)

pub all_queues : (queues : List BareQueue) (folded : Bool) (tables : List (Vec Tally Global)) (i : ℕ) (r : Option Ticket) → length queues ≤ i
    → IsFirst (λ t. ltb t.queue i && amiss_of queues folded tables t) r → IsFirst (amiss_of queues folded tables) r
all_queues queues folded tables i r le is =
    same_first (λ t. ltb t.queue i && amiss_of queues folded tables t) (amiss_of queues folded tables) r
    (λ t. (elim (ltb t.queue i) as (λ b. (ltb t.queue i ≡ b) → amiss_of queues folded tables t ≡ (b && amiss_of queues folded tables t)) [
      | true ↦ λ e. refl
      | false ↦ λ e. ap (λ (o : Option BareQueue). amiss_at o folded tables t) (past_none queues t.queue (far t.queue i (length queues) e le))
    ]) refl)
    is
  where
    far : (a b c : ℕ) → ltb a b ≡ false → c ≤ b → c ≤ a
    far a b c e le = grind (arith, nat_tests)

-- a tally of each request, once this, this and this was read
pub read_on : (f g h : Tally → Tally) (b : Bool) (o p q r : Option Tally) → o ≡ cond b (Some fresh) None → p ≡ option_map f o → q ≡ option_map g p → r ≡ option_map h q
    → r ≡ cond b (Some (h (g (f fresh)))) None
read_on f g h b o p q r e i j k =
    k ∙ ap (option_map h) (j ∙ ap (option_map g) (i ∙ ap (option_map f) e)) ∙ by_test b
  where
    by_test : (b : Bool) → option_map h (option_map g (option_map f (cond b (Some fresh) None))) ≡ cond b (Some (h (g (f fresh)))) None
    by_test true = refl
    by_test false = refl

-- All sources together:
some_if : (b : Bool) (s : Tally) → is_some (cond b (Some s) None) ≡ b
some_if true s = refl
some_if false s = refl

amiss_if : (g b w : Bool) (s : Tally) → ends_well g s ≡ w → ends_amiss g (cond b (Some s) None) ≡ (b && not w)
amiss_if g true w s e = ap not e
amiss_if g false w s e = refl

none_below : (n : ℕ) → ltb n 0 ≡ false
none_below n = grind (arith, nat_tests)

inner : (a b w : Bool) → (a && ((b && a) && w)) ≡ ((b && a) && w)
inner true b w = refl
inner false true w = refl
inner false false w = refl

module _ (units : List PlainUnit) (queues : List BareQueue) (receipts : List Receipt) (notes : List PlainNote) (stand : AllStand units) where
  abbrev settled_here : Ticket → Bool
  settled_here t = is_settled units receipts notes t

  abbrev folded : Bool
  folded = any_folded units

  module _ (first second last : List (Vec Tally Global)) (t : Ticket)
      (at_first : tally_at first t ≡ cond (is_request queues t) (Some fresh) None)
      (at_second : is_some (tally_at second t) ≡ is_some (tally_at first t))
      (at_last : tally_at last t ≡ cond (is_request queues t) (Some (tally_of units receipts notes t)) None) where
    -- of the queue alone
    abbrev by_queue : Option BareQueue → Bool
    by_queue o = (not (eqb t.queue 1) && ltb t.number (count_accepted o)) && not (uses o t)

    abbrev asked : Bool
    asked = is_asked queues t && not (is_used queues t)

    unsettled_is : ends_amiss folded (tally_at last t) ≡ (is_request queues t && not (settled_here t))
    unsettled_is = ap (ends_amiss folded) at_last ∙ amiss_if folded (is_request queues t) (settled_here t) (tally_of units receipts notes t) (ends_settled units receipts notes t stand)

    queue_is : (o : Option BareQueue) → slice_get queues t.queue ≡ o → amiss_at o folded last t ≡ (by_queue o || (is_request queues t && not (settled_here t)))
    queue_is None e =
        sym (ap (λ (w : Option BareQueue). by_queue None || ((leb 2 t.queue && ltb t.number (count_accepted w)) && not (settled_here t))) e
        ∙ ap (λ b. ((not (eqb t.queue 1) && b) && true) || ((leb 2 t.queue && b) && not (settled_here t))) (none_below t.number)
        ∙ ap (λ b. (b && true) || ((leb 2 t.queue && false) && not (settled_here t))) (and_false (not (eqb t.queue 1)))
        ∙ ap (λ b. b && not (settled_here t)) (and_false (leb 2 t.queue)))
    queue_is (Some q) e =
        let n : ℕ = length q.ring.log.accepted in
        let request : is_request queues t ≡ (leb 2 t.queue && ltb t.number n) = ap (λ (w : Option BareQueue). leb 2 t.queue && ltb t.number (count_accepted w)) e in
        let unsettled : (ltb t.number n && ends_amiss folded (tally_at last t)) ≡ (is_request queues t && not (settled_here t)) =
        ap (λ b. ltb t.number n && b) unsettled_is
        ∙ ap (λ b. ltb t.number n && (b && not (settled_here t))) request
        ∙ inner (ltb t.number n) (leb 2 t.queue) (not (settled_here t))
        ∙ ap (λ b. b && not (settled_here t)) (sym request) in
        ap (λ b. (not (eqb t.queue 1) && (b && (ltb t.number n && not (uses (Some q) t)))) || (b && (ltb t.number n && ends_amiss folded (tally_at last t)))) (same_number t.queue)
        ∙ ap (λ b. (not (eqb t.queue 1) && (ltb t.number n && not (uses (Some q) t))) || b) unsettled
        ∙ ap (λ b. b || (is_request queues t && not (settled_here t))) (sym (and_over (not (eqb t.queue 1)) (ltb t.number n) (not (uses (Some q) t))))

    all_sources : (amiss_of queues folded last t || (stray (λ (c : Receipt). c.ticket) first receipts t || stray (λ (n : PlainNote). n.ticket) second notes t))
        ≡ is_outstanding units queues receipts notes t
    all_sources =
        let known : is_some (tally_at first t) ≡ is_request queues t = ap is_some at_first ∙ some_if (is_request queues t) fresh in
        let by_receipt : Bool = list_any (λ (c : Receipt). same_ticket c.ticket t) receipts in
        let by_note : Bool = list_any (λ (n : PlainNote). same_ticket n.ticket t) notes in
        ap (λ b. b || ((not (is_some (tally_at first t)) && by_receipt) || (not (is_some (tally_at second t)) && by_note))) (queue_is (slice_get queues t.queue) refl)
        ∙ ap (λ b. (asked || (is_request queues t && not (settled_here t))) || ((not b && by_receipt) || (not (is_some (tally_at second t)) && by_note))) known
        ∙ ap (λ b. (asked || (is_request queues t && not (settled_here t))) || ((not (is_request queues t) && by_receipt) || (not b && by_note))) (at_second ∙ known)
        ∙ ap (λ b. (asked || (is_request queues t && not (settled_here t))) || b) (sym (and_or (not (is_request queues t)) by_receipt by_note))
        ∙ or_over asked (is_request queues t && not (settled_here t)) (not (is_request queues t) && (by_receipt || by_note))

  pub found_first : (first second last : List (Vec Tally Global)) (a b c : Option Ticket)
      → AreTallies queues (λ t. fresh) first
      → ((t : Ticket) → is_some (tally_at second t) ≡ is_some (tally_at first t))
      → AreTallies queues (λ t. tally_of units receipts notes t) last
      → IsFirst (amiss_of queues folded last) a → IsFirst (stray (λ (z : Receipt). z.ticket) first receipts) b → IsFirst (stray (λ (z : PlainNote). z.ticket) second notes) c
      → IsFirst (is_outstanding units queues receipts notes) (lesser_of a (lesser_of b c))
  found_first first second last a b c opened kept tallied of_queues of_receipts of_notes =
      same_first
      (λ t. amiss_of queues folded last t || (stray (λ (z : Receipt). z.ticket) first receipts t || stray (λ (z : PlainNote). z.ticket) second notes t))
      (is_outstanding units queues receipts notes) (lesser_of a (lesser_of b c))
      (λ t. sym (all_sources first second last t (opened t) (kept t) (tallied t)))
      (lesser_first (amiss_of queues folded last) (λ t. stray (λ (z : Receipt). z.ticket) first receipts t || stray (λ (z : PlainNote). z.ticket) second notes t) a (lesser_of b c) of_queues
      (lesser_first (stray (λ (z : Receipt). z.ticket) first receipts) (stray (λ (z : PlainNote). z.ticket) second notes) b c of_receipts of_notes))
