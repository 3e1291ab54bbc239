-- The steps of a queue keep what is true of every queue.
use Rattle.std.proofs.Common.{◌≡◌, ◌≢◌, ℕ, zero, suc, ◌+◌, ◌<◌, List, [], ◌∷◌, ◌++◌, length, get_or, set, cond, Option, Some, None, refl, sym, ap, ◌∙◌, subst, arith, sum_by, is_some, replicate, length-append, ◌⊎◌, inl, inr}
use Rattle.std.proofs.lemmas.Grind.{common_steps}
use Rattle.std.proofs.lemmas.Option.{gets, same_Some}
use Rattle.std.proofs.lemmas.List.{get_or-set_same, get_or-set_other, length-set, ext_get_or}
use Rattle.std.proofs.lemmas.List.Sums.{sum_by-set}
use Rattle.std.specs.Prelude.{slice_get}
use Rattle.ring_core.specs.State.{RingState, Log, PlainChain, Owns, IsLawful, under, next_ticket, accepting, using, breaking, tickets, opening}
use Rattle.ring_core.specs.Sound.{IsSound, IsLeastOutstanding, outstanding_count, slots_of}
use Rattle.ring_core.specs.Inner.Table.{IsLeastBelow}
use Rattle.ring_core.specs.declared.log.Ticket.{Ticket}
use Rattle.ring_core.specs.declared.outstanding.OutstandingChain.{OutstandingChain}
use Rattle.ring_core.specs.declared.layout.Form.{Form}
use Rattle.ring_core.specs.declared.layout.Layout.{Layout}
use Rattle.ring_core.specs.declared.layout.Features.{Features}
use Rattle.ring_core.specs.declared.fault.RingFault.{RingFault}
use Rattle.ring_core.specs.declared.fault.RingFault.TheVariants.{NoMemory}

-- an element of a list with one more at its end
pub at_push : {X : Type 0} (xs : List X) (y : X) (k : ℕ) (x : X) → slice_get (xs ++ y ∷ []) k ≡ Some x → (slice_get xs k ≡ Some x) ⊎ ((k ≡ length xs) × (x ≡ y))
at_push xs y k x e = grind (arith, common_steps, gets)

-- what is outstanding after a write
pub at_set : (xs : List (Option OutstandingChain)) (i : ℕ) (v : Option OutstandingChain) (j : ℕ) (h : OutstandingChain) → i < length xs → get_or (set xs i v) j None ≡ Some h → ((j ≡ i) × (v ≡ Some h)) ⊎ ((j ≢ i) × (get_or xs j None ≡ Some h))
at_set xs i v j h lt e = grind (arith, common_steps)

pub lawful-accept : (queue : ℕ) (log : Log) → IsLawful queue log → IsLawful queue (record log { accepted = log.accepted ++ record { queue = queue; number = length log.accepted } ∷ [] })
unfolding tickets
lawful-accept queue log l =
    let t : Ticket = record { queue = queue; number = length log.accepted } in
    let e : length (log.accepted ++ t ∷ []) ≡ suc (length log.accepted) = omega (arith, length-append log.accepted (t ∷ [])) in
    record {
      numbered = rw e (ap (λ (xs : List Ticket). xs ++ t ∷ []) l.numbered);
      used_accepted = λ k u p. ((l.used_accepted k u p).0, omega (arith, e, (l.used_accepted k u p).1));
      used_once = l.used_once;
    }

pub lawful-use : (queue : ℕ) (log : Log) (n : ℕ) → IsLawful queue log → n < length log.accepted
    → ((k : ℕ) → slice_get log.used k ≡ Some (record { queue = queue; number = n }) → ⊥)
    → IsLawful queue (record log { used = log.used ++ record { queue = queue; number = n } ∷ [] })
lawful-use queue log n l lt fresh =
    let t : Ticket = record { queue = queue; number = n } in
    record {
      numbered = l.numbered;
      used_accepted = λ k u p. elim (at_push log.used t k u p) [ inl q ↦ l.used_accepted k u q | inr q ↦ rw q.1 (refl, lt) ];
      used_once = λ j k u p q.
          elim (at_push log.used t j u p) [
            | inl a ↦ elim (at_push log.used t k u q) [
              | inl b ↦ l.used_once j k u a b
              | inr b ↦ absurd (fresh j (rw b.1 at a))
            ]
            | inr a ↦ elim (at_push log.used t k u q) [
              | inl b ↦ absurd (fresh k (rw a.1 at b))
              | inr b ↦ a.0 ∙ sym b.0
            ]
          ];
    }

-- an element stays where it is
at_left : {X : Type 0} (xs : List X) (y : X) (k : ℕ) (x : X) → slice_get xs k ≡ Some x → slice_get (xs ++ y ∷ []) k ≡ Some x
at_left xs y k x e = grind (arith, common_steps, gets)

at_end : {X : Type 0} (xs : List X) (y : X) → slice_get (xs ++ y ∷ []) (length xs) ≡ Some y
at_end [] y = refl
at_end (x ∷ xs) y = at_end xs y

same_or_other : (j i : ℕ) → (j ≡ i) ⊎ (j ≢ i)
same_or_other j i = grind arith

below_or_last : (n m : ℕ) → n < m + 1 → (n < m) ⊎ (n ≡ m)
below_or_last n m lt = grind arith

-- what is outstanding elsewhere stays so
elsewhere : (xs : List (Option OutstandingChain)) (i : ℕ) (v : Option OutstandingChain) (j : ℕ) (c : OutstandingChain) → j ≢ i → get_or xs j None ≡ Some c → get_or (set xs i v) j None ≡ Some c
elsewhere xs i v j c other e = get_or-set_other xs i j v None other ∙ e

pub sound-accept : (s : RingState) (id slots : ℕ) → IsSound s → id < length s.outstanding → under s id ≡ None → slots < 65536 → IsSound (accepting s id slots)
sound-accept s id slots sound lt free small =
    let n : ℕ = length s.log.accepted in
    let new : OutstandingChain = record { number = n; slots = slots } in
    let grown : length (s.log.accepted ++ next_ticket s ∷ []) ≡ n + 1 = omega (arith, length-append s.log.accepted (next_ticket s ∷ [])) in
    record {
      lawful = lawful-accept s.queue s.log sound.lawful;
      was_accepted = λ i h e.
          elim (at_set s.outstanding id (Some new) i h lt e) [
            | inl a ↦ let p : n ≡ h.number = cc in omega (arith, p, grown)
            | inr a ↦ omega (arith, grown, sound.was_accepted i h a.1)
          ];
      not_used = λ i h k e u.
          elim (at_set s.outstanding id (Some new) i h lt e) [
            | inl a ↦ let p : n ≡ h.number = cc in let q : h.number < n = (sound.lawful.used_accepted k _ u).1 in omega (arith, p, q)
            | inr a ↦ sound.not_used i h k a.1 u
          ];
      under_one = λ i j h k e f same.
          elim (at_set s.outstanding id (Some new) i h lt e) [
            | inl a ↦ elim (at_set s.outstanding id (Some new) j k lt f) [
              | inl b ↦ a.0 ∙ sym b.0
              | inr b ↦ let p : n ≡ h.number = cc in absurd (omega (arith, p, same, sound.was_accepted j k b.1))
            ]
            | inr a ↦ elim (at_set s.outstanding id (Some new) j k lt f) [
              | inl b ↦ let p : n ≡ k.number = cc in absurd (omega (arith, p, same, sound.was_accepted i h a.1))
              | inr b ↦ sound.under_one i j h k a.1 b.1 same
            ]
          ];
      few_slots = λ i h e.
          elim (at_set s.outstanding id (Some new) i h lt e) [
            | inl a ↦ let p : slots ≡ h.slots = cc in omega (arith, p, small)
            | inr a ↦ sound.few_slots i h a.1
          ];
      accounted = λ m below.
          elim (below_or_last m n (omega (arith, grown, below))) [
            | inl old ↦ elim (sound.accounted m old) [
              | inl used ↦ inl used
              | inr out ↦ elim (same_or_other out.0 id) [
                | inl same ↦ absurd (let gone = ap (λ (i : ℕ). get_or s.outstanding i None) same in let was = out.2 in cc)
                | inr other ↦ inr (out.0, out.1, elsewhere s.outstanding id (Some new) out.0 out.1 other out.2, out.3)
              ]
            ]
            | inr last ↦ inr (id, new, get_or-set_same s.outstanding id (Some new) None lt, sym last)
          ];
      counted =
          let e : outstanding_count (accepting s id slots) + cond (is_some (under s id)) 1 0 ≡ outstanding_count s + 1 = sum_by-set (λ (h : Option OutstandingChain). cond (is_some h) 1 0) s.outstanding id (Some new) None lt in
          let f : outstanding_count (accepting s id slots) + 0 ≡ outstanding_count s + 1 = rw free at e in
          omega (arith, f, grown, sound.counted);
      slots_counted =
          let e : sum_by slots_of (set s.outstanding id (Some new)) + slots_of (under s id) ≡ sum_by slots_of s.outstanding + slots = sum_by-set slots_of s.outstanding id (Some new) None lt in
          let f : sum_by slots_of (set s.outstanding id (Some new)) + 0 ≡ sum_by slots_of s.outstanding + slots = rw free at e in
          omega (arith, f, sound.slots_counted);
      accepted_bounded = omega (arith, grown, small, sound.accepted_bounded);
      used_bounded = sound.used_bounded;
      broken_by_guest = sound.broken_by_guest;
    }

-- what is outstanding stands in the list
pub is_within : (s : RingState) (id : ℕ) (h : OutstandingChain) → under s id ≡ Some h → id < length s.outstanding
is_within s id h e = grind (arith, common_steps)

pub sound-use : (s : RingState) (c : PlainChain) → IsSound s → Owns s c → IsSound (using s c)
sound-use s c sound owns =
    let lt : c.id < length s.outstanding = is_within s c.id _ owns.outstanding in
    let small : c.slots < 65536 = sound.few_slots c.id _ owns.outstanding in
    let mine : OutstandingChain = record { number = c.ticket.number; slots = c.slots } in
    let ticket : c.ticket ≡ record { queue = s.queue; number = c.ticket.number } = ap (λ (q : ℕ). record { queue = q; number = c.ticket.number }) owns.queue in
    let grown : length (s.log.used ++ c.ticket ∷ []) ≡ length s.log.used + 1 = omega (arith, length-append s.log.used (c.ticket ∷ [])) in
    record {
      lawful =
          subst (λ (t : Ticket). IsLawful s.queue (record s.log { used = s.log.used ++ t ∷ [] })) (sym ticket)
          (lawful-use s.queue s.log c.ticket.number sound.lawful (sound.was_accepted c.id mine owns.outstanding) (λ k u. sound.not_used c.id mine k owns.outstanding u));
      was_accepted = λ i h e.
          elim (at_set s.outstanding c.id None i h lt e) [
            | inl a ↦ absurd (cc)
            | inr a ↦ sound.was_accepted i h a.1
          ];
      not_used = λ i h k e u.
          elim (at_set s.outstanding c.id None i h lt e) [
            | inl a ↦ cc
            | inr a ↦ elim (at_push s.log.used c.ticket k _ u) [
              | inl b ↦ sound.not_used i h k a.1 b
              | inr b ↦ a.0 (sound.under_one i c.id h mine a.1 owns.outstanding (ap (λ (t : Ticket). t.number) b.1))
            ]
          ];
      under_one = λ i j h k e f same.
          elim (at_set s.outstanding c.id None i h lt e) [
            | inl a ↦ absurd (cc)
            | inr a ↦ elim (at_set s.outstanding c.id None j k lt f) [
              | inl b ↦ absurd (cc)
              | inr b ↦ sound.under_one i j h k a.1 b.1 same
            ]
          ];
      few_slots = λ i h e.
          elim (at_set s.outstanding c.id None i h lt e) [
            | inl a ↦ absurd (cc)
            | inr a ↦ sound.few_slots i h a.1
          ];
      accounted = λ m below.
          elim (sound.accounted m below) [
            | inl used ↦ inl (used.0, at_left s.log.used c.ticket used.0 _ used.1)
            | inr out ↦ elim (same_or_other out.0 c.id) [
              | inl same ↦
                  let was : Some mine ≡ Some out.1 = sym owns.outstanding ∙ sym (ap (λ (i : ℕ). get_or s.outstanding i None) same) ∙ out.2 in
                  let number : c.ticket.number ≡ m = ap (λ (o : OutstandingChain). o.number) (same_Some mine out.1 was) ∙ out.3 in
                  inl (length s.log.used, at_end s.log.used c.ticket ∙ ap (λ (t : Ticket). Some t) (ticket ∙ ap (λ (k : ℕ). record { queue = s.queue; number = k }) number))
              | inr other ↦ inr (out.0, out.1, elsewhere s.outstanding c.id None out.0 out.1 other out.2, out.3)
            ]
          ];
      counted =
          let e : outstanding_count (using s c) + cond (is_some (under s c.id)) 1 0 ≡ outstanding_count s + 0 = sum_by-set (λ (h : Option OutstandingChain). cond (is_some h) 1 0) s.outstanding c.id None None lt in
          let f : outstanding_count (using s c) + 1 ≡ outstanding_count s + 0 = rw owns.outstanding at e in
          omega (arith, f, grown, sound.counted);
      slots_counted =
          let e : sum_by slots_of (set s.outstanding c.id None) + slots_of (under s c.id) ≡ sum_by slots_of s.outstanding + 0 = sum_by-set slots_of s.outstanding c.id None None lt in
          let f : sum_by slots_of (set s.outstanding c.id None) + c.slots ≡ sum_by slots_of s.outstanding + 0 = rw owns.outstanding at e in
          omega (arith, f, sound.slots_counted);
      accepted_bounded = sound.accepted_bounded;
      used_bounded = omega (arith, grown, small, sound.used_bounded);
      broken_by_guest = sound.broken_by_guest;
    }

-- a chain that is outstanding leaves room in the log
pub room_for_use : (s : RingState) (c : PlainChain) → IsSound s → Owns s c → length s.log.used < length s.log.accepted
room_for_use s c sound owns =
    let lt : c.id < length s.outstanding = is_within s c.id _ owns.outstanding in
    let e : outstanding_count (using s c) + cond (is_some (under s c.id)) 1 0 ≡ outstanding_count s + 0 = sum_by-set (λ (h : Option OutstandingChain). cond (is_some h) 1 0) s.outstanding c.id None None lt in
    let f : outstanding_count (using s c) + 1 ≡ outstanding_count s + 0 = rw owns.outstanding at e in
    omega (arith, f, sound.counted)

-- nothing is outstanding where nothing was put
pub none_there : (n i : ℕ) → get_or {A = Option OutstandingChain} (replicate n None) i None ≡ None
none_there n i = grind (arith, common_steps)

none_counted : (n : ℕ) → sum_by (λ (h : Option OutstandingChain). cond (is_some h) 1 0) (replicate n None) ≡ 0
none_counted zero = refl
none_counted (suc n) = none_counted n

no_slots : (n : ℕ) → sum_by slots_of (replicate n None) ≡ 0
no_slots zero = refl
no_slots (suc n) = no_slots n

pub sound-opening : (form : Form) (queue : ℕ) (layout : Layout) (features : Features) (memory ids : ℕ) → IsSound (opening form queue layout features memory ids)
unfolding tickets opening
sound-opening form queue layout features memory ids =
    record {
      lawful = record { numbered = refl; used_accepted = λ k t e. cc; used_once = λ j k t e f. cc };
      was_accepted = λ i h e. let p = none_there ids i in cc;
      not_used = λ i h k e u. cc;
      under_one = λ i j h k e f same. absurd (let p = none_there ids i in cc);
      few_slots = λ i h e. absurd (let p = none_there ids i in cc);
      accounted = λ m below. absurd (omega (arith, below));
      counted = omega (arith, none_counted ids);
      slots_counted = omega (arith, no_slots ids);
      accepted_bounded = omega arith;
      used_bounded = omega arith;
      broken_by_guest = λ e. cc;
    }

pub sound-break : (s : RingState) (f : RingFault) → IsSound s → (f ≡ NoMemory → ⊥) → IsSound (breaking s f)
sound-break s f sound guest =
    record {
      lawful = sound.lawful;
      was_accepted = sound.was_accepted;
      not_used = sound.not_used;
      under_one = sound.under_one;
      few_slots = sound.few_slots;
      accounted = sound.accounted;
      counted = sound.counted;
      slots_counted = sound.slots_counted;
      accepted_bounded = sound.accepted_bounded;
      used_bounded = sound.used_bounded;
      broken_by_guest = λ e. guest (same_Some f NoMemory e);
    }

-- what was put into a free entry and taken back leaves the list as it was
pub put_back : (xs : List (Option OutstandingChain)) (i : ℕ) (v : Option OutstandingChain) → i < length xs → get_or xs i None ≡ None → set (set xs i v) i None ≡ xs
put_back xs i v lt free =
    ext_get_or None (set (set xs i v) i None) xs (length-set (set xs i v) i None ∙ length-set xs i v) (λ j below.
    elim (same_or_other j i) [
      | inl same ↦ ap (λ (k : ℕ). get_or (set (set xs i v) i None) k None) same ∙ get_or-set_same (set xs i v) i None None (omega (arith, length-set xs i v, lt)) ∙ sym (ap (λ (k : ℕ). get_or xs k None) same ∙ free)
      | inr other ↦ get_or-set_other (set xs i v) i j None None other ∙ get_or-set_other xs i j v None other
    ])

-- the least number of what is outstanding is that of what was accepted and not used
pub least_accounted : (s : RingState) (r : Option ℕ) → IsSound s → IsLeastBelow s.outstanding (length s.outstanding) r → IsLeastOutstanding s r
least_accounted s None sound none = λ n lt.
    elim (sound.accounted n lt) [
      | inl used ↦ used
      | inr out ↦ absurd (let gone = none out.0 (is_within s out.0 out.1 out.2) in let was = out.2 in cc)
    ]
least_accounted s (Some n) sound is =
    let t = is.there in
    let accepted : n < length s.log.accepted = omega (arith, sound.was_accepted t.0 t.1 t.3, t.4) in (
      accepted,
      (λ used. sound.not_used t.0 t.1 used.0 t.3 (used.1 ∙ ap (λ (k : ℕ). Some (record { queue = s.queue; number = k })) (sym t.4))),
      (λ m below.
          elim (sound.accounted m (omega (arith, below, accepted))) [
            | inl used ↦ used
            | inr out ↦ absurd (omega (arith, is.least out.0 out.1 (is_within s out.0 out.1 out.2) out.2, out.3, below))
          ]),
    )
