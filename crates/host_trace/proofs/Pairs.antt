-- A transition of two parts, as a share at each.
use Rattle.std.proofs.Common.{◌≡◌, ℕ, ◌==◌, true, false, List, [], ◌∷◌, Some, refl, sym, ◌∙◌, ap, subst, inl, inr, arith}
use Rattle.std.proofs.lemmas.Bool.Decides.{nat_tests}
use Rattle.shared_trace.specs.Events.{PlainMark, events_of, count_of}
use Rattle.shared_trace.specs.Inner.Logs.{IsPast, Steps}
use Rattle.shared_trace.specs.Halves.{Has, Whole, part_of, turn_of, latest, IsDone, MayCome}
use Rattle.shared_trace.proofs.Wholes.{equals, has_past, done_past}
use Rattle.device_model.specs.World.{PlainWorld}
use Rattle.device_model.specs.Transitions.{Transition}
use Rattle.device_model.specs.After.{after}
use Rattle.device_model.specs.Happens.{Happens}
use Rattle.host_trace.specs.Parts.{Part, Share}
use Rattle.host_trace.specs.Trace.{Agree, touches, MayShare}
use Rattle.host_trace.specs.Inner.Passing.{IsBetween, HasDone}

turn_here : (p n : ℕ) (turns : List (ℕ × ℕ)) → turn_of p ((p, n) ∷ turns) ≡ n
turn_here p n turns = rw (equals p p refl) refl

turn_there : (p q n m : ℕ) → (p ≡ q → ⊥) → turn_of q ((p, n) ∷ (q, m) ∷ []) ≡ m
turn_there p q n m apart = let t : (p == q) ≡ false = unequal p q apart in rw t (turn_here q m [])
  where
    unequal : (p q : ℕ) → (p ≡ q → ⊥) → (p == q) ≡ false
    unequal p q apart = (elim (p == q) as (λ b. (p == q) ≡ b → b ≡ false) [
      | true ↦ λ t. absurd (apart (grind (arith, nat_tests, t)))
      | false ↦ λ t. refl
    ]) refl

module _ (number : Part → ℕ) (old : PlainWorld) where
  pub first_comes : (a b : PlainMark Share) (w : Whole Transition PlainWorld) → IsBetween number old a b w
      → MayCome after Happens (touches number) (Agree number) old a.own a.known (record { part = a.number; whole = w })
  first_comes a b w h =
      record {
        touched = subst (λ ps. Has ps a.number) (sym h.touched) (inl refl);
        turn = ap (λ ts. turn_of a.number ts) h.turns ∙ turn_here a.number (count_of part_of a.number a.own)
            ((b.number, count_of part_of b.number b.own) ∷ []);
        happens = h.happens;
        first = h.one.first;
        next = h.one.next;
        others = λ end q has apart. absurd (h.apart (end ∙ sym h.of));
      }

  pub last_comes : (a b a' b' : PlainMark Share) (w : Whole Transition PlainWorld) → IsBetween number old a b w
      → Steps part_of (MayShare number old) a (record { part = a.number; whole = w }) a'
      → b'.number ≡ b.number → b'.own ≡ b.own → IsPast b.known b'.known → IsPast a'.known b'.known
      → MayCome after Happens (touches number) (Agree number) old b'.own b'.known (record { part = b'.number; whole = w })
  last_comes a b a' b' w h stepped same own on from =
      let (past, pre, events, is, lawful) = stepped in
      let e : Share = record { part = a.number; whole = w } in
      let knows : Has a'.known e = subst (λ (l : List Share). Has l e) (sym (ap (λ (m : PlainMark Share). m.known) is))
      (inl refl) in
      let P : ℕ → List Share → Type 0 = λ k l. MayCome after Happens (touches number) (Agree number) old l b'.known
      (record { part = k; whole = w }) in
      let at : P b.number b.own =
      record {
        touched = subst (λ ps. Has ps b.number) (sym h.touched) (inr (inl refl));
        turn = ap (λ ts. turn_of b.number ts) h.turns ∙ turn_there a.number b.number (count_of part_of a.number a.own)
            (count_of part_of b.number b.own) h.apart;
        happens = h.happens;
        first = h.other.first;
        next = λ f z. let n = h.other.next f z in (done_past b.known b'.known on f n.0, n.1);
        others = λ end q has apart.
            let which : Has (a.number ∷ b.number ∷ []) q = subst (λ ps. Has ps q) h.touched has in
            elim which [
              | inl here ↦ (e, has_past a'.known b'.known from e knows, sym here, refl)
              | inr rest ↦ elim rest [ inl here ↦ absurd (apart here) | inr none ↦ absurd none ]
            ];
      } in
      subst (λ l. P b'.number l) (sym own) (subst (λ k. P k b.own) (sym same) at)

  -- behind the last share both parts have done the transition
  last_done : (b b' : PlainMark Share) (w : Whole Transition PlainWorld) → b.number ≡ w.last
      → Steps part_of (MayShare number old) b (record { part = b.number; whole = w }) b' → HasDone w b b'
  last_done b b' w of stepped =
      let (past, pre, events, is, lawful) = stepped in
      let e : Share = record { part = b.number; whole = w } in
      let new : PlainMark Share = record { number = b.number; own = e ∷ past; known = e ∷ past } in
      let latest_is : latest (events_of part_of b.number (e ∷ past)) ≡ Some e = rw (equals b.number b.number refl) refl in
      subst (λ (m : PlainMark Share). HasDone w b m) (sym is) (refl, latest_is, (e, inl refl, of, refl))

  pub both_done : (a b a' b' b'' a'' : PlainMark Share) (w : Whole Transition PlainWorld) → IsBetween number old a b w
      → Steps part_of (MayShare number old) a (record { part = a.number; whole = w }) a'
      → b'.number ≡ b.number
      → Steps part_of (MayShare number old) b' (record { part = b'.number; whole = w }) b''
      → a''.number ≡ a'.number → a''.own ≡ a'.own → IsPast b''.known a''.known
      → HasDone w a a'' × HasDone w b b''
  both_done a b a' b' b'' a'' w h one same two number' own' on =
      let last = last_done b' b'' w (same ∙ h.of) two in
      let (past, pre, events, is, lawful) = one in
      let e : Share = record { part = a.number; whole = w } in
      let g : Share = record { part = b'.number; whole = w } in
      let k : a''.number ≡ a.number = number' ∙ ap (λ (m : PlainMark Share). m.number) is in
      let l : a''.own ≡ e ∷ past = own' ∙ ap (λ (m : PlainMark Share). m.own) is in
      let latest_is : latest (events_of part_of a.number (e ∷ past)) ≡ Some e = rw (equals a.number a.number refl) refl in
      let done : IsDone a''.known e = done_past b''.known a''.known on e (last.2.0, last.2.1, last.2.2, last.2.3) in (
        (
          k,
          subst (λ n. latest (events_of part_of n a''.own) ≡ Some e) (sym k) (ap (λ x. latest
              (events_of part_of a.number x)) l ∙ latest_is),
          done,
        ),
        subst (λ n. (b''.number ≡ n) × (latest (events_of part_of b''.number b''.own)
            ≡ Some (record { part = n; whole = w })) × IsDone b''.known (record { part = n; whole = w })) same last,
      )
