-- A lawful log of shares is a trace of whole steps.
use Rattle.std.proofs.Common.{◌≡◌, ℕ, ◌+◌, ◌<◌, ◌==◌, true, false, cond, List, [], ◌∷◌, ◌++◌, length, Option, Some, None, refl, ap, sym, ◌∙◌, subst, arith, inl, inr}
use Rattle.std.specs.Prelude.{◌⊎◌}
use Rattle.std.proofs.lemmas.Bool.Decides.{nat_tests}
use Rattle.shared_trace.specs.Events.{IsLawful, events_of, count_of}
use Rattle.shared_trace.specs.Inner.Logs.{IsPast}
use Rattle.shared_trace.specs.Halves.{Whole, Half, part_of, Has, turn_of, latest, IsDone, wholes, AreLocal, AgreeAt, world_after, AllHappen, MayCome, AreWhole}
use Rattle.shared_trace.proofs.Events.{past_next, past_count}

pub equal : (m n : ℕ) → (m == n) ≡ true → m ≡ n
equal m n t = grind (arith, nat_tests)

pub equals : (m n : ℕ) → m ≡ n → (m == n) ≡ true
equals m n e = grind (arith, nat_tests)

pub unlike : (m n : ℕ) → (m == n) ≡ false → m ≡ n → ⊥
unlike m n t e = absurd (grind (arith, nat_tests, t, e))

no_event : {A : Type 0} {x : A} → None ≡ Some x → ⊥
no_event e = cc

one_event : {A : Type 0} {x y : A} → Some x ≡ Some y → x ≡ y
one_event e = cc

-- whether a number is in a list
pub decide : (ps : List ℕ) (p : ℕ) → Has ps p ⊎ (Has ps p → ⊥)
decide [] p = inr (λ h. h)
decide (q ∷ ps) p =
    (elim (p == q) as (λ b. (p == q) ≡ b → Has (q ∷ ps) p ⊎ (Has (q ∷ ps) p → ⊥)) [
      | true ↦ λ t. inl (inl (equal p q t))
      | false ↦ λ t. elim (decide ps p) [
        | inl h ↦ inl (inr h)
        | inr absent ↦ inr (λ h. elim h [ inl is ↦ unlike p q t is | inr there ↦ absent there ])
      ]
    ]) refl

module _ {D W : Type 0} where
  events_here : (e : Half D W) (past : List (Half D W)) (p : ℕ) → (e.part == p) ≡ true
      → events_of part_of p (e ∷ past) ≡ e ∷ events_of part_of p past
  events_here e past p t = rw t refl

  events_there : (e : Half D W) (past : List (Half D W)) (p : ℕ) → (e.part == p) ≡ false
      → events_of part_of p (e ∷ past) ≡ events_of part_of p past
  events_there e past p t = rw t refl

  latest_here : (e : Half D W) (past : List (Half D W)) (p : ℕ) → (e.part == p) ≡ true
      → latest (events_of part_of p (e ∷ past)) ≡ Some e
  latest_here e past p t = ap latest (events_here e past p t)

  latest_there : (e : Half D W) (past : List (Half D W)) (p : ℕ) → (e.part == p) ≡ false
      → latest (events_of part_of p (e ∷ past)) ≡ latest (events_of part_of p past)
  latest_there e past p t = ap latest (events_there e past p t)

  -- the latest event of a part is one of it
  latest_has : (p : ℕ) (past : List (Half D W)) (f : Half D W) → latest (events_of part_of p past) ≡ Some f
      → Has past f × (f.part ≡ p)
  latest_has p [] f e = absurd (no_event e)
  latest_has p (x ∷ past) f e =
      (elim (x.part == p) as (λ b. (x.part == p) ≡ b → Has (x ∷ past) f × (f.part ≡ p)) [
        | true ↦ λ t.
            let is : x ≡ f = one_event (sym (latest_here x past p t) ∙ e) in
            (inl (sym is), ap (λ (z : Half D W). z.part) (sym is) ∙ equal x.part p t)
        | false ↦ λ t.
            let h = latest_has p past f (sym (latest_there x past p t) ∙ e) in (inr h.0, h.1)
      ]) refl

  done_next : (e : Half D W) (past : List (Half D W)) (f : Half D W) → IsDone past f → IsDone (e ∷ past) f
  done_next e past f c = (c.0, inr c.1, c.2, c.3)

  -- an event that isn't its step's last one ends no step
  done_back : (e : Half D W) (past : List (Half D W)) (f : Half D W) → (e.part ≡ e.whole.last → ⊥) → IsDone (e ∷ past) f
      → IsDone past f
  done_back e past f on c =
      elim c.1 [
        | inl is ↦ absurd (on (subst (λ (z : Half D W). z.part ≡ z.whole.last) is c.2))
        | inr there ↦ (c.0, there, c.2, c.3)
      ]

  -- a log has what a past of it has
  pub has_past : (past log : List (Half D W)) → IsPast past log → (f : Half D W) → Has past f → Has log f
  has_past past log p f at = subst (λ (l : List (Half D W)). Has l f) p.1 (behind p.0)
    where
      behind : (more : List (Half D W)) → Has (more ++ past) f
      behind [] = at
      behind (x ∷ more) = inr (behind more)

  pub done_past : (past log : List (Half D W)) → IsPast past log → (f : Half D W) → IsDone past f → IsDone log f
  done_past past log p f c = (c.0, has_past past log p c.0 c.1, c.2, c.3)

  done_same : (past : List (Half D W)) (f g : Half D W) → f.whole ≡ g.whole → IsDone past f → IsDone past g
  done_same past f g is c = (c.0, c.1, c.2, c.3 ∙ is)

module _ {D W : Type 0} (after : D → W → W) (Happens : D → W → Type 0) (touches : D → W → List ℕ) (Agree : ℕ → W → W
    → Type 0) (old : W) where
  abbrev May : List (Half D W) → Half D W → Type 0
  May past e = MayCome after Happens touches Agree old past past e

  -- what a mark knows is enough, wherever the log has the events of its part alone
  pub comes : (own known past : List (Half D W)) (e : Half D W) → IsPast known past
      → events_of part_of e.part past ≡ events_of part_of e.part own → MayCome after Happens touches Agree old own known e
      → May past e
  comes own known past e on same may =
      record {
        touched = may.touched;
        turn = may.turn ∙ ap length (sym same);
        happens = may.happens;
        first = λ is. may.first (ap latest (sym same) ∙ is);
        next = λ f is. let n = may.next f (ap latest (sym same) ∙ is) in (done_past known past on f n.0, n.1);
        others = λ end q has apart.
            let f = may.others end q has apart in (f.0, has_past known past on f.0 f.1, f.2, f.3);
      }

  -- what held when an event came
  came : (log : List (Half D W)) → IsLawful May log → (g : Half D W) → Has log g
      → (past : List (Half D W)) × May past g × ((x : Half D W) → Has past x → Has log x)
  came [] h g at = absurd at
  came (e ∷ log) h g at =
      elim at [
        | inl is ↦ (log, subst (λ (z : Half D W). May log z) (sym is) h.1, λ x has. inr has)
        | inr there ↦ let c = came log h.0 g there in (c.0, c.1, λ x has. inr (c.2 x has))
      ]

  -- the number of an event at its part is below the count of these
  numbered : (log : List (Half D W)) → IsLawful May log → (f : Half D W) → Has log f
      → turn_of f.part f.whole.turns < count_of part_of f.part log
  numbered [] h f at = absurd at
  numbered (e ∷ log) h f at =
      elim at [
        | inl is ↦
            let more : count_of part_of e.part (e ∷ log) ≡ count_of part_of e.part log + 1 =
            ap length (events_here e log e.part (equals e.part e.part refl)) ∙ one_more e (events_of part_of e.part log) in
            let here : turn_of e.part e.whole.turns < count_of part_of e.part (e ∷ log) = omega (arith, h.1.turn, more) in
            subst (λ (z : Half D W). turn_of z.part z.whole.turns < count_of part_of z.part (e ∷ log)) (sym is) here
        | inr there ↦ omega (arith, numbered log h.0 f there, past_count part_of f.part log (e ∷ log) (past_next e log))
      ]
    where
      one_more : {A : Type 0} (x : A) (xs : List A) → length (x ∷ xs) ≡ length xs + 1
      one_more x xs = omega arith

  -- no event of that part has the turn of one that comes now
  new_turn : (log : List (Half D W)) (e f : Half D W) → IsLawful May log → May log e → Has log f → f.part ≡ e.part
      → f.whole ≡ e.whole → ⊥
  new_turn log e f h may at part whole =
      let n = numbered log h f at in
      let a : turn_of f.part f.whole.turns ≡ turn_of e.part e.whole.turns =
      ap (λ p. turn_of p f.whole.turns) part ∙ ap (λ (w : Whole D W). turn_of e.part w.turns) whole in
      let b : count_of part_of f.part log ≡ count_of part_of e.part log = ap (λ p. count_of part_of p log) part in
      absurd (omega (arith, n, a, b, may.turn))

  -- a step isn't done before its last event, nor before any other of its events
  undone_last : (log : List (Half D W)) (e : Half D W) → IsLawful May log → May log e → e.part ≡ e.whole.last → IsDone log e → ⊥
  undone_last log e h may end c =
      let part : c.0.part ≡ e.part = c.2 ∙ ap (λ (w : Whole D W). w.last) c.3 ∙ sym end in
      new_turn log e c.0 h may c.1 part c.3

  undone : (log : List (Half D W)) (e : Half D W) → IsLawful May log → May log e → (e.part ≡ e.whole.last → ⊥)
      → IsDone log e → ⊥
  undone log e h may on c =
      let g = c.0 in
      let then = came log h g c.1 in
      let touched : Has (touches g.whole.act g.whole.seen) e.part =
      subst (λ (w : Whole D W). Has (touches w.act w.seen) e.part) (sym c.3) may.touched in
      let apart : e.part ≡ g.part → ⊥ = λ is. on (is ∙ c.2 ∙ ap (λ (w : Whole D W). w.last) c.3) in
      let f = then.1.others c.2 e.part touched apart in
      new_turn log e f.0 h may (then.2 f.0 f.1) f.2 (f.3 ∙ c.3)

  -- an event whose step isn't done is the latest of its part
  latest_is : (log : List (Half D W)) → IsLawful May log → (f : Half D W) → Has log f → (IsDone log f → ⊥)
      → latest (events_of part_of f.part log) ≡ Some f
  latest_is [] h f at open_yet = absurd at
  latest_is (e ∷ log) h f at open_yet =
      elim at [
        | inl is ↦
            subst (λ (z : Half D W). latest (events_of part_of z.part (e ∷ log)) ≡ Some z) (sym is)
            (latest_here e log e.part (equals e.part e.part refl))
        | inr there ↦
            let before = latest_is log h.0 f there (λ c. open_yet (done_next e log f c)) in
            (elim (e.part == f.part) as (λ b. (e.part == f.part) ≡ b → latest (events_of part_of f.part (e ∷ log)) ≡ Some f) [
              | true ↦ λ t.
                  let at_e : latest (events_of part_of e.part log) ≡ Some f =
                  ap (λ p. latest (events_of part_of p log)) (equal e.part f.part t) ∙ before in
                  absurd (open_yet (done_next e log f (h.1.next f at_e).0))
              | false ↦ λ t. latest_there e log f.part t ∙ before
            ]) refl
      ]

  -- how a part stands in the world that the steps so far lead to
  record Stand (log : List (Half D W)) (w : W) (p : ℕ) : Type 0 where
    none : latest (events_of part_of p log) ≡ None → Agree p w old
    some : (f : Half D W) → latest (events_of part_of p log) ≡ Some f
        → (IsDone log f × Agree p w (after f.whole.act f.whole.seen)) ⊎ ((IsDone log f → ⊥) × Agree p w f.whole.seen)

  module _ (laws : AreLocal after Happens touches Agree) where
    -- the part of an event that comes now stands as it was seen
    seen_at : (log : List (Half D W)) (w : W) (e : Half D W) → May log e → Stand log w e.part → Agree e.part w e.whole.seen
    seen_at log w e may s = at_latest (latest (events_of part_of e.part log)) refl
      where
        at_latest : (o : Option (Half D W)) → latest (events_of part_of e.part log) ≡ o → Agree e.part w e.whole.seen
        at_latest None is = laws.chained e.part w old e.whole.seen (s.none is) (may.first is)
        at_latest (Some f) is =
            let n = may.next f is in
            elim (s.some f is) [
              | inl c ↦ laws.chained e.part w (after f.whole.act f.whole.seen) e.whole.seen c.1 n.1
              | inr c ↦ absurd (c.0 n.0)
            ]

    -- a share that isn't its step's last leads nowhere yet
    stand_on : (log : List (Half D W)) (w : W) (e : Half D W) → IsLawful May log → May log e → (e.part ≡ e.whole.last → ⊥)
        → ((p : ℕ) → Stand log w p) → (p : ℕ) → Stand (e ∷ log) w p
    stand_on log w e h may on s p =
        (elim (e.part == p) as (λ b. (e.part == p) ≡ b → Stand (e ∷ log) w p) [
          | true ↦ λ t.
              let here = latest_here e log p t in
              record {
                none = λ is. absurd (no_event (sym is ∙ here));
                some = λ f is.
                    let same : e ≡ f = one_event (sym here ∙ is) in
                    let P : Half D W → Type 0 = λ z. (IsDone (e ∷ log) z → ⊥) × Agree p w z.whole.seen in
                    let at : Agree p w e.whole.seen =
                    subst (λ q. Agree q w e.whole.seen) (equal e.part p t) (seen_at log w e may (s e.part)) in
                    inr (subst P same (λ c. undone log e h may on (done_back e log e on c), at));
              }
          | false ↦ λ t.
              let there = latest_there e log p t in
              record {
                none = λ is. (s p).none (sym there ∙ is);
                some = λ f is. elim ((s p).some f (sym there ∙ is)) [
                  | inl c ↦ inl (done_next e log f c.0, c.1)
                  | inr c ↦ inr (λ d. c.0 (done_back e log f on d), c.1)
                ];
              }
        ]) refl

    -- the last share of a step: each other touched part has its share as its latest event, and stands as it was seen
    share_at : (log : List (Half D W)) (e : Half D W) → IsLawful May log → May log e → e.part ≡ e.whole.last
        → (q : ℕ) → Has (touches e.whole.act e.whole.seen) q → (q ≡ e.part → ⊥)
        → (f : Half D W) × (latest (events_of part_of q log) ≡ Some f) × (f.whole ≡ e.whole) × (IsDone log f → ⊥)
    share_at log e h may end q has apart =
        let f = may.others end q has apart in
        let open_yet : IsDone log f.0 → ⊥ = λ c. undone_last log e h may end (done_same log f.0 e f.3 c) in
        let is : latest (events_of part_of q log) ≡ Some f.0 =
        ap (λ p. latest (events_of part_of p log)) (sym f.2) ∙ latest_is log h f.0 f.1 open_yet in
        (f.0, is, f.3, open_yet)

    all_seen : (log : List (Half D W)) (w : W) (e : Half D W) → IsLawful May log → May log e → e.part ≡ e.whole.last
        → ((p : ℕ) → Stand log w p) → AgreeAt after Happens touches Agree (touches e.whole.act e.whole.seen) e.whole.seen w
    all_seen log w e h may end s q has =
        (elim (q == e.part) as (λ b. (q == e.part) ≡ b → Agree q e.whole.seen w) [
          | true ↦ λ t.
              subst (λ p. Agree p e.whole.seen w) (sym (equal q e.part t))
              (laws.turned e.part w e.whole.seen (seen_at log w e may (s e.part)))
          | false ↦ λ t.
              let f = share_at log e h may end q has (unlike q e.part t) in
              elim ((s q).some f.0 f.1) [
                | inl c ↦ absurd (f.3 c.0)
                | inr c ↦ laws.turned q w e.whole.seen (subst (λ (z : Whole D W). Agree q w z.seen) f.2 c.1)
              ]
        ]) refl

    stand_after : (log : List (Half D W)) (w : W) (e : Half D W) → IsLawful May log → May log e → e.part ≡ e.whole.last
        → ((p : ℕ) → Stand log w p) → (p : ℕ) → Stand (e ∷ log) (after e.whole.act w) p
    stand_after log w e h may end s p =
        let d = e.whole.act in
        let v = e.whole.seen in
        let all = all_seen log w e h may end s in
        let left : (q : ℕ) → Has (touches d v) q → Agree q (after d w) (after d v) =
        λ q has. laws.turned q (after d v) (after d w) (laws.own d v w all q has) in
        let now : (f : Half D W) → f.whole ≡ e.whole → IsDone (e ∷ log) f = λ f is. (e, inl refl, end, sym is) in
        (elim (e.part == p) as (λ b. (e.part == p) ≡ b → Stand (e ∷ log) (after d w) p) [
          | true ↦ λ t.
              let here = latest_here e log p t in
              record {
                none = λ is. absurd (no_event (sym is ∙ here));
                some = λ f is.
                    let same : e ≡ f = one_event (sym here ∙ is) in
                    let P : Half D W → Type 0 =
                    λ z. IsDone (e ∷ log) z × Agree p (after d w) (after z.whole.act z.whole.seen) in
                    let at : Agree p (after d w) (after d v) =
                    subst (λ q. Agree q (after d w) (after d v)) (equal e.part p t) (left e.part may.touched) in
                    inl (subst P same (now e refl, at));
              }
          | false ↦ λ t.
              let there = latest_there e log p t in
              elim (decide (touches d v) p) [
                | inl has ↦
                    let f = share_at log e h may end p has (λ is. unlike e.part p t (sym is)) in
                    record {
                      none = λ is. absurd (no_event (sym is ∙ there ∙ f.1));
                      some = λ g is.
                          let same : f.0 ≡ g = one_event (sym f.1 ∙ sym there ∙ is) in
                          let P : Half D W → Type 0 =
                          λ z. IsDone (e ∷ log) z × Agree p (after d w) (after z.whole.act z.whole.seen) in
                          let at : Agree p (after d w) (after f.0.whole.act f.0.whole.seen) =
                          subst (λ (z : Whole D W). Agree p (after d w) (after z.act z.seen)) (sym f.2) (left p has) in
                          inl (subst P same (now f.0 f.2, at));
                    }
                | inr absent ↦
                    let absent' : Has (touches d w) p → ⊥ = λ x. absent (subst (λ ps. Has ps p) (laws.touched d v w all) x) in
                    let stays = laws.others d w p absent' in
                    record {
                      none = λ is. laws.chained p (after d w) w old stays ((s p).none (sym there ∙ is));
                      some = λ g is.
                          let was = sym there ∙ is in
                          let has = latest_has p log g was in
                          let back : IsDone (e ∷ log) g → IsDone log g = λ c. elim c.1 [
                            | inl here ↦
                                let whole : e.whole ≡ g.whole = ap (λ (z : Half D W). z.whole) (sym here) ∙ c.3 in
                                let then = came log h g has.0 in
                                let touched : Has (touches d v) p =
                                subst (λ q. Has (touches d v) q) has.1
                                (subst (λ (z : Whole D W). Has (touches z.act z.seen) g.part) (sym whole) then.1.touched) in
                                absurd (absent touched)
                            | inr before ↦ (c.0, before, c.2, c.3)
                          ] in
                          elim ((s p).some g was) [
                            | inl c ↦ inl (
                              done_next e log g c.0,
                              laws.chained p (after d w) w
                                  (after g.whole.act g.whole.seen) stays c.1,
                            )
                            | inr c ↦ inr (λ x. c.0 (back x), laws.chained p (after d w) w g.whole.seen stays c.1)
                          ];
                    }
              ]
        ]) refl

    Leading : List (Half D W) → List D → Type 0
    Leading log ds = AllHappen after Happens touches Agree old ds × ((p : ℕ)
        → Stand log (world_after after Happens touches Agree old ds) p)

    leading : (log : List (Half D W)) → IsLawful May log → Leading log (wholes log)
    unfolding Leading
    leading [] h = (tt, λ p. record { none = λ is. laws.itself p old; some = λ f is. absurd (no_event is) })
    leading (e ∷ log) h =
        let before = leading log h.0 in
        let w = world_after after Happens touches Agree old (wholes log) in
        (elim (e.part == e.whole.last) as (λ b. (e.part == e.whole.last) ≡ b
        → Leading (e ∷ log) (cond b (e.whole.act ∷ wholes log) (wholes log))) [
          | true ↦ λ t.
              let end = equal e.part e.whole.last t in
              let all = all_seen log w e h.0 h.1 end before.1 in
              ((before.0, laws.happens e.whole.act e.whole.seen w all h.1.happens), stand_after log w e h.0 h.1 end before.1)
          | false ↦ λ t. (before.0, stand_on log w e h.0 h.1 (unlike e.part e.whole.last t) before.1)
        ]) refl

    pub are_whole : (log : List (Half D W)) → IsLawful May log → AreWhole after Happens touches Agree old log (wholes log)
    unfolding Leading
    are_whole log h =
        let l = leading log h in
        record {
          happen = l.0;
          none = λ p is. (l.1 p).none is;
          some = λ p f is c. elim ((l.1 p).some f is) [ inl x ↦ x.1 | inr x ↦ absurd (x.0 c) ];
        }
