-- Seats that are brought together one after the other.
use Rattle.std.proofs.Common.{◌≡◌, ◌≢◌, ℕ, ◌+◌, ◌<◌, true, zero, suc, List, [], ◌∷◌, ◌++◌, Some, length, map, refl, sym, ap, ◌∙◌, subst, append_assoc, arith, ne_eqb, eq-eqb, inl, inr}
use Rattle.std.proofs.lemmas.List.{append-nil, length-map}
use Rattle.std.proofs.lemmas.Option.{slice_get_within}
use Rattle.std.specs.Prelude.{slice_get, ⊤}
use Rattle.unit_model.specs.Jobs.{PlainJob}
use Rattle.handoff.specs.declared.rule.Account.{Account}
use Rattle.handoff.specs.declared.rule.View.{View}
use Rattle.handoff.specs.Moves.{Move}
use Rattle.handoff.specs.Inner.Moves.{Moves, jobs_of, jobs_by, IsBelow, Fits, AllFit, AreSettled}
use Rattle.handoff.specs.Inner.Rule.{joined}
use Rattle.handoff.specs.Ends.{PlainEnd}
use Rattle.handoff.specs.Inner.Ends.{knowing}
use Rattle.handoff.specs.Seats.{Hub, PlainSeat}
use Rattle.handoff.specs.Inner.Seats.{AreSeatsFrom, put_at, account_at, view_at, IsSeated, HandedOver}
use Rattle.handoff.specs.Inner.Lanes.{AreAt, AreChiefs, KnowAll}
use Rattle.handoff.proofs.Lists.{nothing, same, stands_at, at_or_not}
use Rattle.handoff.proofs.Seating.{own_put, no_put}

-- what seats put into a queue and took from it
abbrev pub column : ℕ → List PlainSeat → List Account
column q seats = map (account_at q) seats

-- each seat took from queues that there are
abbrev pub AreBelow : ℕ → List PlainSeat → Type 0
AreBelow n [] = ⊤
AreBelow n (s ∷ seats) = IsBelow n s.taken × AreBelow n seats

-- the chief of each queue has the accounts of the seats so far, and the rest are to come
pub record Gathering (hub : Hub) (chiefs : List PlainEnd) (rest all : List PlainSeat) : Type 0 where
  pub ends : AreAt hub chiefs
  pub leads : AreChiefs chiefs
  pub made : (q : ℕ) (c : PlainEnd) → slice_get chiefs q ≡ Some c → c.knows.made ≡ hub.seats
  pub so_far : (q : ℕ) (c : PlainEnd) → slice_get chiefs q ≡ Some c → c.knows.accounts ++ column q rest ≡ column q all
  pub number : ℕ
  pub next : AreSeatsFrom hub number rest
  pub below : AreBelow hub.seats rest → AreBelow hub.seats all

module _ (hub : Hub) (s : PlainSeat) (rest all : List PlainSeat) (ends : List PlainEnd) (h : IsSeated s ends)
    (at : map (λ (p : PlainEnd). p.queue) ends ≡ s.queues) where
  pub gather_start : AreSeatsFrom hub 0 all → all ≡ s ∷ rest → Gathering hub ends rest all
  gather_start a e =
      let b : AreSeatsFrom hub 0 (s ∷ rest) = subst (λ ss. AreSeatsFrom hub 0 ss) e a in
      let zero_is : (q : ℕ) → view_at q s ≡ record { accounts = account_at q s ∷ []; is_chief = true; made = s.seats } =
      λ q. rw (eq-eqb s.number 0 b.1) refl in
      let knows : (q : ℕ) (c : PlainEnd) → slice_get ends q ≡ Some c
      → c.knows ≡ record { accounts = account_at q s ∷ []; is_chief = true; made = s.seats } =
      λ q c there. h.each q c there ∙ zero_is q in
      record {
        ends = at ∙ b.0.queues;
        leads = λ q c there. ap (λ (v : View). v.is_chief) (knows q c there);
        made = λ q c there. ap (λ (v : View). v.made) (knows q c there) ∙ b.0.seats;
        so_far = λ q c there.
            ap (λ (v : View). v.accounts ++ column q rest) (knows q c there) ∙ ap (column q) (sym e);
        number = 1;
        next = b.2;
        below = λ r. subst (λ ss. AreBelow hub.seats ss) (sym e) (subst (λ n. IsBelow n s.taken) b.0.seats h.below, r);
      }

  -- what a chief was that took in an end of this seat
  found : (chiefs new : List PlainEnd) → AreAt hub chiefs → AreAt hub new → s.queues ≡ hub.queues
      → ((q : ℕ) (c p : PlainEnd) → slice_get chiefs q ≡ Some c → slice_get ends q ≡ Some p
      → slice_get new q ≡ Some (knowing (joined c.knows p.knows) c))
      → (q : ℕ) (c : PlainEnd) → slice_get new q ≡ Some c
      → (old : PlainEnd) × (p : PlainEnd) × (slice_get chiefs q ≡ Some old) × (p.knows ≡ view_at q s)
      × (c ≡ knowing (joined old.knows p.knows) old)
  found chiefs new a b e joins q c there =
      let queue = λ (p : PlainEnd). p.queue in
      let lt = slice_get_within new q c there in
      let l = ap length b ∙ ap length (sym a) in
      let m = ap length b ∙ ap length (sym (at ∙ e)) in
      let x = length-map new queue in
      let y = length-map chiefs queue in
      let z = length-map ends queue in
      let old = stands_at chiefs q (omega (arith, lt, l, x, y)) in
      let p = stands_at ends q (omega (arith, lt, m, x, z)) in
      (old.0, p.0, old.1, h.each q p.0 p.1, same (sym there ∙ joins q old.0 p.0 old.1 p.1))

  -- one more
  pub gather_more : (now : List PlainSeat) (chiefs new : List PlainEnd) → Gathering hub chiefs now all → now ≡ s ∷ rest
      → AreAt hub new
      → ((q : ℕ) (c p : PlainEnd) → slice_get chiefs q ≡ Some c → slice_get ends q ≡ Some p
      → slice_get new q ≡ Some (knowing (joined c.knows p.knows) c))
      → Gathering hub new rest all
  gather_more now chiefs new g e there joins =
      let b : AreSeatsFrom hub g.number (s ∷ rest) = subst (λ ss. AreSeatsFrom hub g.number ss) e g.next in
      let f = found chiefs new g.ends there b.0.queues joins in
      record {
        ends = there;
        leads = λ q c is.
            let w = f q c is in ap (λ (x : PlainEnd). x.knows.is_chief) w.4 ∙ g.leads q w.0 w.2;
        made = λ q c is. let w = f q c is in ap (λ (x : PlainEnd). x.knows.made) w.4 ∙ g.made q w.0 w.2;
        so_far = λ q c is.
            let w = f q c is in
            ap (λ (x : PlainEnd). x.knows.accounts ++ column q rest) w.4
            ∙ ap (λ (v : View). (w.0.knows.accounts ++ v.accounts) ++ column q rest) w.3
            ∙ append_assoc w.0.knows.accounts (account_at q s ∷ []) (column q rest)
            ∙ ap (λ ss. w.0.knows.accounts ++ column q ss) (sym e) ∙ g.so_far q w.0 w.2;
        number = g.number + 1;
        next = b.2;
        below = λ r.
            g.below (subst (λ ss. AreBelow hub.seats ss) (sym e) (subst (λ n. IsBelow n s.taken) b.0.seats h.below, r));
      }

-- where none are to come
module _ (hub : Hub) (chiefs : List PlainEnd) (rest all : List PlainSeat) (g : Gathering hub chiefs rest all)
    (none : rest ≡ []) (count : length all ≡ hub.seats) where
  pub has_column : (q : ℕ) (c : PlainEnd) → slice_get chiefs q ≡ Some c → c.knows.accounts ≡ column q all
  has_column q c there =
      sym (append-nil c.knows.accounts) ∙ ap (λ ss. c.knows.accounts ++ column q ss) (sym none) ∙ g.so_far q c there

  pub knows_all : KnowAll chiefs
  knows_all q c there =
      g.made q c there ∙ sym count ∙ sym (ap length (has_column q c there) ∙ length-map all (account_at q))

  pub all_below : AreBelow hub.seats all
  all_below = g.below (subst (λ ss. AreBelow hub.seats ss) (sym none) tt)

-- What the chief of a queue learns of its seat

-- an account of the column
fit_at : (m : Moves) (q : ℕ) (ss : List PlainSeat) (k : ℕ) (s : PlainSeat) → AllFit m (column q ss) → slice_get ss k ≡ Some s
    → Fits m (account_at q s)
fit_at m q [] k s f at = absurd (nothing at)
fit_at m q (x ∷ ss) zero s f at = subst (λ z. Fits m (account_at q z)) (same at) f.0
fit_at m q (x ∷ ss) (suc k) s f at = fit_at m q ss k s f.1 at

pub number_at : (h : Hub) (n : ℕ) (ss : List PlainSeat) (k : ℕ) (s : PlainSeat) → AreSeatsFrom h n ss → slice_get ss k ≡ Some s
    → s.number ≡ n + k
number_at h n [] k s a at = absurd (nothing at)
number_at h n (x ∷ ss) zero s a at = ap (λ (z : PlainSeat). z.number) (sym (same at)) ∙ omega (arith, a.1)
number_at h n (x ∷ ss) (suc k) s a at = let e = number_at h (n + 1) ss k s a.2 at in omega (arith, e)

no_cons : {x : PlainJob} {xs : List PlainJob} → x ∷ xs ≡ [] → ⊥
no_cons e = cc

-- where no other seat made a move, all moves are this one's
all_own : (q n : ℕ) (ms : List Move) → IsBelow n ms → ((k : ℕ) → k < n → k ≢ q → jobs_by k ms ≡ []) → jobs_of ms ≡ jobs_by q ms
all_own q n [] b none = refl
all_own q n (m ∷ ms) b none =
    elim (at_or_not m.seat q) [
      | inl is ↦
          let rest : (k : ℕ) → k < n → k ≢ q → jobs_by k ms ≡ [] = λ k lt ne.
          let other : m.seat ≢ k = λ e. ne (sym e ∙ is) in
          sym (by_other m ms k other) ∙ none k lt ne in
          ap (λ jobs. m.job ∷ jobs) (all_own q n ms b.1 rest) ∙ sym (by_own m ms q is)
      | inr ne ↦ absurd (no_cons (sym (by_own m ms m.seat refl) ∙ none m.seat b.0 ne))
    ]
  where
    by_own : (m : Move) (ms : List Move) (k : ℕ) → m.seat ≡ k → jobs_by k (m ∷ ms) ≡ m.job ∷ jobs_by k ms
    by_own m ms k e = rw (eq-eqb m.seat k e) refl

    by_other : (m : Move) (ms : List Move) (k : ℕ) → m.seat ≢ k → jobs_by k (m ∷ ms) ≡ jobs_by k ms
    by_other m ms k ne = rw (ne_eqb m.seat k ne) refl

none_first : (xs ys : List PlainJob) → xs ++ ys ≡ [] → (xs ≡ []) × (ys ≡ [])
none_first [] ys e = (refl, e)
none_first (x ∷ xs) ys e = absurd (no_cons e)

module _ (hub : Hub) (all : List PlainSeat) (a : AreSeatsFrom hub 0 all) (q : ℕ) (left : List PlainJob)
    (k : AreSettled (column q all) left) where
  below_is : length (column q all) ≡ length all
  below_is = length-map all (account_at q)

  others_none : (j : ℕ) → j < length (column q all) → j ≢ q → (jobs_by j k.all.gone ≡ []) × (jobs_by j k.all.left ≡ [])
  others_none j lt ne =
      let s = stands_at all j (omega (arith, lt, below_is)) in
      let is : s.0.number ≡ j = omega (arith, number_at hub 0 all j s.0 a s.1) in
      let f = fit_at k.all q all j s.0 k.each s.1 in
      let none = no_put q s.0 (λ e. ne (sym is ∙ sym e)) in
      none_first (jobs_by j k.all.gone) (jobs_by j k.all.left)
      (sym (subst (λ n. put_at q s.0 ≡ jobs_by n k.all.gone ++ jobs_by n k.all.left) is f.put) ∙ none)

  pub handed_over : HandedOver all q left
  handed_over =
      let gone = all_own q (length (column q all)) k.all.gone k.theirs.gone (λ j lt ne. (others_none j lt ne).0) in
      let rest = all_own q (length (column q all)) k.all.left k.theirs.left (λ j lt ne. (others_none j lt ne).1) in
      record {
        takes = k.all.takes;
        put = λ s at.
            let is : s.number ≡ q = omega (arith, number_at hub 0 all q s a at) in
            let f = fit_at k.all q all q s k.each at in
            sym (own_put q s (sym is)) ∙ subst (λ n. put_at q s ≡ jobs_by n k.all.gone ++ jobs_by n k.all.left) is f.put
            ∙ ap (λ l. l ++ jobs_by q k.all.left) (sym gone) ∙ ap (λ l. jobs_of k.all.gone ++ l) (sym rest)
            ∙ ap (λ l. l ++ jobs_of k.all.left) (sym k.order.went) ∙ ap (λ l. jobs_of k.all.takes ++ l) k.order.stands;
        theirs = subst (λ n. IsBelow n k.all.takes) below_is k.theirs.takes;
        each = λ j s at.
            let is : s.number ≡ j = omega (arith, number_at hub 0 all j s a at) in
            subst (λ n. jobs_by q s.taken ≡ jobs_by n k.all.takes) is (fit_at k.all q all j s k.each at).taken;
      }
