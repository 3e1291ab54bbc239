-- Lists of threads and of seats.
use Rattle.std.proofs.Common.{◌≡◌, ℕ, ◌+◌, List, [], ◌∷◌, ◌++◌, length, sym, ap, ◌∙◌, subst, arith}
use Rattle.std.proofs.lemmas.List.{length-append}
use Rattle.handoff.specs.Seats.{Hub, PlainSeat, IsSeatOf}
use Rattle.handoff.specs.Inner.Seats.{AreSeatsFrom, AreAllSeats}
use Rattle.workers.specs.Crew.{Hand, IsLastSeat}
use Rattle.workers.specs.Inner.Crew.{AreHired}

pub hired_more : (h : Hub) (k : ℕ) (ps : List Hand) (p : Hand) → AreHired h k ps → p.hub ≡ h → p.number ≡ k + length ps
    → AreHired h k (ps ++ p ∷ [])
hired_more h k [] p a e n = (e, omega arith, tt)
hired_more h k (x ∷ xs) p a e n = (a.0, a.1, hired_more h (k + 1) xs p a.2 e (omega arith))

seats_more : (h : Hub) (k : ℕ) (ss : List PlainSeat) (s : PlainSeat) → AreSeatsFrom h k ss → IsSeatOf h s
    → s.number ≡ k + length ss → AreSeatsFrom h k (ss ++ s ∷ [])
seats_more h k [] s a of is = (of, omega arith, tt)
seats_more h k (x ∷ xs) s a of is = (a.0, a.1, seats_more h (k + 1) xs s a.2 of (omega arith))

-- the first of the seats that are left
pub first_seat : (h : Hub) (k : ℕ) (s : PlainSeat) (rest now : List PlainSeat) → AreSeatsFrom h k now → now ≡ s ∷ rest
    → IsSeatOf h s × (s.number ≡ k) × AreSeatsFrom h (k + 1) rest
first_seat h k s rest now a e = subst (λ ss. AreSeatsFrom h k ss) e a

-- a thread that brought its seat back
pub join_step : (h : Hub) (ss : List PlainSeat) (n m : ℕ) (s : PlainSeat) (p : Hand) (rest now : List Hand)
    → AreSeatsFrom h 0 ss × AreHired h n now → n ≡ length ss → m ≡ n + 1 → now ≡ p ∷ rest → IsSeatOf p.hub s
    → s.number ≡ p.number → (new : List PlainSeat) → new ≡ ss ++ s ∷ [] → AreSeatsFrom h 0 new × AreHired h m rest
join_step h ss n m s p rest now a e up is of number new grown =
    let b : AreHired h n (p ∷ rest) = subst (λ ps. AreHired h n ps) is a.1 in
    let at : s.number ≡ 0 + length ss = omega (arith, number, b.1, e) in
    let there : IsSeatOf h s = record { queues = of.queues ∙ ap (λ x. x.queues) b.0; seats = of.seats ∙ ap (λ x. x.seats) b.0 } in (
      subst (λ xs. AreSeatsFrom h 0 xs) (sym grown) (seats_more h 0 ss s a.0 there at),
      subst (λ k. AreHired h k rest) (sym up) b.2,
    )

-- with the last seat at the end they are all seats
pub all_back : (h : Hub) (last : PlainSeat) (ss new : List PlainSeat) → IsLastSeat h last → AreSeatsFrom h 0 ss
    → length ss + 1 ≡ h.seats → new ≡ ss ++ last ∷ [] → AreAllSeats h new
all_back h last ss new is back n e =
    let at : last.number ≡ 0 + length ss = omega (arith, is.last, n) in
    let count : length new ≡ h.seats = omega (arith, ap length e, length-append ss (last ∷ []), n) in
    record { in_order = subst (λ xs. AreSeatsFrom h 0 xs) (sym e) (seats_more h 0 ss last back is.seat at); count = count }

-- the seats before the last one
last_seat : (h : Hub) (k : ℕ) (ss : List PlainSeat) (s : PlainSeat) → AreSeatsFrom h k (ss ++ s ∷ [])
    → AreSeatsFrom h k ss × IsSeatOf h s × (s.number ≡ k + length ss)
last_seat h k [] s a = (tt, a.0, omega (arith, a.1))
last_seat h k (x ∷ xs) s a = let r = last_seat h (k + 1) xs s a.2 in let n = r.2 in ((a.0, a.1, r.0), r.1, omega arith)

pub before_last : (h : Hub) (all ss : List PlainSeat) (s : PlainSeat) → AreAllSeats h all → all ≡ ss ++ s ∷ []
    → AreSeatsFrom h 0 ss × IsLastSeat h s × (length ss + 1 ≡ h.seats)
before_last h all ss s a e =
    let r = last_seat h 0 ss s (subst (λ xs. AreSeatsFrom h 0 xs) e a.in_order) in
    let n = r.2 in
    let count : length ss + 1 ≡ h.seats = omega (arith, a.count, ap length e, length-append ss (s ∷ [])) in
    (r.0, record { seat = r.1; last = omega (arith, n, count) }, count)
