-- What a seat has, and what its ends know.
use Rattle.std.proofs.Common.{◌≡◌, ◌≢◌, ℕ, ◌+◌, ◌<◌, true, false, List, [], ◌∷◌, ◌++◌, Some, length, map, refl, sym, ap, ◌∙◌, subst, arith, ne_eqb, eq-eqb, inl, inr}
use Rattle.std.proofs.lemmas.List.{map-append, length-map}
use Rattle.std.proofs.lemmas.Option.{slice_get_within}
use Rattle.std.specs.Prelude.{slice_get, slice_set}
use Rattle.atomic_table.specs.Seated.{TableId}
use Rattle.unit_model.specs.Jobs.{PlainJob}
use Rattle.handoff.specs.declared.rule.View.{View}
use Rattle.handoff.specs.declared.seat.Taken.{Taken}
use Rattle.handoff.specs.Moves.{move}
use Rattle.handoff.specs.Inner.Moves.{jobs_by, IsBelow, account}
use Rattle.handoff.specs.Inner.Rule.{newcomer, after_put, after_take}
use Rattle.handoff.specs.Ends.{PlainLane, PlainEnd}
use Rattle.handoff.specs.Inner.Ends.{HasOne, knowing}
use Rattle.handoff.specs.Seats.{Hub, PlainSeat, IsSeatOf, put_there, first_put, move_of, seat_of}
use Rattle.handoff.specs.Inner.Seats.{AreSeatsFrom, AreNew, putting, taking, put_at, account_at, view_at, IsSeated}
use Rattle.handoff.specs.Inner.Lanes.{end_of, at_each, lead}
use Rattle.handoff.proofs.Moves.{below_append}
use Rattle.handoff.proofs.Rules.{own_grows, other_stays}
use Rattle.handoff.proofs.Lists.{same_list, get_set, map_set_same, set_length, map_back, stands_at, at_or_not}

pub seats_snoc : (h : Hub) (k : ℕ) (ss : List PlainSeat) (s : PlainSeat) → AreSeatsFrom h k ss → IsSeatOf h s → s.number ≡ k + length ss → AreSeatsFrom h k (ss ++ s ∷ [])
seats_snoc h k [] s a of is = (of, omega arith, tt)
seats_snoc h k (x ∷ xs) s a of is = (a.0, a.1, seats_snoc h (k + 1) xs s a.2 of (omega arith))

pub new_snoc : (ss : List PlainSeat) (s : PlainSeat) → AreNew ss → s.put ≡ [] → s.taken ≡ [] → AreNew (ss ++ s ∷ [])
new_snoc [] s a p t = (p, t, tt)
new_snoc (x ∷ xs) s a p t = (a.0, a.1, new_snoc xs s a.2 p t)

-- What an end knows

-- of its own puts
pub own_put : (n : ℕ) (s : PlainSeat) → n ≡ s.number → put_at n s ≡ s.put
own_put n s e = rw (eq-eqb n s.number e) refl

pub no_put : (n : ℕ) (s : PlainSeat) → n ≢ s.number → put_at n s ≡ []
no_put n s ne = rw (ne_eqb n s.number ne) refl

-- a view with these puts and takes
abbrev seen : PlainSeat → List PlainJob → List PlainJob → View
seen s p t = record { accounts = account s.number p t ∷ []; is_chief = (view_at 0 s).is_chief; made = (view_at 0 s).made }

put_here : (q : ℕ) (s : PlainSeat) (v : View) (job : PlainJob) → q ≡ s.number → v ≡ view_at q s
    → after_put v job ≡ view_at q (putting s job)
put_here q s v job e is =
    let grown : put_at q s ++ job ∷ [] ≡ put_at q (putting s job) =
    ap (λ l. l ++ job ∷ []) (own_put q s e) ∙ sym (own_put q (putting s job) e) in
    ap (λ w. after_put w job) is ∙ ap (λ p. seen s p (jobs_by q s.taken)) grown

put_else : (q : ℕ) (s : PlainSeat) (job : PlainJob) → q ≢ s.number → view_at q s ≡ view_at q (putting s job)
put_else q s job ne = ap (λ p. seen s p (jobs_by q s.taken)) (no_put q s ne ∙ sym (no_put q (putting s job) ne))

take_here : (q : ℕ) (s : PlainSeat) (v : View) (job : PlainJob) → v ≡ view_at q s
    → after_take v job ≡ view_at q (taking q s job)
take_here q s v job is =
    ap (λ w. after_take w job) is ∙ ap (λ t. seen s (put_at q s) t) (sym (own_grows q s.taken job))

take_else : (q from : ℕ) (s : PlainSeat) (job : PlainJob) → q ≢ from → view_at q s ≡ view_at q (taking from s job)
take_else q from s job ne =
    ap (λ t. seen s (put_at q s) t) (sym (other_stays q from s.taken job (λ e. ne (sym e))))

-- it has one account
pub has_one : (q : ℕ) (s : PlainSeat) (ends : List PlainEnd) (p : PlainEnd) → IsSeated s ends
    → slice_get ends q ≡ Some p → HasOne p.knows
has_one q s ends p h at = (account_at q s, ap (λ v. v.accounts) (h.each q p at))

-- The seat

abbrev Knows : List PlainEnd → PlainSeat → Type 0
Knows ends s = (q : ℕ) (p : PlainEnd) → slice_get ends q ≡ Some p → p.knows ≡ view_at q s

-- what it has is what its ends know
module _ (number : ℕ) (ends : List PlainEnd) (taken : List Taken) (s : PlainSeat)
    (queues : map (λ (p : PlainEnd). p.queue) ends ≡ s.queues) (count : length ends ≡ s.seats) (is : number ≡ s.number)
    (took : map move_of taken ≡ s.taken) (within : s.number < s.seats) (each : Knows ends s) where
  own_there : put_there (slice_get ends number) ≡ s.put
  own_there =
      let own = stands_at ends number (omega (arith, is, count, within)) in
      ap put_there own.1 ∙ ap (λ v. first_put v.accounts) (each number own.0 own.1) ∙ own_put number s is

  pub seat_is : seat_of number ends taken
      ≡ record { queues = s.queues; number = s.number; seats = s.seats; put = s.put; taken = s.taken }
  seat_is =
      λ i. record { queues = queues i; number = is i; seats = count i; put = own_there i; taken = took i }

-- it stays the seat that it is
still_seated : (s t : PlainSeat) (ends : List PlainEnd) → t ≡ s → s.number < s.seats → IsBelow s.seats s.taken
    → Knows ends s → IsSeated t ends
still_seated s t ends e within below each =
    subst (λ z. IsSeated z ends) (sym e) (record { number = within; below = below; each = each })

-- After a put

module _ (number : ℕ) (ends : List PlainEnd) (taken : List Taken) (job : PlainJob) (p new : PlainEnd)
    (h : IsSeated (seat_of number ends taken) ends) (at : slice_get ends number ≡ Some p)
    (put : new ≡ knowing (after_put p.knows job) p) where
  abbrev old_seat : PlainSeat
  old_seat = seat_of number ends taken

  abbrev set_ends : List PlainEnd
  set_ends = slice_set ends number new

  put_knows : Knows set_ends (putting old_seat job)
  put_knows q z there =
      elim (get_set ends number q new z there) [
        | inl is ↦
            ap (λ (x : PlainEnd). x.knows) (is.1 ∙ put)
            ∙ ap (λ v. after_put v job) (h.each number p at)
            ∙ put_here number old_seat (view_at number old_seat) job refl refl
            ∙ ap (λ k. view_at k (putting old_seat job)) (sym is.0)
        | inr other ↦ h.each q z other.1 ∙ put_else q old_seat job other.0
      ]

  pub seat_put : seat_of number set_ends taken ≡ putting old_seat job
  seat_put =
      seat_is number set_ends taken (putting old_seat job)
      (map_set_same (λ (x : PlainEnd). x.queue) ends number p new at (ap (λ (x : PlainEnd). x.queue) put))
      (set_length ends number new) refl refl h.number put_knows

  pub put_seated : IsSeated (seat_of number set_ends taken) set_ends
  put_seated =
      still_seated (putting old_seat job) (seat_of number set_ends taken) set_ends seat_put h.number h.below put_knows

-- After a take

module _ (number : ℕ) (ends : List PlainEnd) (taken : List Taken) (job : PlainJob) (from : ℕ) (p new : PlainEnd)
    (h : IsSeated (seat_of number ends taken) ends) (at : slice_get ends from ≡ Some p)
    (took : new ≡ knowing (after_take p.knows job) p) (more : List Taken) (t : Taken) (is : more ≡ taken ++ t ∷ [])
    (moved : move_of t ≡ move from job) where
  abbrev old_taker : PlainSeat
  old_taker = seat_of number ends taken

  abbrev less_ends : List PlainEnd
  less_ends = slice_set ends from new

  take_knows : Knows less_ends (taking from old_taker job)
  take_knows q z there =
      elim (get_set ends from q new z there) [
        | inl is ↦
            ap (λ (x : PlainEnd). x.knows) (is.1 ∙ took)
            ∙ take_here from old_taker p.knows job (h.each from p at)
            ∙ ap (λ k. view_at k (taking from old_taker job)) (sym is.0)
        | inr other ↦ h.each q z other.1 ∙ take_else q from old_taker job other.0
      ]

  within : from < length ends
  within = slice_get_within ends from p at

  below_taken : IsBelow (length ends) (map move_of taken ++ move from job ∷ [])
  below_taken = below_append (length ends) (map move_of taken) (move from job ∷ []) h.below (within, tt)

  pub seat_took : seat_of number less_ends more ≡ taking from old_taker job
  seat_took =
      seat_is number less_ends more (taking from old_taker job)
      (map_set_same (λ (x : PlainEnd). x.queue) ends from p new at (ap (λ (x : PlainEnd). x.queue) took))
      (set_length ends from new) refl
      (ap (λ l. map move_of l) is ∙ map-append move_of taken (t ∷ []) ∙ ap (λ m. map move_of taken ++ m ∷ []) moved)
      h.number take_knows

  pub take_seated : IsSeated (seat_of number less_ends more) less_ends
  take_seated =
      still_seated (taking from old_taker job) (seat_of number less_ends more) less_ends seat_took h.number
      below_taken take_knows

-- A new seat

abbrev fresh : ℕ → ℕ → List TableId → PlainSeat
fresh number seats queues = record { queues = queues; number = number; seats = seats; put = []; taken = [] }

abbrev queues_of : List PlainLane → List TableId
queues_of lanes = map (λ (l : PlainLane). l.queue) lanes

queues_of_ends : (v : View) (lanes : List PlainLane) → map (λ (p : PlainEnd). p.queue) (at_each v lanes) ≡ queues_of lanes
queues_of_ends v [] = refl
queues_of_ends v (l ∷ lanes) = ap (λ qs. l.queue ∷ qs) (queues_of_ends v lanes)

-- a seat whose ends know this alone has nothing yet
knows_fresh : (v : View) (lanes : List PlainLane) (number : ℕ)
    → ((q : ℕ) → v ≡ view_at q (fresh number (length lanes) (queues_of lanes)))
    → Knows (at_each v lanes) (fresh number (length lanes) (queues_of lanes))
knows_fresh v lanes number is q p there =
    let l = map_back (end_of v) lanes q p there in
    ap (λ (x : PlainEnd). x.knows) (sym l.2) ∙ is q

put_nothing : (q : ℕ) (s : PlainSeat) → s.put ≡ [] → put_at q s ≡ []
put_nothing q s e =
    elim (at_or_not q s.number) [
      | inl is ↦ own_put q s is ∙ e
      | inr ne ↦ no_put q s ne
    ]

newcomer_view : (number seats q : ℕ) (queues : List TableId) → 0 < number
    → newcomer (lead number) ≡ view_at q (fresh number seats queues)
newcomer_view number seats q queues lt =
    let ne : number ≢ 0 = λ z. omega (arith, z, lt) in
    let e = put_nothing q (fresh number seats queues) refl in
    rw (ne_eqb number 0 ne) (ap (λ p. record { accounts = account number p [] ∷ []; is_chief = false; made = 0 }) (sym e))

lead_view : (seats q : ℕ) (queues : List TableId) → lead seats ≡ view_at q (fresh 0 seats queues)
lead_view seats q queues =
    let e = put_nothing q (fresh 0 seats queues) refl in
    ap (λ p. record { accounts = account 0 p [] ∷ []; is_chief = true; made = seats }) (sym e)

module _ (v : View) (lanes : List PlainLane) (number : ℕ) (within : number < length lanes)
    (is : (q : ℕ) → v ≡ view_at q (fresh number (length lanes) (queues_of lanes))) where
  pub new_seat : seat_of number (at_each v lanes) [] ≡ fresh number (length lanes) (queues_of lanes)
  new_seat =
      seat_is number (at_each v lanes) [] (fresh number (length lanes) (queues_of lanes)) (queues_of_ends v lanes)
      (length-map lanes (end_of v)) refl refl within (knows_fresh v lanes number is)

  pub new_seated : IsSeated (seat_of number (at_each v lanes) []) (at_each v lanes)
  new_seated =
      still_seated (fresh number (length lanes) (queues_of lanes)) (seat_of number (at_each v lanes) []) (at_each v lanes)
      new_seat within tt (knows_fresh v lanes number is)

pub newcomer_is : (lanes : List PlainLane) (number : ℕ) → 0 < number → (q : ℕ)
    → newcomer (lead number) ≡ view_at q (fresh number (length lanes) (queues_of lanes))
newcomer_is lanes number lt q = newcomer_view number (length lanes) q (queues_of lanes) lt

pub lead_is : (lanes : List PlainLane) (q : ℕ)
    → lead (length lanes) ≡ view_at q (fresh 0 (length lanes) (queues_of lanes))
lead_is lanes q = lead_view (length lanes) q (queues_of lanes)

-- ends that stand for each queue are an end of each
pub all_made : (v : View) (lanes : List PlainLane) (ends : List PlainEnd) → length ends ≡ length lanes
    → ((q : ℕ) (x : PlainLane) → slice_get lanes q ≡ Some x → slice_get ends q ≡ Some (end_of v x))
    → ends ≡ at_each v lanes
all_made v lanes ends count each =
    same_list ends (at_each v lanes) (count ∙ sym (length-map lanes (end_of v)))
    (λ q y at. let l = map_back (end_of v) lanes q y at in each q l.0 l.1 ∙ ap Some l.2)

-- a seat that is made of such ends
module _ (v : View) (lanes given : List PlainLane) (ends : List PlainEnd) (taken : List Taken) (number : ℕ)
    (same_lanes : given ≡ lanes) (made : ends ≡ at_each v given) (none : taken ≡ []) (within : number < length lanes)
    (is : (q : ℕ) → v ≡ view_at q (fresh number (length lanes) (queues_of lanes))) where
  all_there : ends ≡ at_each v lanes
  all_there = made ∙ ap (λ ls. at_each v ls) same_lanes

  pub made_seat : seat_of number ends taken ≡ fresh number (length lanes) (queues_of lanes)
  made_seat =
      ap (λ ps. seat_of number ps taken) all_there ∙ ap (λ ts. seat_of number (at_each v lanes) ts) none
      ∙ new_seat v lanes number within is

  pub made_seated : IsSeated (seat_of number ends taken) ends
  made_seated =
      subst (λ ps. IsSeated (seat_of number ps taken) ps) (sym all_there)
      (subst (λ ts. IsSeated (seat_of number (at_each v lanes) ts) (at_each v lanes)) (sym none)
      (new_seated v lanes number within is))
