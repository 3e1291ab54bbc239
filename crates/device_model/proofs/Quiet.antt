-- Where no event of the order applies.
use Rattle.std.proofs.Common.{◌≡◌, ℕ, Bool, true, false, if◌then◌else◌, ◌<◌, List, [], ◌∷◌, ◌++◌, length, arith, sym, subst, inl, inr, zero, suc}
use Rattle.std.specs.Prelude.{◌⊎◌}
use Rattle.device_model.specs.Events.{Event}
use Rattle.device_model.specs.World.{PlainWorld}
use Rattle.device_model.specs.Applies.{Applies}
use Rattle.device_model.specs.Order.{each, of_seat, fetch_of, order, order_by, NoneApplies, IsQuiet, IsQuietOf}

abbrev pub Never : PlainWorld → Event → Type 0
Never w e = Applies w e → ⊥

none_append : (w : PlainWorld) (xs ys : List Event) → NoneApplies w (xs ++ ys)
    → NoneApplies w xs × NoneApplies w ys
none_append w [] ys h = (tt, h)
none_append w (x ∷ xs) ys h = let d = none_append w xs ys h.1 in ((h.0, d.0), d.1)

same_or_below : (k n : ℕ) → k < suc n → (k ≡ n) ⊎ (k < n)
same_or_below k n h = grind arith

none_each : (w : PlainWorld) (f : ℕ → List Event) (n k : ℕ) → NoneApplies w (each f n) → k < n → NoneApplies w (f k)
none_each w f zero k h lt = absurd (omega (arith, lt))
none_each w f (suc n) k h lt =
    let both = none_append w (each f n) (f n) h in
    elim (same_or_below k n lt) [
      | inl e ↦ subst (λ j. NoneApplies w (f j)) (sym e) both.1
      | inr below ↦ none_each w f n k both.0 below
    ]

-- at a queue of this number nothing is to be done
pub record QuietQueue (asked : ℕ → Bool) (w : PlainWorld) (q : ℕ) : Type 0 where
  pub direct : Never w (Event.Direct q)
  pub enter : Never w (Event.Enter q)
  pub fetch : asked q ≡ true → Never w (Event.Fetch q)

pub record QuietSeat (w : PlainWorld) (k : ℕ) : Type 0 where
  pub leave : Never w (Event.Leave k)
  pub answer : Never w (Event.Answer k)
  pub commit : Never w (Event.Commit k)
  pub put : Never w (Event.Put k)
  pub resume : Never w (Event.Resume k)
  pub take : Never w (Event.Take k)

pub record AllQuiet (asked : ℕ → Bool) (w : PlainWorld) : Type 0 where
  pub answer_tmf : Never w Event.AnswerTmf
  pub check : Never w Event.Check
  pub mark : Never w Event.Mark
  pub raise : Never w Event.Raise
  pub queues : (q : ℕ) → q < length w.queues → QuietQueue asked w q
  pub seats : (k : ℕ) → k < length w.seats → QuietSeat w k

quiet_seat : (w : PlainWorld) (k : ℕ) → NoneApplies w (of_seat k) → QuietSeat w k
quiet_seat w k h =
    record {
      leave = h.0;
      answer = h.1.0;
      commit = h.1.1.0;
      put = h.1.1.1.0;
      resume = h.1.1.1.1.0;
      take = h.1.1.1.1.1.0;
    }

never_asked : (b : Bool) (w : PlainWorld) (q : ℕ) → NoneApplies w (if b then Event.Fetch q ∷ [] else []) → b ≡ true
    → Never w (Event.Fetch q)
never_asked true w q h e = h.0
never_asked false w q h e = absurd (cc)

-- the whole order asks each queue
pub quiet_of_all : (w : PlainWorld) → IsQuiet w → IsQuietOf (λ q. true) w
unfolding order order_by
quiet_of_all w h = h

pub all_quiet : (asked : ℕ → Bool) (w : PlainWorld) → IsQuietOf asked w → AllQuiet asked w
unfolding order_by
all_quiet asked w h =
    let qs = length w.queues in
    let ss = length w.seats in
    let directs : List Event = each (λ q. Event.Direct q ∷ []) qs in
    let enters : List Event = each (λ q. Event.Enter q ∷ []) qs in
    let fetches : List Event = each (fetch_of asked) qs in
    let front = none_append w (Event.AnswerTmf ∷ Event.Check ∷ Event.Mark ∷ Event.Raise ∷ directs)
    (each of_seat ss ++ (enters ++ fetches)) h in
    let seats = none_append w (each of_seat ss) (enters ++ fetches) front.1 in
    let ins = none_append w enters fetches seats.1 in
    record {
      answer_tmf = front.0.0;
      check = front.0.1.0;
      mark = front.0.1.1.0;
      raise = front.0.1.1.1.0;
      queues = λ q lt. record {
        direct = (none_each w (λ k. Event.Direct k ∷ []) qs q front.0.1.1.1.1 lt).0;
        enter = (none_each w (λ k. Event.Enter k ∷ []) qs q ins.0 lt).0;
        fetch = λ e. never_asked (asked q) w q (none_each w (fetch_of asked) qs q ins.1 lt) e;
      };
      seats = λ k lt. quiet_seat w k (none_each w of_seat ss k seats.0 lt);
    }
