-- A turn of the device in a memory of its own.
use Rattle.std.proofs.Common.{◌≡◌, inl, inr, ℕ, ◌+◌, Bool, false, List, Option, Some, None, Result, Ok, Err, refl, sym, ap, ◌∙◌, subst}
use Rattle.foundation.specs.declared.NoMemory.{NoMemory}
use Rattle.ring_core.specs.Writes.{Write}
use Rattle.device_model.specs.Order.{IsQuietOf}
use Rattle.phases.proofs.Behind.{each_own}
use Rattle.device_steps.specs.Apart.{PlainDevice, standing}
use Rattle.device_steps.specs.Settling.{order_for, ServesBy, MayWantFirst}
use Rattle.device_steps.specs.Serving.{ServesSeen, FollowsSeen, ServesInPhase}
use Rattle.device_steps.specs.Inner.Cursors.{TurnsNext, TurnsNextIn}
use Rattle.device_steps.specs.declared.cursor.Progress.{Progress}
use Rattle.device_steps.proofs.Sequences.{serves_more}

abbrev Own : List ℕ → List ℕ → Type 0
Own x m = m ≡ x

one_more : (n later : ℕ) → n ≡ 1 + later → 1 + later ≡ n
one_more n later e = sym e

serves_own : (stored : List ℕ → List ℕ → List Write → Type 0) (asked : ℕ → Bool) (x : List ℕ) (d : PlainDevice) (count : ℕ) (y : List ℕ) (d' : PlainDevice)
    → ServesInPhase false Own stored asked x d count y d' → ServesBy asked (standing false x d) count (standing false y d')
serves_own stored asked x d count y d' (inl p) =
    let h = each_own x y (λ found left seen. FollowsSeen asked (stored x y) seen (standing false found d) 1 (standing false left d')) p.1 in
    subst (λ n. ServesBy asked (standing false x d) n (standing false y d')) (sym p.0) h.serves
serves_own stored asked x d count y d' (inr (inl p)) =
    let h = each_own p.1.read y
    (λ found left seen. ServesSeen asked (stored x y) seen (standing false found d) 1 (standing false left d')) p.1.each_seen in
    subst (λ n. ServesBy asked (standing false x d) n (standing false y d')) (sym p.0)
    (subst (λ m. ServesBy asked (standing false m d) 1 (standing false y d')) (p.1.stays p.1.read refl) h.serves)
serves_own stored asked x d count y d' (inr (inr p)) =
    let first = each_own x p.read
    (λ found left seen. ServesSeen asked (stored x p.read) seen (standing false found d) 1 (standing false left p.taken)) p.takes in
    let then = each_own p.read y
    (λ found left seen. FollowsSeen asked (stored p.read y) seen (standing false found p.taken) p.later (standing false left d')) p.follows in
    subst (λ n. ServesBy asked (standing false x d) n (standing false y d')) (one_more count p.later p.counted)
    (serves_more asked (standing false x d) (standing false p.read p.taken) (standing false y d') 1 p.later first.serves
    then.serves)

-- a turn of any memory is one of its own
pub next_own : (stored : List ℕ → List ℕ → List Write → Type 0) (asked : ℕ → Bool) (most : ℕ) (x : List ℕ) (d : PlainDevice) (r : Result (Option Progress) NoMemory) (y : List ℕ)
    (d' : PlainDevice) → TurnsNextIn false Own stored asked most x d r y d'
    → TurnsNext asked most (standing false x d) r (standing false y d')
next_own stored asked most x d (Ok (Some s)) y d' t =
    record {
      some = t.some;
      few = t.few;
      serves = serves_own stored asked x d s.steps y d' t.serves;
      before = t.before y;
    }
next_own stored asked most x d (Ok None) y d' t =
    let f = t.1 y refl in (
      ap (λ (k : PlainDevice). standing false y k) t.0 ∙ ap (λ (m : List ℕ). standing false m d) f.0,
      subst (λ m. IsQuietOf asked (standing false m d)) f.0 f.1,
    )
next_own stored asked most x d (Err e) y d' t =
    let f = t.1 y refl in (
      ap (λ (k : PlainDevice). standing false y k) t.0 ∙ ap (λ (m : List ℕ). standing false m d) f.0,
      subst (λ m. MayWantFirst (standing false m d) (order_for asked (standing false m d))) f.0 f.1,
    )
