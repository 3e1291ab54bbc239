-- A host that deals with the storage of a unit's disk takes a step of the device.
use Rattle.std.proofs.Common.{◌≡◌, ℕ, ◌+◌, Bool, true, false, List, [], ◌∷◌, ◌++◌, length, Option, Some, None, Result, Ok, Err, refl, ap, ◌∙◌, subst, arith}
use Rattle.std.specs.Prelude.{IsTrue, IsFalse, IfOk, IfSome, IfNone, OnErr}
use Rattle.block_store.specs.Storage.{Dealing}
use Rattle.ring_core.specs.Writes.{Write}
use Rattle.device_model.specs.Events.{Event}
use Rattle.device_model.specs.Transitions.{Transition}
use Rattle.device_model.specs.Turns.{Turns}
use Rattle.device_steps.specs.Apart.{PlainDevice, standing}
use Rattle.device_steps.specs.Paging.{IsDealt}
use Rattle.device_steps.specs.Sound.{IsSteady}
use Rattle.world.specs.LiveWorld.{GoesOnLive}
use Rattle.world.specs.Paging.{DealsAsPromised, DealsPromised}
use Rattle.world.proofs.Lively.{AllLiveRuns, ran_none, ran_next, goes_on_live}
use Rattle.world.proofs.Promising.{AllArePromised, AllGoOn, steps_promised}
use Rattle.world.proofs.Reaching.{steady_by, steps_by}
use Rattle.world.proofs.Runs.{bit}

-- What a call says of what it gives, and of nothing given

-- of what was given more is known
pub each_given : {G E : Type 0} (P Q : G → Type 0) → ((g : G) → P g → Q g) → (r : Result (Option G) E)
    → IfOk r (λ o. IfSome o P) → IfOk r (λ o. IfSome o Q)
each_given P Q f (Ok (Some g)) h = f g h
each_given P Q f (Ok None) h = tt
each_given P Q f (Err x) h = tt

-- something was given, or not
pub given_or : {G E : Type 0} (P : G → Type 0) (N S : Type 0) → ((g : G) → P g → S) → (N → S) → (r : Result (Option G) E)
    → IfOk r (λ o. IfSome o P) → IfOk r (λ o. IfNone o N) → OnErr r N → S
given_or P N S f g (Ok (Some x)) some none err = f x some
given_or P N S f g (Ok None) some none err = g none
given_or P N S f g (Err x) some none err = g err

-- it was done, or not
pub each_done : {E : Type 0} (P Q : Type 0) → (P → Q) → (r : Result Bool E) → IfOk r (λ b. IsTrue b → P)
    → IfOk r (λ b. IsTrue b → Q)
each_done P Q f (Ok b) h = λ is. f (h is)
each_done P Q f (Err x) h = tt

pub done_or : {E : Type 0} (P N S : Type 0) → (P → S) → (N → S) → (r : Result Bool E) → IfOk r (λ b. IsTrue b → P)
    → IfOk r (λ b. IsFalse b → N) → OnErr r N → S
done_or P N S f g (Ok true) is not_so err = f (is refl)
done_or P N S f g (Ok false) is not_so err = g (not_so refl)
done_or P N S f g (Err x) is not_so err = g err

-- the same of a call that isn't refused
pub each_lost : (P Q : Type 0) → (P → Q) → (b : Bool) → (IsTrue b → P) → IsTrue b → Q
each_lost P Q f b h = λ is. f (h is)

pub lost_or : (P N S : Type 0) → (P → S) → (N → S) → (b : Bool) → (IsTrue b → P) → (IsFalse b → N) → S
lost_or P N S f g true is not_so = f (is refl)
lost_or P N S f g false is not_so = g (not_so refl)

-- A deal
module _ (old : PlainDevice) (unit_index : ℕ) (x : Dealing) (new : PlainDevice) (h : IsDealt old unit_index x new) where
  -- it is a turn of the device, whatever stands in memory
  pub deal_turns : (shared : Bool) (m : List ℕ)
      → Turns (standing shared m old) (Event.Deal unit_index x) true (standing shared m new)
  deal_turns shared m = (
    Transition.Deal unit_index x,
    refl,
    record { unit = h.unit; there = h.there; may = h.may },
    ap (λ (d : PlainDevice). standing shared m d) h.is,
  )

  pub deal_steady : (shared : Bool) (m : List ℕ) → IsSteady (standing shared m old) → IsSteady (standing shared m new)
  deal_steady shared m s =
      steady_by (standing shared m old) (Event.Deal unit_index x) true (standing shared m new) refl s (deal_turns shared m)

  pub deal_promised : AllArePromised → AllGoOn → (m : List ℕ)
      → DealsAsPromised (standing false m old) unit_index x (standing false m new)
  deal_promised p g m =
      let w = standing false m old in
      let w' = standing false m new in
      record {
        turns = deal_turns false m;
        promise = steps_promised p g w (Event.Deal unit_index x) (Ok true) w'
            (steps_by w (Event.Deal unit_index x) true w' (deal_turns false m));
      }

  -- and it stores nothing
  abbrev none : List Write → Type 0
  none ws = ws ≡ []

  none_both : (us ws : List Write) → none us → none ws → none (us ++ ws)
  none_both us ws p q = ap (λ l. l ++ ws) p ∙ q

  one_more : 0 + bit true ≡ 1
  one_more = omega arith

  pub deal_live : AllArePromised → AllGoOn → AllLiveRuns → (shared : Bool) (size : ℕ) → DealsPromised shared size old unit_index x new
  unfolding deal_turns
  deal_live p g live shared size =
      record {
        dealt = h;
        promise =
            subst (λ n. GoesOnLive shared size old (Event.Deal unit_index x ∷ []) n new) one_more
            (goes_on_live p g live none shared size old (Event.Deal unit_index x ∷ []) (0 + bit true) new
            (λ a b la lb.
            let t = deal_turns shared a in
            ran_next none none none none_both shared size old [] 0 old a a a (Event.Deal unit_index x) true new
            (ran_none none shared size old refl) la la (t.0, t.1, t.2, t.3, refl, refl) a b la lb));
      }
