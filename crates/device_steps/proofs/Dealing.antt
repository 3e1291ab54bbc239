-- A host deals with the storage of the unit that it is lent, and so with the device's.
use Rattle.std.proofs.Common.{◌≡◌, ◌<◌, ◌*◌, ℕ, Bool, true, List, Option, Some, None, Result, Ok, Err, ap, ◌∙◌}
use Rattle.std.specs.Prelude.{slice_get, slice_set, IsTrue, IsFalse, IfOk, IfSome, IfNone, OnErr}
use Rattle.backed_store.specs.declared.dealing.GivenPage.{GivenPage}
use Rattle.block_store.specs.Storage.{Dealing}
use Rattle.unit_model.specs.Contents.{capacity_of}
use Rattle.unit_model.specs.Unit.{PlainUnit, MayDeal, is_backed, dealing}
use Rattle.device_steps.specs.Apart.{PlainDevice}
use Rattle.device_steps.specs.Paging.{HasPage, IsDealt}
use Rattle.device_steps.proofs.Setting.{unit_change, unit_still}

-- The unit at an index, and what it is once it is given back
module _ (d : PlainDevice) (p : ℕ) (u v : PlainUnit) (at : slice_get d.units p ≡ Some u) where
  -- the device with it
  abbrev lent : PlainDevice
  lent = record d { units = slice_set d.units p v }

  pub dealt : (x : Dealing) → MayDeal u x → v ≡ dealing x u → IsDealt d p x lent
  dealt x may is =
      record {
        unit = u;
        there = at;
        may = may;
        is = ap (λ (us : List PlainUnit). record d { units = us }) (unit_change (dealing x) d.units p u v at is);
      }

  pub still : v ≡ u → lent ≡ d
  still is = ap (λ (us : List PlainUnit). record d { units = us }) (unit_still d.units p u v at is)

  pub wanted : (r : Option ℕ) → IfSome r (λ page. is_backed u ≡ true)
      → IfSome r (λ page. 8 * page < capacity_of u.opening u.steps) → IfSome r (λ page. HasPage d.units p page)
  wanted (Some page) is below = record { unit = u; there = at; backed = is; below = below }
  wanted None is below = tt

  module _ {E : Type 0} where
    pub given : (r : Result (Option GivenPage) E)
        → IfOk r (λ o. IfSome o (λ g. MayDeal u (Dealing.Give g.page g.bytes.items)))
        → IfOk r (λ o. IfSome o (λ g. v ≡ dealing (Dealing.Give g.page g.bytes.items) u))
        → IfOk r (λ o. IfSome o (λ g. IsDealt d p (Dealing.Give g.page g.bytes.items) lent))
    given (Ok (Some g)) may is = dealt (Dealing.Give g.page g.bytes.items) may is
    given (Ok None) may is = tt
    given (Err x) may is = tt

    pub given_none : (r : Result (Option GivenPage) E) → IfOk r (λ o. IfNone o (v ≡ u)) → IfOk r (λ o. IfNone o (lent ≡ d))
    given_none (Ok (Some g)) is = tt
    given_none (Ok None) is = still is
    given_none (Err x) is = tt

    pub kept : (x : Dealing) (r : Result Bool E) → IfOk r (λ b. IsTrue b → MayDeal u x)
        → IfOk r (λ b. IsTrue b → v ≡ dealing x u) → IfOk r (λ b. IsTrue b → IsDealt d p x lent)
    kept x (Ok b) may is = λ yes. dealt x (may yes) (is yes)
    kept x (Err e) may is = tt

    pub kept_not : (r : Result Bool E) → IfOk r (λ b. IsFalse b → v ≡ u) → IfOk r (λ b. IsFalse b → lent ≡ d)
    kept_not (Ok b) is = λ no. still (is no)
    kept_not (Err e) is = tt

    pub refused : {X : Type 0} (r : Result X E) → OnErr r (v ≡ u) → OnErr r (lent ≡ d)
    refused (Ok x) is = tt
    refused (Err e) is = still is
