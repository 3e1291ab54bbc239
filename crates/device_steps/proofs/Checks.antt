-- What a check of the open function does is a turn of its event.
use Rattle.std.proofs.Common.{◌≡◌, ℕ, Bool, true, false, List, [], ◌∷◌, Option, Some, inl, inr, refl, sym, ap, ◌∙◌}
use Rattle.std.specs.Prelude.{slice_get}
use Rattle.unit_model.specs.Clearing.{is_clear}
use Rattle.unit_model.specs.Unit.{PlainUnit}
use Rattle.task_mgmt.specs.Functions.{checking}
use Rattle.task_mgmt.specs.declared.function.Mark.{Mark as MarkAt}
use Rattle.device_model.specs.World.{Opened, PlainWorld, AreAddressed}
use Rattle.device_model.specs.Events.{Event}
use Rattle.device_model.specs.Transitions.{Transition}
use Rattle.device_model.specs.Changing.{on_function}
use Rattle.device_model.specs.Event.Check.{MayCheck}
use Rattle.device_model.specs.Event.Check.{IsWaiting}
use Rattle.device_model.specs.Turns.{Turns}
use Rattle.device_model.proofs.Joining.{joins}
use Rattle.device_model.proofs.Lists.{same}
use Rattle.phases.specs.Units.{Checks, ChecksFirst, ChecksMark}

-- the world with this function
abbrev with_function : Option Opened → PlainWorld → PlainWorld
with_function f w = record w { function = f }

-- a list with an item isn't empty
not_empty : {X : Type 0} {x : X} {xs : List X} → x ∷ xs ≡ [] → ⊥
not_empty e = cc

-- an empty list has no first item
no_first : {X : Type 0} {x : X} {xs : List X} → [] ≡ x ∷ xs → ⊥
no_first e = cc

-- lists that begin alike have the same first item
same_first : {X : Type 0} {x y : X} {xs ys : List X} → x ∷ xs ≡ y ∷ ys → x ≡ y
same_first e = cc

-- no mark is both clear and not
not_both : {b : Bool} → b ≡ false → b ≡ true → ⊥
not_both e h = cc

-- a mark that isn't clear keeps its function from going on
not_clear : (w : PlainWorld) (f : Opened) (p : MarkAt) (later : List MarkAt) (u : PlainUnit) → w.function ≡ Some f
    → f.function.waits ≡ p ∷ later → slice_get w.units p.unit ≡ Some u → is_clear p.place u.steps ≡ false
    → MayCheck w → ⊥
not_clear w f p later u there waits at unclear h =
    let opened : f ≡ h.opened = same (sym there ∙ h.there) in
    let mark : p ≡ h.mark =
    same_first (sym waits ∙ ap (λ (o : Opened). o.function.waits) opened ∙ h.still) in
    let unit : u ≡ h.unit = same (sym at ∙ ap (λ (m : MarkAt). slice_get w.units m.unit) mark ∙ h.unit_there) in
    not_both unclear
    (ap (λ (m : MarkAt). is_clear m.place u.steps) mark
    ∙ ap (λ (v : PlainUnit). is_clear h.mark.place v.steps) unit ∙ h.clear)

-- a mark that is clear
mark_turns : (w : PlainWorld) (f f' : Opened) (p : MarkAt) (later : List MarkAt) (u : PlainUnit) → AreAddressed w
    → w.function ≡ Some f → f.function.left ≡ [] → f.function.waits ≡ p ∷ later → slice_get w.units p.unit ≡ Some u
    → ChecksMark w.inventory f p u f' → Turns w Event.Check true (with_function (Some f') w)
mark_turns w f f' p later u addressed there left waits here (inr h) = absurd (h.0 (addressed p.unit u here))
mark_turns w f f' p later u addressed there left waits here (inl h) =
    let waiting : IsWaiting w f.chain.ticket (p ∷ later) =
    record { opened = f; there = there; of = refl; left = left; still = waits } in (
      Transition.Check f.chain.ticket p,
      refl,
      joins (Transition.Check f.chain.ticket p) w (later, waiting) (u, here, h.1.asks) tt,
      ap (λ o. with_function o w)
          (ap (λ o. Some o) h.2 ∙ ap (λ o. on_function checking o) (sym there)),
    )

-- by what is left to visit, and what is waited for
first_turns : (w : PlainWorld) (f f' : Opened) (left : List ℕ) (waits : List MarkAt) (mark : MarkAt) (u : PlainUnit)
    (r : Bool) → AreAddressed w → w.function ≡ Some f → f.function.left ≡ left → f.function.waits ≡ waits
    → slice_get waits 0 ≡ Some mark → slice_get w.units mark.unit ≡ Some u → ChecksFirst w.inventory f left waits u r f'
    → Turns w Event.Check r (with_function (Some f') w)
first_turns w f f' [] (p ∷ later) mark u true addressed there left waits first at h =
    let here = ap (λ (m : MarkAt). slice_get w.units m.unit) (same first) ∙ at in
    mark_turns w f f' p later u addressed there left waits here h
first_turns w f f' [] (p ∷ later) mark u false addressed there left waits first at h =
    let here = ap (λ (m : MarkAt). slice_get w.units m.unit) (same first) ∙ at in (
      ap (λ o. with_function o w) (ap (λ o. Some o) h.2 ∙ sym there),
      not_clear w f p later u there waits here h.1,
    )
first_turns w f f' [] [] mark u true addressed there left waits first at h = absurd h
first_turns w f f' [] [] mark u false addressed there left waits first at h = (
  ap (λ o. with_function o w) (ap (λ o. Some o) h ∙ sym there),
  λ may.
      no_first
      (sym waits ∙ ap (λ (o : Opened). o.function.waits) (same (sym there ∙ may.there)) ∙ may.still),
)
first_turns w f f' (unit_index ∷ more) waits mark u true addressed there left still first at h = absurd h
first_turns w f f' (unit_index ∷ more) waits mark u false addressed there left still first at h = (
  ap (λ o. with_function o w) (ap (λ o. Some o) h ∙ sym there),
  λ may.
      not_empty
      (sym left ∙ ap (λ (o : Opened). o.function.left) (same (sym there ∙ may.there)) ∙ may.left),
)

-- what a check does is a turn of its event
pub check_turns : (w : PlainWorld) (f f' : Opened) (mark : MarkAt) (u : PlainUnit) (r : Bool) → AreAddressed w
    → w.function ≡ Some f → slice_get f.function.waits 0 ≡ Some mark → slice_get w.units mark.unit ≡ Some u
    → Checks w.inventory f u r f' → Turns w Event.Check r (with_function (Some f') w)
check_turns w f f' mark u r addressed there first at h =
    first_turns w f f' f.function.left f.function.waits mark u r addressed there refl refl first at h
