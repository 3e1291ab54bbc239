-- What an act adds to what the acts of a history weigh.
use Rattle.std.proofs.Common.{◌≡◌, ℕ, ◌+◌, ◌++◌, Bool, true, false, List, [], ◌∷◌, Option, Some, None, Ok, slice_get, get_or, length, ◌<◌, sym, subst, ap, ◌∙◌, arith, if◌then◌else◌}
use Rattle.std.specs.List.{sum_by}
use Rattle.std.proofs.lemmas.List.Sums.{sum_by-cons}
use Rattle.std.proofs.lemmas.Option.{same_Some, slice_get-get_or}
use Rattle.scsi_codec.specs.declared.lun.Address.{Address}
use Rattle.scsi_codec.specs.declared.event_queue.Event.{Event as EventRecord}
use Rattle.request_intake.specs.Inventory.{PlainInventory}
use Rattle.unit_model.specs.Jobs.{Jobs}
use Rattle.unit_model.specs.Steps.{Step}
use Rattle.unit_model.specs.Unit.{PlainUnit, is_backed}
use Rattle.unit_model.specs.Receipts.{unit_address}
use Rattle.device_model.specs.Addressed.{IsAddressed}
use Rattle.device_model.proofs.Withheld.{step_backed}
use Rattle.phases.specs.Resetting.{Resets}
use Rattle.phases.specs.Resizing.{ResizesUnit}
use Rattle.lock_scopes.specs.Ledgers.{KeepsActs}
use Rattle.lock_scopes.specs.declared.acts.Act.{Act}
use Rattle.lock_scopes.specs.declared.acts.Act.TheVariants as act
use Rattle.lock_scopes.specs.Acts.{acts_of, weight_of, act_weight, acts_with, reset_of, resize_of}

-- the acts of a unit weigh the same while they stay
pub keeps_weight : (weight : Address → Option ℕ → ℕ) (u v : PlainUnit) → KeepsActs u v
    → weight_of weight (unit_address v.opening) v.steps ≡ weight_of weight (unit_address u.opening) u.steps
keeps_weight weight u v kept =
    ap (λ o. weight_of weight (unit_address o) v.steps) kept.1
    ∙ ap (λ acts. sum_by (weight (unit_address u.opening)) acts) kept.0

-- one more act adds its weight
adds : (weight : Address → Option ℕ → ℕ) (inventory : PlainInventory) (at : ℕ) (u v : PlainUnit) (address : Address) (x : Option ℕ)
    (old new : ℕ) → slice_get inventory.addresses at ≡ Some address → IsAddressed inventory at u
    → acts_of v.steps ≡ x ∷ acts_of u.steps → v.opening ≡ u.opening
    → old ≡ weight_of weight (unit_address u.opening) u.steps → new ≡ old + weight address x
    → new ≡ weight_of weight (unit_address v.opening) v.steps
adds weight inventory at u v address x old new there is acts opening before behind =
    let one : weight address x ≡ weight (unit_address u.opening) x = ap (λ a. weight a x) (same_Some _ _ (sym there ∙ is.0)) in
    let more : weight_of weight (unit_address v.opening) v.steps
    ≡ weight (unit_address u.opening) x + weight_of weight (unit_address u.opening) u.steps =
    ap (λ o. sum_by (weight (unit_address o)) (acts_of v.steps)) opening
    ∙ ap (λ l. sum_by (weight (unit_address u.opening)) l) acts
    ∙ sum_by-cons (weight (unit_address u.opening)) x (acts_of u.steps) in
    omega (arith, one, more, before, behind)

pub reset_weighs : (weight : Address → Option ℕ → ℕ) (inventory : PlainInventory) (at : ℕ) (u v : PlainUnit) (address : Address)
    (out out' : Jobs) (w w' : List EventRecord) (was : Bool) (old new : ℕ)
    → slice_get inventory.addresses at ≡ Some address → was ≡ true → Resets inventory at u out w (Ok was) v out' w'
    → old ≡ weight_of weight (unit_address u.opening) u.steps → new ≡ old + act_weight weight (act.Reset address)
    → new ≡ weight_of weight (unit_address v.opening) v.steps
reset_weighs weight inventory at u v address out out' w w' was old new there is did before behind =
    let resets = subst (λ b. Resets inventory at u out w (Ok b) v out' w') is did in
    adds weight inventory at u v address None old new there resets.0 (ap (λ z. acts_of z.steps) resets.1.is)
    (ap (λ z. z.opening) resets.1.is) before behind

pub resize_weighs : (weight : Address → Option ℕ → ℕ) (inventory : PlainInventory) (at : ℕ) (u v : PlainUnit) (address : Address)
    (blocks : ℕ) (told : Bool) (w w' : List EventRecord) (was : Bool) (old new : ℕ)
    → slice_get inventory.addresses at ≡ Some address → was ≡ true → ResizesUnit inventory at u blocks told w (Ok was) v w'
    → old ≡ weight_of weight (unit_address u.opening) u.steps → new ≡ old + act_weight weight (act.Resize address blocks told)
    → new ≡ weight_of weight (unit_address v.opening) v.steps
resize_weighs weight inventory at u v address blocks told w w' was old new there is did before behind =
    let resizes = subst (λ b. ResizesUnit inventory at u blocks told w (Ok b) v w') is did in
    adds weight inventory at u v address (Some blocks) old new there resizes.0 (ap (λ z. acts_of z.steps) resizes.1.is)
    (ap (λ z. z.opening) resizes.1.is) before behind

-- neither act makes a disk one whose pages come and go
pub reset_resident : (inventory : PlainInventory) (at : ℕ) (u v : PlainUnit) (out out' : Jobs) (w w' : List EventRecord) (was : Bool)
    → was ≡ true → Resets inventory at u out w (Ok was) v out' w' → is_backed u ≡ false → is_backed v ≡ false
reset_resident inventory at u v out out' w w' was is did resident =
    let resets = subst (λ b. Resets inventory at u out w (Ok b) v out' w') is did in
    ap is_backed resets.1.is ∙ resident

pub resize_resident : (inventory : PlainInventory) (at : ℕ) (u v : PlainUnit) (blocks : ℕ) (told : Bool) (w w' : List EventRecord)
    (was : Bool) → was ≡ true → ResizesUnit inventory at u blocks told w (Ok was) v w' → is_backed u ≡ false → is_backed v ≡ false
resize_resident inventory at u v blocks told w w' was is did resident =
    let resizes = subst (λ b. ResizesUnit inventory at u blocks told w (Ok b) v w') is did in
    ap is_backed resizes.1.is ∙ step_backed (Step.Resize blocks) u ∙ resident

-- the address at an index of the inventory
pub found : (inventory all : List Address) (at : ℕ) (address : Address) → all ≡ inventory → at < length all
    → address ≡ get_or all at address → slice_get inventory at ≡ Some address
found inventory all at address is there e =
    subst (λ l. slice_get l at ≡ Some address) is (slice_get-get_or all at address there ∙ ap Some (sym e))

-- the act is that of the unit of this index
pub reset_made : (inventory : PlainInventory) (at : ℕ) (address : Address) (was : Bool) (old new : List Act)
    → slice_get inventory.addresses at ≡ Some address → was ≡ true → new ≡ old ++ act.Reset address ∷ []
    → new ≡ (if was then acts_with (reset_of (slice_get inventory.addresses at)) old else old)
reset_made inventory at address was old new there is made =
    subst (λ b. new ≡ (if b then acts_with (reset_of (slice_get inventory.addresses at)) old else old)) (sym is)
    (subst (λ o. new ≡ acts_with (reset_of o) old) (sym there) made)

pub resize_made : (inventory : PlainInventory) (at : ℕ) (address : Address) (blocks : ℕ) (told was : Bool) (old new : List Act)
    → slice_get inventory.addresses at ≡ Some address → was ≡ true → new ≡ old ++ act.Resize address blocks told ∷ []
    → new ≡ (if was then acts_with (resize_of blocks told (slice_get inventory.addresses at)) old else old)
resize_made inventory at address blocks told was old new there is made =
    subst (λ b. new ≡ (if b then acts_with (resize_of blocks told (slice_get inventory.addresses at)) old else old)) (sym is)
    (subst (λ o. new ≡ acts_with (resize_of blocks told o) old) (sym there) made)
