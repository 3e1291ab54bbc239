-- A unit that was found is one of its target.
use Rattle.std.proofs.Common.{◌≡◌, ℕ, Bool, true, false, ◌&&◌, ◌==◌, List, Some, refl}
use Rattle.std.proofs.lemmas.List.Folds.{list_any_at}
use Rattle.std.proofs.lemmas.List.Quantifiers.{position-Some}
use Rattle.scsi_codec.specs.declared.lun.Address.{Address}
use Rattle.request_intake.specs.Inventory.{has_target, index_of}

left : (a b : Bool) → (a && b) ≡ true → a ≡ true
left true b e = refl
left false b e = absurd (cc)

-- where an index has an address, its target is there
pub found_target : (units : List Address) (a : Address) (unit_index : ℕ) → index_of units a ≡ Some unit_index
    → has_target units a.target ≡ true
found_target units a unit_index e =
    let at = position-Some (λ (u : Address). (u.target == a.target) && (u.lun == a.lun)) units unit_index a e in
    list_any_at (λ (u : Address). u.target == a.target) units unit_index a at.0 (left _ _ at.1)
