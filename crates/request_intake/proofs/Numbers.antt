-- A number that is kept is that of the address at its index.
use Rattle.std.proofs.Common.{◌≡◌, ℕ, ◌<◌, List, length, slice_index_or, sym, ◌∙◌, ap}
use Rattle.std.proofs.lemmas.List.{get_or-map}
use Rattle.scsi_codec.specs.declared.lun.Address.{Address}
use Rattle.scsi_codec.specs.Lun.{number_of}
use Rattle.request_intake.specs.Inner.Numbers.{AreNumbersOf}
use Rattle.request_intake.specs.declared.inventory.Known.{Known}

pub numbered : (known : List Known) (units : List Address) (unit_index : ℕ) (k : Known) (a : Address) → AreNumbersOf known units
    → unit_index < length known → unit_index < length units
    → (slice_index_or known unit_index k).number ≡ number_of (slice_index_or units unit_index a)
numbered known units unit_index k a are within there =
    sym (get_or-map (λ (x : Known). x.number) known unit_index k 0 within)
    ∙ ap (λ w. slice_index_or w unit_index 0) are
    ∙ get_or-map number_of units unit_index a 0 there
