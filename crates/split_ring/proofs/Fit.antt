-- What a split queue offers as a chain.
use Rattle.std.proofs.Common.{◌≡◌, ℕ, List, length, None}
use Rattle.ring_core.specs.State.{RingState}
use Rattle.ring_core.specs.Walk.{nothing_before}
use Rattle.ring_core.specs.Split.{number_on, next_head, split_path, split_table}
use Rattle.ring_core.specs.Offer.{SplitOffers, Found, BeginsInForm, MayLackMemory}
use Rattle.ring_core.specs.Parts.{PartsFit}
use Rattle.ring_core.proofs.Along.{run_first}
use Rattle.ring_core.proofs.RightChains.{chain_right, split_tests, split_table_tests}
use Rattle.ring_core.specs.declared.descriptor.Part.{Part}
use Rattle.ring_core.specs.declared.layout.Form.TheVariants.{Split}

pub offer_fits : (s : RingState) (m : List ℕ) (id slots : ℕ) (parts : List Part) → SplitOffers s m (Found id slots parts) → PartsFit (length m) parts
offer_fits s m id slots parts (some, right, is, one, (direct, last, chain)) =
    (chain_right (length m) (split_path s.features m s.layout.desc s.layout.size (next_head s m)) (split_table m) (split_tests s.features m s.layout.desc s.layout.size (next_head s m)) (split_table_tests m) direct last parts chain).fit

offer_begins : (s : RingState) (m : List ℕ) (id slots : ℕ) (parts : List Part) → SplitOffers s m (Found id slots parts) → BeginsInForm Split s m
unfolding number_on
offer_begins s m id slots parts (some, right, is, one, (direct, last, chain)) =
    (some, right, run_first (split_path s.features m s.layout.desc s.layout.size (next_head s m)) nothing_before direct last chain.0)

-- so a fetch that finds it may want memory
pub offer_lacks : (s : RingState) (m : List ℕ) (id slots : ℕ) (parts : List Part) → s.form ≡ Split → s.broken ≡ None → SplitOffers s m (Found id slots parts) → MayLackMemory s m
offer_lacks s m id slots parts form unbroken offer = (unbroken, rw form (offer_begins s m id slots parts offer))
