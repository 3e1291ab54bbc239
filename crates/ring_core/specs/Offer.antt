-- What a virtqueue has for the device, in either form.
use Rattle.std.specs.Prelude.{ℕ, ◌≡◌, ◌≢◌, ◌⊎◌, Bool, true, false, List, length, Option, Some, None}
use Rattle.ring_core.specs.State.{RingState}
use Rattle.ring_core.specs.Writes.{Write}
use Rattle.ring_core.specs.Walk.{nothing_before}
use Rattle.ring_core.specs.Split.{SplitChain, SplitFails, in_table, split_wrong, ahead, next_head, entry_wrong, split_used_writes, split_wants_notice}
use Rattle.ring_core.specs.Packed.{PackedChain, PackedFails, slot_at, packed_wrong, available_place, is_available, chain_wrong, packed_used_writes, packed_wants_notice}
use Rattle.ring_core.specs.declared.descriptor.Part.{Part}
use Rattle.ring_core.specs.declared.fault.RingFault.{RingFault}
use Rattle.ring_core.specs.declared.layout.Form.{Form}
use Rattle.ring_core.specs.declared.layout.Form.TheVariants.{Split, Packed}

-- nothing, a chain (its head or id, its slots, its parts), or a fault
pub data Offer : Type 0 where
  Nothing : Offer
  Found : ℕ → ℕ → List Part → Offer
  Refused : RingFault → Offer

-- a split queue offers this
abbrev pub SplitOffers : RingState → List ℕ → Offer → Type 0
SplitOffers s m Nothing = ahead s m ≡ 0
SplitOffers s m (Found id slots parts) =
    (ahead s m ≢ 0) × (entry_wrong s m ≡ None) × (id ≡ next_head s m) × (slots ≡ 1)
    × SplitChain s.features m s.layout.desc s.layout.size (next_head s m) parts
SplitOffers s m (Refused f) =
    (ahead s m ≢ 0)
    × ((entry_wrong s m ≡ Some f)
    ⊎ ((entry_wrong s m ≡ None) × SplitFails s.features m s.layout.desc s.layout.size (next_head s m) f))

-- a packed queue offers this
abbrev pub PackedOffers : RingState → List ℕ → Offer → Type 0
PackedOffers s m Nothing = is_available s m ≡ false
PackedOffers s m (Found id slots parts) =
    (is_available s m ≡ true) × PackedChain s.features m s.layout (available_place s) id slots parts
    × (chain_wrong s id slots ≡ None)
PackedOffers s m (Refused f) =
    (is_available s m ≡ true)
    × (PackedFails s.features m s.layout (available_place s) f
    ⊎ ((id : ℕ) × (slots : ℕ) × (parts : List Part) × PackedChain s.features m s.layout (available_place s) id slots parts
    × (chain_wrong s id slots ≡ Some f)))

abbrev pub OffersInForm : Form → RingState → List ℕ → Offer → Type 0
OffersInForm Split s m o = SplitOffers s m o
OffersInForm Packed s m o = PackedOffers s m o

-- a broken queue offers its fault for good
abbrev pub OffersUnless : Option RingFault → RingState → List ℕ → Offer → Type 0
OffersUnless (Some f) s m o = o ≡ Refused f
OffersUnless None s m o = OffersInForm s.form s m o

-- with this memory the queue offers this
abbrev pub Offers : RingState → List ℕ → Offer → Type 0
Offers s m o = OffersUnless s.broken s m o

-- a chain begins: there is an entry with nothing wrong, and nothing is wrong with the first descriptor
abbrev pub BeginsInForm : Form → RingState → List ℕ → Type 0
BeginsInForm Split s m =
    (ahead s m ≢ 0) × (entry_wrong s m ≡ None)
    × (split_wrong s.features (length m) s.layout.size nothing_before (in_table m s.layout.desc (next_head s m)) ≡ None)
BeginsInForm Packed s m =
    (is_available s m ≡ true)
    × (packed_wrong s.features (length m) s.layout.size nothing_before (slot_at s.layout m (available_place s)) ≡ None)

-- in the place of what comes behind that, want of memory may be answered; so is it in the place of a chain by
-- a queue that has accepted 2^64 - 1
abbrev pub MayLackMemory : RingState → List ℕ → Type 0
MayLackMemory s m = (s.broken ≡ None) × BeginsInForm s.form s m

abbrev pub used_writes_in_form : Form → RingState → ℕ → ℕ → List Write
used_writes_in_form Split s id len = split_used_writes s id len
used_writes_in_form Packed s id len = packed_used_writes s id len

-- what the completion of a chain with this head or id writes, where so many bytes were written into the chain
abbrev pub used_writes : RingState → ℕ → ℕ → List Write
used_writes s id len = used_writes_in_form s.form s id len

abbrev pub notice_in_form : Form → RingState → List ℕ → Bool
notice_in_form Split s m = split_wants_notice s m
notice_in_form Packed s m = packed_wants_notice s m

-- the driver asks for a notice of the latest used chain: a used buffer notification (VIRTIO 1.2, 2.3)
abbrev pub wants_notice : RingState → List ℕ → Bool
wants_notice s m = notice_in_form s.form s m
