-- The queue that opens.
use Rattle.std.proofs.Common.{◌≡◌, ℕ, None, refl}
use Rattle.ring_core.specs.State.{opening}
use Rattle.ring_core.specs.declared.layout.Form.{Form}
use Rattle.ring_core.specs.declared.layout.Form.TheVariants.{Split, Packed}
use Rattle.ring_core.specs.declared.layout.Features.{Features}
use Rattle.ring_core.specs.declared.layout.Layout.{Layout}
use Rattle.virtqueue.specs.Queue.{opening_ring}

-- no fault has broken a ring that opens
pub opens_whole : (form : Form) (memory number : ℕ) (l : Layout) (features : Features)
    → (opening_ring form memory number l features).broken ≡ None
unfolding opening
opens_whole Split memory number l features = refl
opens_whole Packed memory number l features = refl

-- and it has the number that it was opened with
pub opens_numbered : (form : Form) (memory number : ℕ) (l : Layout) (features : Features)
    → (opening_ring form memory number l features).queue ≡ number
unfolding opening
opens_numbered Split memory number l features = refl
opens_numbered Packed memory number l features = refl
