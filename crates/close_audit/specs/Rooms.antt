-- Room for what a request leaves.
use Rattle.std.specs.Prelude.{ℕ, ◌<◌, ◌≤◌, vec_len}
use Rattle.std.specs.Vec.{vec_capacity}
use Rattle.close_audit.specs.declared.kept.Kept.{Kept}

-- own: a seat has the replies of its latest receipts alone
abbrev pub replies_kept : ℕ
replies_kept = 4096

-- own: one receipt more finds room, its reply a slot, and one note more room
pub record HasRoomForOne (k : Kept) : Type 0 where
  pub receipts : vec_len k.receipts < vec_capacity k.receipts
  pub replies : replies_kept ≤ vec_len k.replies
  pub notes : vec_len k.notes < vec_capacity k.notes
