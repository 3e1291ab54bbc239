-- What was handed out for a commit, and when the history confirms it.
use Rattle.std.specs.Prelude.{ℕ, ◌≡◌, ◌+◌, Bool, true, false, ◌&&◌, nat_le, List, [], ◌∷◌, length, Option, Some, None, ◌==◌, if◌then◌else◌, ⊤}
use Rattle.scsi_codec.specs.declared.lun.Address.{Address}
use Rattle.command_model.specs.PlainReply.{PlainReply}
use Rattle.ring_core.specs.declared.log.Ticket.{Ticket}
use Rattle.unit_model.specs.Steps.{Step}
use Rattle.unit_model.specs.Contents.{Opening}

-- own: the unit, the place of the Commit, its ticket, and its reply where that was kept
pub record Receipt : Type 0 where
  pub unit : Address
  pub place : ℕ
  pub ticket : Ticket
  pub reply : Option PlainReply

-- own: the address of the unit
abbrev pub unit_address : Opening → Address
unit_address o = record { target = o.target; lun = o.lun }

-- own: the receipt of a Commit that stands behind this past
abbrev pub receipt_of : Opening → List Step → Ticket → Option PlainReply → Receipt
receipt_of o past t kept = record { unit = unit_address o; place = length past; ticket = t; reply = kept }

-- own: the step at a place, before which so many stand
abbrev pub step_at : ℕ → List Step → Option Step
step_at n [] = None
step_at n (step ∷ past) = if length past == n then Some step else step_at n past

-- own: a unit that keeps replies keeps those of its latest steps alone, each with at most so many bytes of data
abbrev pub latest_kept : ℕ
latest_kept = 256

abbrev pub longest_kept : ℕ
longest_kept = 4096

-- own: whether a unit of so many steps still has this reply, of the Commit at a place
abbrev pub is_kept : Bool → ℕ → ℕ → PlainReply → Bool
is_kept keeps steps place r = keeps && (nat_le steps (place + latest_kept) && nat_le (length r.payload) longest_kept)

-- a reply is compared where both have one: the receipt, and the unit, where it still has it
abbrev pub Agrees : Bool → Option PlainReply → PlainReply → Type 0
Agrees keeps None r = ⊤
Agrees false (Some kept) r = ⊤
Agrees true (Some kept) r = kept ≡ r

-- own: the Commit of the receipt stands at its place in the history of this unit, which keeps replies or doesn't, and
-- with the reply of the receipt where the unit still has it
pub record IsConfirmed (o : Opening) (keeps : Bool) (h : List Step) (c : Receipt) : Type 0 where
  pub of_unit : c.unit ≡ unit_address o
  pub stands : (r : PlainReply) × (step_at c.place h ≡ Some (Step.Commit c.ticket r))
      × Agrees (is_kept keeps (length h) c.place r) c.reply r
