-- A command that needs a page which the host can't read.
use Rattle.std.proofs.Common.{◌≡◌, ℕ, Bool, true, false, List, Option, Some, None, is_some, refl, cond}
use Rattle.std.specs.Prelude.{IfSome, option_map}
use Rattle.block_store.specs.Blocks.{Blocks}
use Rattle.block_store.specs.Storage.{Ledger, is_lost, IsLostIn}
use Rattle.cdb.specs.declared.commands.Command.{Command}
use Rattle.sense.specs.declared.Sense.{Sense}
use Rattle.unit_attention.specs.declared.code.Code.{Code}
use Rattle.command_model.specs.Attention.{is_stopped, met}
use Rattle.command_model.specs.Facts.{Facts}
use Rattle.command_model.specs.Failing.{needs_page, unread}
use Rattle.command_model.specs.PlainReply.{PlainReply}
use Rattle.command_model.specs.Replies.{is_protected}
use Rattle.unit_log.specs.Inner.Kept.{kept_reply}
use Rattle.logical_unit.specs.Inner.Performing.{PlainPerformed, RanUnread, taken}

pub lost_in : (o : Option Ledger) (p : ℕ) → is_some o ≡ true → IfSome o (λ (l : Ledger). is_lost p l ≡ true) → IsLostIn o p
lost_in (Some l) p is lost = (l, refl, lost)
lost_in None p is lost = absurd (cc)

-- an attention that isn't there is met by no command
pub none_met : (command : Command) (pending : Option Sense) → pending ≡ None → met command pending ≡ None
none_met command pending none = elim (is_stopped command) as (λ b. cond b pending None ≡ None) [
  | true ↦ none
  | false ↦ refl
]

-- it ends so
pub ran_unread : (keeps : Bool) (facts : Facts) (lost : ℕ → Type 0) (command : Command) (bytes : List ℕ) (page : ℕ) (p : PlainPerformed)
    (blocks blocks' : Blocks) (pending pending' : List Code) → facts.backed ≡ true → facts.pending ≡ None → is_protected facts command ≡ false
    → needs_page facts.capacity command bytes page ≡ true → p.reply ≡ unread facts command page → lost page
    → p.kept ≡ kept_reply keeps p.reply → ((b : ℕ) → blocks' b ≡ blocks b) → pending' ≡ taken command pending
    → RanUnread keeps facts lost command bytes p blocks blocks' pending pending'
ran_unread keeps facts lost command bytes page p blocks blocks' pending pending' backed calm writable needed is is_lost kept stored pends =
    record {
      page = page;
      unread = record { backed = backed; unmet = none_met command facts.pending calm; unprotected = writable; needed = needed; is = is };
      is_lost = is_lost;
      kept = kept;
      stored = stored;
      pends = pends;
    }
