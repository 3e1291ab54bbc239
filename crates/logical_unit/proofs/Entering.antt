-- What a unit answers to a request that comes, and what its parts are then.
use Rattle.std.proofs.Common.{◌≡◌, ℕ, ◌+◌, ◌<◌, ◌≤◌, nat_lt, Bool, false, eqb, cond, List, [], ◌∷◌, ◌++◌, length, Option, Some, None, refl, sym, ◌∙◌, ap, subst}
use Rattle.std.proofs.lemmas.Bool.{ltb-false}
use Rattle.ring_core.specs.declared.log.Ticket.{Ticket}
use Rattle.block_store.specs.Blocks.{Blocks}
use Rattle.block_store.specs.Storage.{Ledger}
use Rattle.unit_attention.specs.declared.code.Code.{Code}
use Rattle.unit_model.specs.Steps.{Step, next_number}
use Rattle.unit_model.specs.Contents.{Opening}
use Rattle.unit_model.specs.Jobs.{PlainJob}
use Rattle.unit_model.specs.Receipts.{unit_address}
use Rattle.task_set.specs.Tasks.{PlainTask, parked_of}
use Rattle.task_set.specs.Inner.Tasks.{entering, run_at_once}
use Rattle.logical_unit.specs.Calls.{Enters}
use Rattle.logical_unit.specs.Inner.Calls.{entered_of}
use Rattle.unit_log.specs.Inner.LastTickets.{floor_kept}
use Rattle.logical_unit.specs.Inner.Parts.{AreKept}
use Rattle.unit_model.specs.Unit.{PlainUnit}
use Rattle.logical_unit.specs.declared.outcomes.Entered.TheVariants as entered
use Rattle.logical_unit.proofs.Keeping.{CameTo, may_enter, may_full}
use Rattle.logical_unit.proofs.Handing.{parked_run, parked_blocked, parked_full, run_free, run_blocked}

-- units that say the same
pub same_unit : (o : Opening) (steps steps' : List Step) (parked parked' : List PlainJob) (keeps keeps' : Bool) (storage storage' : Option Ledger)
    → steps' ≡ steps → parked' ≡ parked → keeps' ≡ keeps → storage' ≡ storage
    → let u : PlainUnit = record { opening = o; steps = steps'; parked = parked'; keeps_replies = keeps'; storage = storage' } in
    let v : PlainUnit = record { opening = o; steps = steps; parked = parked; keeps_replies = keeps; storage = storage } in u ≡ v
same_unit o steps steps' parked parked' keeps keeps' storage storage' a b c d = cc

-- a ticket came to places that were made before
pub came_then : (t : Ticket) (last_tickets made last_tickets' : List (Option ℕ)) → ((q : ℕ) → floor_kept made q ≡ floor_kept last_tickets q) → CameTo t made last_tickets' → CameTo t last_tickets last_tickets'
came_then t last_tickets made last_tickets' same came q = came q ∙ ap (λ n. cond (eqb t.queue q) (t.number + 1) n) (same q)

module _ {o : Opening} {past : List Step} {block_at : Blocks} {pending : List Code} {tasks : List PlainTask} {last_tickets : List (Option ℕ)} {room : ℕ}
    (k : AreKept o past block_at pending tasks last_tickets room) where
  pub not_stale : (t : Ticket) (b : Bool) → b ≡ nat_lt t.number (floor_kept last_tickets t.queue) → b ≡ false
      → next_number t.queue past ≤ t.number
  not_stale t b is above = subst (λ n. n ≤ t.number) (k.floors t.queue) (ltb-false t.number (floor_kept last_tickets t.queue) (sym is ∙ above))

  -- as many tasks as there may be are alive
  pub enters_full : (j : PlainJob) (steps' : List Step) (keeps keeps' : Bool) (storage : Option Ledger) → j.address ≡ unit_address o
      → length tasks ≡ 64 → next_number j.entry.ticket.queue past ≤ j.entry.ticket.number
      → steps' ≡ Step.Full j.entry.ticket ∷ past → keeps' ≡ keeps
      → Enters (record { opening = o; steps = past; parked = parked_of tasks; keeps_replies = keeps; storage = storage }) j (entered.Full j)
      (record { opening = o; steps = steps'; parked = parked_of tasks; keeps_replies = keeps'; storage = storage })
  enters_full j steps' keeps keeps' storage named full le steps kept = (
    refl,
    named,
    record {
      may = may_full k j.entry.ticket full le;
      is = same_unit o _ steps' _ _ keeps keeps' storage storage steps (parked_full past tasks j.entry.ticket) kept refl;
    },
  )

  -- its task enters, and its job is handed out where nothing blocks it
  pub enters_task : (j : PlainJob) (x : Option PlainJob) (place : ℕ) (steps' : List Step) (keeps keeps' : Bool) (storage : Option Ledger)
      → j.address ≡ unit_address o → length tasks < 64
      → next_number j.entry.ticket.queue past ≤ j.entry.ticket.number → x ≡ run_at_once tasks j
      → steps' ≡ Step.Enter j.entry ∷ past → keeps' ≡ keeps
      → Enters (record { opening = o; steps = past; parked = parked_of tasks; keeps_replies = keeps; storage = storage }) j (entered_of x) (record { opening = o; steps = steps'; parked = parked_of (tasks ++ entering place tasks j ∷ []); keeps_replies = keeps'; storage = storage })
  enters_task j (Some now) place steps' keeps keeps' storage named few le run steps kept =
      let free = run_free o past block_at pending tasks last_tickets room j now k (sym run) in (
        free.0,
        named,
        free.1,
        record {
          may = may_enter k j.entry few le;
          is = same_unit o _ steps' _ _ keeps keeps' storage storage steps (parked_run o past block_at pending tasks last_tickets room place j k free.1) kept refl;
        },
      )
  enters_task j None place steps' keeps keeps' storage named few le run steps kept =
      let blocked = run_blocked o past block_at pending tasks last_tickets room j k (sym run) in (
        named,
        blocked,
        may_enter k j.entry few le,
        same_unit o _ steps' _ _ keeps keeps' storage storage steps (parked_blocked o past block_at pending tasks last_tickets room place j k blocked) kept refl,
      )
