-- Replies that aren't told before the host's storage has what their commands changed.
use Rattle.std.proofs.Common.{◌≡◌, ℕ, ◌==◌, ◌||◌, ◌&&◌, Bool, List, [], Option, Some, None, IfSome, true, false, refl, sym, ◌∙◌, ap, subst, arith}
use Rattle.ring_core.specs.declared.log.Ticket.{Ticket}
use Rattle.command_model.specs.Effects.{changes_medium}
use Rattle.command_model.specs.PlainReply.{PlainReply, success}
use Rattle.command_model.specs.Statuses.{good}
use Rattle.unit_model.specs.Tasks.{Entry, task_of}
use Rattle.unit_model.specs.Steps.{Step, alive, done, ended_well}
use Rattle.unit_model.specs.Contents.{Opening}
use Rattle.unit_model.specs.Flushing.{IsThrough}
use Rattle.unit_model.specs.Lawful.{IsLawful}
use Rattle.unit_model.specs.Jobs.{PlainJob}
use Rattle.unit_model.specs.Unit.{PlainUnit, is_backed, needs_medium, tells_no_cache, waits_behind, EndsAtOnce, IsWithheld, Replies, Steps}
use Rattle.unit_model.specs.Asking.{Asked, IsOf, asked_of, IsNotWithheld}
use Rattle.block_store.specs.Blocks.{Blocks}
use Rattle.unit_attention.specs.declared.code.Code.{Code}
use Rattle.unit_model.specs.Seen.{Seen}
use Rattle.unit_model.proofs.Tickets.{eq-same}
use Rattle.unit_model.proofs.Withheld.{same_entry, contained_well, well_replied}
use Rattle.task_set.specs.Tasks.{PlainTask}
use Rattle.task_set.specs.Inner.Tasks.{task_at}
use Rattle.logical_unit.specs.Inner.Parts.{AreKept}
use Rattle.logical_unit.proofs.Keeping.{task_at_alive, task_at_none, ticket_at}
use Rattle.logical_unit.specs.Calls.{Commits}
use Rattle.logical_unit.specs.Inner.Calls.{writes_through, Runs, is_good, ends_well}
use Rattle.logical_unit.specs.declared.outcomes.Outcome.{Outcome}
use Rattle.logical_unit.specs.declared.outcomes.Outcome.TheVariants as outcome

-- what waits behind a command is one that writes through, and ended with GOOD
behind_through : (backed cacheless changes ends : Bool) → (backed && (cacheless && (changes && ends))) ≡ true
    → ((backed && (cacheless && changes)) ≡ true) × (ends ≡ true)
behind_through true true true ends is = (refl, is)
behind_through true true false ends is = absurd (let no : false ≡ true = is in cc)
behind_through true false changes ends is = absurd (let no : false ≡ true = is in cc)
behind_through false cacheless changes ends is = absurd (let no : false ≡ true = is in cc)

through_behind : (backed cacheless changes ends : Bool) → (backed && (cacheless && changes)) ≡ true → ends ≡ true
    → (backed && (cacheless && (changes && ends))) ≡ true
through_behind true true true ends is well = well
through_behind true true false ends is well = absurd (let no : false ≡ true = is in cc)
through_behind true false changes ends is well = absurd (let no : false ≡ true = is in cc)
through_behind false cacheless changes ends is well = absurd (let no : false ≡ true = is in cc)

through_changes : (backed cacheless changes : Bool) → (backed && (cacheless && changes)) ≡ true → changes ≡ true
through_changes true true changes is = is
through_changes true false changes is = absurd (let no : false ≡ true = is in cc)
through_changes false cacheless changes is = absurd (let no : false ≡ true = is in cc)

pub own_command : (j : PlainJob) (e : Entry) (steps : List Step) → IsOf j e steps → e.command ≡ j.entry.command
own_command j e steps of = ap (λ (a : Asked). a.command) of.as_asked

-- both by what was asked
abbrev through_asked : PlainUnit → Asked → Bool
through_asked u a = writes_through u a.asks_medium a.command

abbrev behind_asked : PlainUnit → Asked → ℕ → Bool
behind_asked u a status = is_backed u && ((tells_no_cache u || a.asks_medium) && (changes_medium a.command && status == good))

-- of a command that doesn't write through nothing waits
pub off_behind : (u : PlainUnit) (e : Entry) (status : ℕ) → writes_through u e.asks_medium e.command ≡ false
    → waits_behind u e status ≡ true → ⊥
off_behind u e status off is =
    let through = (behind_through (is_backed u) (needs_medium u e) (changes_medium e.command) (status == good) is).0 in
    let no : false ≡ true = sym off ∙ through in
    cc

pub off_withheld : (u : PlainUnit) (j : PlainJob) → writes_through u j.entry.asks_medium j.entry.command ≡ false → IsNotWithheld j u
off_withheld u j off = λ e r of held.
    off_behind u j.entry r.status off (subst (λ (a : Asked). behind_asked u a r.status ≡ true) of.as_asked held.waits)

-- nor of one that ended otherwise
pub unwell_withheld : (u : PlainUnit) (j : PlainJob) → ended_well j.entry.ticket u.steps ≡ false → IsNotWithheld j u
unwell_withheld u j off = λ e r of held.
    let ends : r.status ≡ good = grind (arith, (behind_through (is_backed u) (needs_medium u e) (changes_medium e.command) (r.status == good) held.waits).1) in
    let no : false ≡ true = sym off ∙ contained_well j.entry.ticket r u.steps ends held.ran in
    cc

-- what ran may be told at once, where nothing waits behind it
pub runs_at_once : (u : PlainUnit) (j : PlainJob) (o : Outcome) (v : PlainUnit) → Runs u j o v → IsNotWithheld j u
    → ((e : Entry) (r : PlainReply) → IsOf j e u.steps → ends_well o ≡ (r.status == good) → Steps u (Step.Commit j.entry.ticket r) v → EndsAtOnce u j.entry.ticket e r)
    → Commits u j o v
runs_at_once u j (outcome.Reply receipt) v (e, of, ready, r, replies, is, steps) known once =
    (e, of, ready, r, replies, is, steps, once e r of (ap (λ (x : _). is_good x.reply) is) steps)
runs_at_once u j (outcome.Aborted why) v ran known once = ran
runs_at_once u j outcome.Busy v ran known once = ran
runs_at_once u j outcome.Unknown v (cannot, same) known once = (cannot, same, known)

pub ran_commits : (u : PlainUnit) (j : PlainJob) (o : Outcome) (v : PlainUnit) → writes_through u j.entry.asks_medium j.entry.command ≡ false → Runs u j o v
    → IsNotWithheld j u → Commits u j o v
ran_commits u j o v off ran known =
    runs_at_once u j o v ran known (λ e r of ends steps behind.
    absurd (off_behind u j.entry r.status off (subst (λ (a : Asked). behind_asked u a r.status ≡ true) of.as_asked behind)))

-- what waits behind a command that ran, whatever else

pub if_some : {X : Type 0} (x : Option X) (P Q : X → Type 0) → ((a : X) → P a → Q a) → IfSome x P → IfSome x Q
if_some None P Q f was = tt
if_some (Some a) P Q f was = f a was

module _ {o : Opening} {past : List Step} {block_at : Blocks} {pending : List Code} {tasks : List PlainTask} {last_tickets : List (Option ℕ)} {room : ℕ}
    (k : AreKept o past block_at pending tasks last_tickets room) where
  -- what a task set keeps of a task
  pub is_well : (t : Ticket) (x : PlainTask) → task_at t tasks ≡ Some x → ended_well t past ≡ x.seen.ended_well
  is_well t x at = ap (λ n. ended_well n past) (ticket_at k t x at) ∙ sym (ap (λ (s : Seen). s.ended_well) (task_at_alive k t x at).1)

  pub other_withheld : (u : PlainUnit) → u.steps ≡ past → (j : PlainJob) (x : PlainTask) → task_at j.entry.ticket tasks ≡ Some x
      → (asked_of x.seen.entry ≡ asked_of j.entry → ⊥) → IsNotWithheld j u
  other_withheld u same j x at other = λ e r of held.
      let there : task_of j.entry.ticket (alive past) ≡ Some e = ap (λ h. task_of j.entry.ticket (alive h)) (sym same) ∙ of.is_there in
      let is : x.seen.entry ≡ e = same_entry (task_of j.entry.ticket (alive past)) x.seen.entry e (task_at_alive k j.entry.ticket x at).0 there in
      other (ap asked_of is ∙ of.as_asked)

  pub none_withheld : (u : PlainUnit) → u.steps ≡ past → (j : PlainJob) → task_at j.entry.ticket tasks ≡ None → IsNotWithheld j u
  none_withheld u same j at = λ e r of held.
      let there : task_of j.entry.ticket (alive past) ≡ Some e = ap (λ h. task_of j.entry.ticket (alive h)) (sym same) ∙ of.is_there in
      let never : None ≡ Some e = sym (task_at_none k j.entry.ticket at) ∙ there in
      cc

-- its reply is withheld, and is this
pub is_withheld : (u : PlainUnit) (j : PlainJob) (e : Entry) → IsLawful u.opening u.steps → IsOf j e u.steps
    → ended_well j.entry.ticket u.steps ≡ true → writes_through u j.entry.asks_medium j.entry.command ≡ true
    → IsWithheld u j.entry.ticket e (success e.command [])
is_withheld u j e lawful of well through =
    let own : through_asked u (asked_of e) ≡ true = ap (through_asked u) of.as_asked ∙ through in
    record {
      is_there = of.is_there;
      ran = well_replied u.opening j.entry.ticket e u.steps lawful of.is_there
          (through_changes (is_backed u) (needs_medium u e) (changes_medium e.command) own) well;
      waits = through_behind (is_backed u) (needs_medium u e) (changes_medium e.command) true own refl;
    }

-- what ended with GOOD and isn't through yet is withheld; else nothing waits behind it
pub once_unwell : (u : PlainUnit) (j : PlainJob) (e : Entry) (r : PlainReply) (o : Outcome) → ends_well o ≡ false → ends_well o ≡ (r.status == good)
    → EndsAtOnce u j.entry.ticket e r
once_unwell u j e r o off ends = λ behind.
    let well = (behind_through (is_backed u) (needs_medium u e) (changes_medium e.command) (r.status == good) behind).1 in
    let no : false ≡ true = sym off ∙ ends ∙ well in
    absurd (cc)

pub once_through : (u v : PlainUnit) (j : PlainJob) (e : Entry) (r : PlainReply) → Steps u (Step.Commit j.entry.ticket r) v
    → IfSome v.storage (λ l. IsThrough v.opening v.steps l j.entry.ticket) → EndsAtOnce u j.entry.ticket e r
once_through u v j e r steps through = λ behind.
    subst (λ (x : PlainUnit). IfSome x.storage (λ l. IsThrough x.opening x.steps l j.entry.ticket)) steps.is through

-- its Commit stands there
pub ran_done : (u v : PlainUnit) (t : Ticket) (r : PlainReply) → Steps u (Step.Commit t r) v → done t v.steps ≡ true
ran_done u v t r steps =
    ap (λ (x : PlainUnit). done t x.steps) steps.is ∙ ap (λ b. b || done t u.steps) (eq-same t t refl)
