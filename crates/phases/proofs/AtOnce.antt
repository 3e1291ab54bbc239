-- What a request that is served at once is, by what the calls of its unit answer.
use Rattle.std.proofs.Common.{◌≡◌, ◌++◌, ℕ, ◌+◌, ◌&&◌, ◌||◌, ◌==◌, not, is_some, Bool, true, false, List, [], ◌∷◌, Option, Some, None, length, refl, ap, sym, ◌∙◌, subst, arith, inl, inr}
use Rattle.std.proofs.lemmas.Bool.{false≢true}
use Rattle.cdb.specs.declared.commands.Command.{Command}
use Rattle.cdb.specs.Need.{need_of}
use Rattle.command_model.specs.Effects.{changes_medium}
use Rattle.command_model.specs.Statuses.{good}
use Rattle.command_model.specs.Waiting.{waits_at}
use Rattle.command_model.specs.PlainReply.{success}
use Rattle.command_model.specs.Inner.PlainReply.{good_data}
use Rattle.request_intake.specs.declared.answer.ChainLengths.{ChainLengths}
use Rattle.ring_core.specs.Parts.{readable_total, writable_total}
use Rattle.ring_core.specs.declared.log.Ticket.{Ticket}
use Rattle.guest_mem.specs.Stores.{Store}
use Rattle.ring_core.specs.State.{PlainChain}
use Rattle.ring_core.specs.Writes.{Write, Wrote, scatter_writes, stores_of}
use Rattle.ring_core.specs.Offer.{used_writes}
use Rattle.unit_model.specs.Contents.{Opening, capacity_of}
use Rattle.unit_model.specs.Endings.{Ending, answer_of}
use Rattle.unit_model.specs.Lawful.{May, IsLawful, IsReady}
use Rattle.unit_model.specs.Steps.{Step, alive}
use Rattle.unit_model.specs.Tasks.{Entry, is_blocked}
use Rattle.unit_model.proofs.Blocking.{enabled_entering}
use Rattle.unit_model.proofs.Fresh.{above_fresh, fresh_unmarked, fresh_undone}
use Rattle.unit_model.specs.Released.{released}
use Rattle.unit_model.specs.Asking.{Asked, asked_of}
use Rattle.unit_model.specs.Jobs.{PlainJob, Jobs, of_tasks}
use Rattle.logical_unit.specs.Serving.{ServesAlone}
use Rattle.unit_model.specs.Unit.{PlainUnit, IsUnit, HasToWait, is_backed, may_wait, needs_medium, tells_no_cache, Steps}
use Rattle.logical_unit.specs.Calls as calls
use Rattle.logical_unit.specs.Endings.{ending_of}
use Rattle.logical_unit.specs.declared.outcomes.Outcome as answers
use Rattle.logical_unit.specs.declared.outcomes.Entered.TheVariants as entered
use Rattle.device_model.specs.Parts.{Outcome, Slot, Hand, lengths_of}
use Rattle.device_model.proofs.Handed.{open_entered}
use Rattle.virtqueue.specs.Queue.{BareQueue, completing}
use Rattle.virtqueue.specs.Completing.{SeenBehind}
use Rattle.phases.specs.Units.{EntersAs, Commits, Leaves}
use Rattle.phases.specs.DoingUnit.{with_more}
use Rattle.phases.specs.Inner.Serving.{HandsOn}
use Rattle.phases.specs.declared.serving.Brought.{Brought}
use Rattle.phases.specs.declared.serving.Brought.TheVariants as brought
use Rattle.phases.specs.InMemory.{EachSeen}
use Rattle.phases.specs.Direct.{decided_writes}
use Rattle.phases.specs.Inner.Outcomes.{WritesWholeIn}
use Rattle.phases.specs.Inner.Stored.{ending_writes}
use Rattle.phases.specs.Inner.ServingInMemory.{ServesAtOnceIn, ServesIn}
use Rattle.phases.proofs.Answered.{AnswersJob, answers_job, both_lengths}
use Rattle.phases.proofs.Behind.{each_read, each_maps}
use Rattle.phases.proofs.Commits.{committed}
use Rattle.phases.proofs.Enters.{runs, with_none}
use Rattle.phases.proofs.Stored.{answer_stored}

-- what came of the commit
abbrev came : answers.Outcome → Outcome
came what = Outcome.Ended (ending_of what)

-- a task that enters and isn't blocked may run
ready_once : (o : Opening) (e : Entry) (past : List Step) → IsLawful o past → May o (Step.Enter e) past
    → is_blocked e (alive (Step.Enter e ∷ past)) ≡ false → IsReady e.ticket e (Step.Enter e ∷ past)
ready_once o e past lawful may free =
    let none = above_fresh o e.ticket past lawful may.1 in
    record {
      is_there = (open_entered o e past lawful may free).0;
      is_enabled = enabled_entering e past none ∙ ap not free;
      is_unmarked = ap is_some (fresh_unmarked e.ticket past none);
      is_undone = fresh_undone o e.ticket past lawful none;
    }

-- a job that was handed out is committed, whatever the seat
commits : (x : PlainJob) (u v : PlainUnit) (what : answers.Outcome) → calls.Commits u x what v
    → Commits (Hand.Taken x) u true v (Hand.Done x (came what))
commits x u v what c =
    λ k.
    let (d, of, does, ends) = committed k x u v what c in
    (d, of, does, ap (λ (e : Ending). Hand.Done x (Outcome.Ended e)) ends)

-- all of it
all : (shared : Bool) (stored : List Write → Type 0) (x : PlainJob) (u v z u' : PlainUnit) (q q' : BareQueue) (found left seen : List ℕ) (out out' : Jobs)
    (gone : Bool) (what : answers.Outcome) → calls.Enters u x (entered.Run x) v → calls.Commits v x what z
    → AnswersJob shared x (ending_of what) q q' found left seen → stored (decided_writes q.ring x.chain (came what))
    → Leaves (Hand.Answered x.unit x.chain.ticket) z out gone u' Hand.Empty out'
    → ServesAtOnceIn shared stored x u q found out gone u' q' left seen out'
all shared stored x u v z u' q q' found left seen out out' gone what enters ran answered made leaves =
    record {
      entered = v;
      committed = z;
      outcome = came what;
      enters = λ list. runs x u v list x enters;
      commits = commits x v z what ran;
      answers = answered;
      stores = made;
      leaves = leaves;
    }

-- the same of the job that the unit handed out, which is the request's, and of the ticket that was used
served_so : (shared : Bool) (stored : List Write → Type 0) (x y : PlainJob) (t : Ticket) (u v z u' : PlainUnit) (q q' : BareQueue) (found left seen : List ℕ)
    (out out' : Jobs) (gone : Bool) (what : answers.Outcome) → calls.Enters u x (entered.Run y) v → calls.Commits v y what z
    → t ≡ y.chain.ticket → AnswersJob shared y (ending_of what) q q' found left seen
    → stored (decided_writes q.ring y.chain (came what))
    → ((unit_index : ℕ) → Leaves (Hand.Answered unit_index t) z out gone u' Hand.Empty out')
    → ServesAtOnceIn shared stored x u q found out gone u' q' left seen out'
served_so shared stored x y t u v z u' q q' found left seen out out' gone what enters ran used answered made leaves =
    let is : y ≡ x = enters.0 in
    let enters_y = subst (λ j. calls.Enters u j (entered.Run y) v) (sym is) enters in
    let leaves_y = subst (λ k. Leaves (Hand.Answered y.unit k) z out gone u' Hand.Empty out') used (leaves y.unit) in
    subst (λ j. ServesAtOnceIn shared stored j u q found out gone u' q' left seen out') is
    (all shared stored y u v z u' q q' found left seen out out' gone what enters_y ran answered made leaves_y)

pub served : (shared : Bool) (stored : List Write → Type 0) (x y : PlainJob) (t : Ticket) (u v z u' : PlainUnit) (q q' : BareQueue)
    (before after : List ℕ → Type 0) (s : Slot) (out out' : Jobs) (gone : Bool) (what : answers.Outcome)
    → calls.Enters u x (entered.Run y) v → calls.Commits v y what z → t ≡ y.chain.ticket
    → EachSeen shared before after (AnswersJob shared y (ending_of what) q q')
    → stored (decided_writes q.ring y.chain (came what))
    → ((unit_index : ℕ) → Leaves (Hand.Answered unit_index t) z out gone u' Hand.Empty out')
    → EachSeen shared before after
    (λ found left seen. ServesIn shared stored x u q found s out (brought.Answered gone) u' q' left seen s out')
served shared stored x y t u v z u' q q' before after s out out' gone what enters ran used answered made leaves =
    each_maps shared before after (AnswersJob shared y (ending_of what) q q')
    (λ found left seen. ServesIn shared stored x u q found s out (brought.Answered gone) u' q' left seen s out')
    (λ found left seen is told. (
      served_so shared stored x y t u v z u' q q' found left seen out out' gone what enters ran used told made leaves,
      refl,
    )) answered

-- the request isn't answered yet, and hands out these jobs
hands_on : (shared : Bool) (stored : List Write → Type 0) (x : PlainJob) (u u' : PlainUnit) (q : BareQueue)
    (may : List ℕ → Type 0) (s s' : Slot) (more : List PlainJob) (out out' : Jobs) → stored [] → HandsOn x u more
    → ((list : Jobs) → EntersAs x u list u' s' (with_more more list)) → out' ≡ with_more more out
    → EachSeen shared may may (λ found left seen. ServesIn shared stored x u q found s out brought.Waits u' q left seen s' out')
hands_on shared stored x u u' q may s s' more out out' none waits enters jobs =
    each_read shared may may (λ found left seen. ServesIn shared stored x u q found s out brought.Waits u' q left seen s' out')
    (λ m stood. stood)
    (λ m stood.
    record {
      more = more;
      waits = waits;
      enters = enters;
      at_queue = record { queue = refl; memory = refl; seen = refl };
      stores = none;
      jobs = jobs;
    })

-- the request only entered, or was refused
pub only_entered : (shared : Bool) (stored : List Write → Type 0) (x : PlainJob) (u u' : PlainUnit) (q : BareQueue)
    (may : List ℕ → Type 0) (s s' : Slot) (out : Jobs) → stored [] → ((list : Jobs) → EntersAs x u list u' s' list)
    → EachSeen shared may may (λ found left seen. ServesIn shared stored x u q found s out brought.Waits u' q left seen s' out)
only_entered shared stored x u u' q may s s' out none enters =
    hands_on shared stored x u u' q may s s' [] out out none (inl refl)
    (λ list. subst (λ (jobs : Jobs). EntersAs x u list u' s' jobs) (with_none list) (enters list)) (with_none out)

-- a reply is withheld only of a command that may have to wait
withheld_waits : (backed pages no_cache changes well : Bool) → (backed && (no_cache && (changes && well))) ≡ true
    → (backed && (pages || (no_cache && changes))) ≡ true
withheld_waits true true true true well h = refl
withheld_waits true false true true well h = refl
withheld_waits true pages true false well h = absurd (false≢true h)
withheld_waits true pages false changes well h = absurd (false≢true h)
withheld_waits false pages no_cache changes well h = absurd (false≢true h)

-- so is a task that has to wait
may_have_to : (u : PlainUnit) (t : Ticket) (e : Entry) → HasToWait u t e → may_wait u e ≡ true
may_have_to u t e (inl (ready, waits)) = waits
may_have_to u t e (inr (r, withheld)) =
    withheld_waits (is_backed u) (waits_at (capacity_of u.opening u.steps) e.asks_medium e.command) (needs_medium u e)
    (changes_medium e.command) (r.status == good) withheld.waits

-- by what was asked
abbrev may_asked : PlainUnit → Asked → Bool
may_asked u a =
    is_backed u
    && (waits_at (capacity_of u.opening u.steps) a.asks_medium a.command || ((tells_no_cache u || a.asks_medium) && changes_medium a.command))

-- the job that was handed out may run
pub ready_entered : (u v : PlainUnit) (x y : PlainJob) → IsUnit u → calls.Enters u x (entered.Run y) v
    → IsReady y.entry.ticket y.entry v.steps
ready_entered u v x y lawful (is, named, free, step) =
    subst (λ (z : PlainUnit). IsReady y.entry.ticket y.entry z.steps) (sym step.is)
    (subst (λ (j : PlainJob). IsReady j.entry.ticket j.entry (Step.Enter x.entry ∷ u.steps)) (sym is)
    (ready_once u.opening x.entry u.steps lawful.lawful step.may free))

-- the request entered, and its job waits for its unit's disk
pub waits_on : (shared : Bool) (stored : List Write → Type 0) (x y : PlainJob) (u v u' : PlainUnit) (q : BareQueue)
    (may : List ℕ → Type 0) (s s' : Slot) (out out' : Jobs) → stored [] → s' ≡ Slot.Empty
    → calls.Enters u x (entered.Run y) v → calls.Waits v y u' → out' ≡ with_more (y ∷ []) out
    → EachSeen shared may may (λ found left seen. ServesIn shared stored x u q found s out brought.Waits u' q left seen s' out')
waits_on shared stored x y u v u' q may s s' out out' none empty enters waits jobs =
    let is : y ≡ x = enters.0 in
    let asked : asked_of waits.entry ≡ asked_of x.entry = waits.of.as_asked ∙ ap (λ (j : PlainJob). asked_of j.entry) is in
    let waits_there : may_wait u waits.entry ≡ true = sym (ap (λ (z : PlainUnit). may_wait z waits.entry) enters.3.is)
    ∙ may_have_to v y.entry.ticket waits.entry waits.waits in
    hands_on shared stored x u u' q may s s' (y ∷ []) out out' none
    (inr (ap (λ (j : PlainJob). j ∷ []) is, sym (ap (may_asked u) asked) ∙ waits_there))
    (λ list.
    subst (λ (z : PlainUnit). EntersAs x u list z s' (with_more (y ∷ []) list)) (sym waits.same)
    (subst (λ (t : Slot). EntersAs x u list v t (with_more (y ∷ []) list)) (sym empty) (runs x u v list y enters))) jobs

-- a job leaves its unit, where no other waits
left_alone : (u u' : PlainUnit) (unit_index : ℕ) (t : Ticket) (out : Jobs) → u.parked ≡ [] → Steps u (Step.Leave t) u'
    → Leaves (Hand.Answered unit_index t) u out true u' Hand.Empty out
left_alone u u' unit_index t out none step =
    λ k. (
      record { asks = (step.may, refl); is = step.is },
      refl,
      with_none out ∙ ap (λ (jobs : List PlainJob). with_more (of_tasks (released (Step.Leave t) u.steps) jobs) out) (sym none),
    )

-- all of it in one call of the unit but for the use of the chain, which follows
pub served_alone : {S : Type 0} (storing : S → List Store → S)
    (both : (s : S) (a b : List Store) → storing (storing s a) b ≡ storing s (a ++ b)) (s₁ s₂ s₃ : S)
    (shared : Bool) (x : PlainJob) (u u' : PlainUnit) (q q' : BareQueue) (before middle after : List ℕ → Type 0)
    (len : ℕ) (c : PlainChain) (s : Slot) (out : Jobs)
    → ServesAlone (λ e. WritesWholeIn x e before len middle × (s₂ ≡ storing s₁ (stores_of (ending_writes x e)))) u x u'
    → c ≡ x.chain → SeenBehind shared middle after (used_writes q.ring c.id len)
    → ((m : List ℕ) → after m → q' ≡ completing m c q) → s₃ ≡ storing s₂ (stores_of (used_writes q.ring c.id len))
    → EachSeen shared before after
    (λ found left seen. ServesIn shared (λ ws. s₃ ≡ storing s₁ (stores_of ws)) x u q found s out (brought.Answered true) u' q' left seen s out)
served_alone {S} storing both s₁ s₂ s₃ shared x u u' q q' before middle after len c s out alone chain used queue more =
    let stored : List Write → Type 0 = λ ws. s₃ ≡ storing s₁ (stores_of ws) in
    let e = ending_of alone.outcome in
    let made : stored (decided_writes q.ring x.chain (came alone.outcome)) =
    answer_stored storing both s₁ s₂ s₃ q.ring x.chain c (answer_of (lengths_of x.chain) e) len alone.answered.1 chain
    alone.answered.0.written more in
    each_maps shared before after (AnswersJob shared x e q q')
    (λ found left seen. ServesIn shared stored x u q found s out (brought.Answered true) u' q' left seen s out)
    (λ found left seen is answered. (
      all shared stored x u alone.once_entered alone.once_run u' q q' found left seen out out true alone.outcome alone.enters
          alone.commits answered made (left_alone alone.once_run u' x.unit x.chain.ticket out alone.alone alone.leaves),
      refl,
    ))
    (answers_job shared x e q q' before middle after len c alone.answered.0 chain used queue)

-- what was written over a job's parts answers it, by its chain's lengths
pub writes_whole : (x : PlainJob) (e : Ending) (n : ChainLengths) (c : PlainChain) (before after : List ℕ → Type 0) (len : ℕ)
    → n.readable ≡ readable_total x.chain.parts → n.writable ≡ writable_total x.chain.parts → c ≡ x.chain
    → len ≡ length (answer_of n e) → Wrote before after (scatter_writes c.parts 0 (answer_of n e))
    → WritesWholeIn x e before len after
writes_whole x e n c before after len readable writable chain is wrote =
    let whole : n ≡ lengths_of x.chain = both_lengths n (readable_total x.chain.parts) (writable_total x.chain.parts)
    readable writable in
    record {
      written = is ∙ ap (λ (k : ChainLengths). length (answer_of k e)) whole;
      memory =
          subst (λ (k : ChainLengths). Wrote before after (scatter_writes x.chain.parts 0 (answer_of k e))) whole
          (subst (λ (d : PlainChain). Wrote before after (scatter_writes d.parts 0 (answer_of n e))) chain wrote);
    }

-- data of a command that takes none are its success
pub read_as : (command : Command) (bytes : List ℕ) → (need_of command).out ≡ 0 → good_data bytes ≡ success command bytes
read_as command bytes none =
    let moved : length bytes ≡ (need_of command).out + length bytes = omega (arith, none) in
    ap (λ (k : ℕ). record { status = good; sense = None; payload = bytes; moved = k }) moved

-- and they were stored
pub stores_whole : {S : Type 0} (storing : S → List Store → S) (s₁ s₂ : S) (x : PlainJob) (e : Ending) (n : ChainLengths)
    (c : PlainChain) → n.readable ≡ readable_total x.chain.parts → n.writable ≡ writable_total x.chain.parts → c ≡ x.chain
    → s₂ ≡ storing s₁ (stores_of (scatter_writes c.parts 0 (answer_of n e)))
    → s₂ ≡ storing s₁ (stores_of (ending_writes x e))
stores_whole {S} storing s₁ s₂ x e n c readable writable chain made =
    let whole : n ≡ lengths_of x.chain = both_lengths n (readable_total x.chain.parts) (writable_total x.chain.parts)
    readable writable in
    made ∙ ap (λ (d : PlainChain). storing s₁ (stores_of (scatter_writes d.parts 0 (answer_of n e)))) chain
    ∙ ap (λ (k : ChainLengths). storing s₁ (stores_of (scatter_writes x.chain.parts 0 (answer_of k e)))) whole
