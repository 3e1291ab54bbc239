-- Replies of commands that need what can't be read, or flush what can't be written.
use Rattle.std.proofs.Common.{◌≡◌, ◌≤◌, ◌*◌, min, ℕ, List, ◌∷◌, Bool, true, false, Option, Some, None, is_some, refl, ap, sym, ◌∙◌, inl, inr}
use Rattle.std.specs.Option.{option_map}
use Rattle.block_store.specs.Blocks.{Blocks}
use Rattle.block_store.specs.Storage.{Ledger, Dealing, and_then, is_lost, is_denied, IsLostIn, IsDeniedIn}
use Rattle.block_store.proofs.Losing.{load-last, keep-last, keep-denied, cut-denied}
use Rattle.ring_core.specs.declared.log.Ticket.{Ticket}
use Rattle.command_model.specs.PlainReply.{PlainReply}
use Rattle.unit_model.specs.Tasks.{Entry, task_of}
use Rattle.unit_model.specs.Steps.{Step, alive}
use Rattle.cdb.specs.declared.commands.Command.{Command}
use Rattle.cdb.specs.declared.commands.Command.TheVariants.{Read, SynchronizeCache}
use Rattle.command_model.specs.Failing.{flushes_page}
use Rattle.command_model.specs.Waiting.{flushes}
use Rattle.unit_model.specs.Contents.{Opening, blocks_of, block_with, capacity_of, facts_after, reply_after, IsUnreadAfter, IsUnwrittenAfter, MayReply}
use Rattle.unit_model.specs.Lawful.{May}
use Rattle.unit_model.specs.Unit.{PlainUnit, is_backed, HasLost, HasDenied, Replies, MayCommit, MayWithhold, dealing, after}

none_with : (o : Option Entry) (blocks : Blocks) (b : ℕ) → block_with o 2 blocks b ≡ blocks b
none_with None blocks b = refl
none_with (Some e) blocks b = refl

-- a Commit with such a reply changes no block
pub unread_blocks : (o : Opening) (e : Entry) (t : Ticket) (past : List Step) (p : ℕ) (r : PlainReply) (b : ℕ)
    → IsUnreadAfter o e past p r → blocks_of o (Step.Commit t r ∷ past) b ≡ blocks_of o past b
unread_blocks o e t past p r b h =
    ap (λ (x : PlainReply). block_with (task_of t (alive past)) x.status (blocks_of o past) b) h.is
    ∙ none_with (task_of t (alive past)) (blocks_of o past) b

pub unwritten_blocks : (o : Opening) (e : Entry) (t : Ticket) (past : List Step) (p : ℕ) (r : PlainReply) (b : ℕ)
    → IsUnwrittenAfter o e past p r → blocks_of o (Step.Commit t r ∷ past) b ≡ blocks_of o past b
unwritten_blocks o e t past p r b h =
    ap (λ (x : PlainReply). block_with (task_of t (alive past)) x.status (blocks_of o past) b) h.is
    ∙ none_with (task_of t (alive past)) (blocks_of o past) b

-- what flushes a page is a flush
pub page_flushes : (asks_medium : Bool) (blocks : ℕ) (command : Command) (p : ℕ) → flushes_page asks_medium blocks command p ≡ true
    → flushes asks_medium command ≡ true
page_flushes asks_medium blocks (SynchronizeCache lba count) p is = refl
page_flushes true blocks (Read lba count) p is = refl
page_flushes false blocks (Read lba count) p is = is
page_flushes asks_medium blocks command p is = absurd (let never : false ≡ true = is in cc)

-- a unit whose disk is in memory never replies so
pub resident_replies : (o : Opening) (e : Entry) (past : List Step) (r : PlainReply) → MayReply o e past r
    → o.backed ≡ false → r ≡ reply_after o e past
resident_replies o e past r (inl is) resident = is
resident_replies o e past r (inr (inl h)) resident = absurd (let f : false ≡ true = sym resident ∙ h.1.backed in cc)
resident_replies o e past r (inr (inr h)) resident = absurd (let f : false ≡ true = sym resident ∙ h.1.backed in cc)

-- what a unit replies is what its history may reply
pub weaker : (u : PlainUnit) (e : Entry) (r : PlainReply) → Replies u e r → MayReply u.opening e u.steps r
weaker u e r (inl (is, durably)) = inl is
weaker u e r (inr (inl (p, h, lost))) = inr (inl (p, h))
weaker u e r (inr (inr (p, h, denied))) = inr (inr (p, h))

-- what may be committed is a step that may come next
pub commit_steps : (u : PlainUnit) (t : Ticket) (r : PlainReply) → MayCommit u t r → May u.opening (Step.Commit t r) u.steps
commit_steps u t r (e, ready, replies, at_once) = (e, ready, weaker u e r replies)

pub withhold_steps : (u : PlainUnit) (t : Ticket) (r : PlainReply) → MayWithhold u t r
    → May u.opening (Step.Commit t r) u.steps
withhold_steps u t r (e, ready, replies, waits) = (e, ready, weaker u e r replies)

-- a unit whose disk is in memory replies as its history says
pub replies_in_memory : (u : PlainUnit) (e : Entry) (r : PlainReply) → Replies u e r → is_backed u ≡ false
    → r ≡ reply_after u.opening e u.steps
replies_in_memory u e r (inl (is, durably)) off = is
replies_in_memory u e r (inr (inl (p, h, (l, at, lost)))) off =
    absurd (let f : false ≡ true = sym off ∙ ap (λ (o : Option Ledger). is_some o) at in cc)
replies_in_memory u e r (inr (inr (p, h, (l, at, denied)))) off =
    absurd (let f : false ≡ true = sym off ∙ ap (λ (o : Option Ledger). is_some o) at in cc)

-- whether page p is lost or denied, by a test of that, where there is a storage
abbrev is_in : (Ledger → Bool) → Option Ledger → Bool
is_in test None = false
is_in test (Some l) = test l

-- where it isn't once the host's latest word is this
ended : (test : Ledger → Bool) (d : Dealing) (o : Option Ledger) → ((l : Ledger) → test (and_then d l) ≡ false)
    → (l : Ledger) → option_map (and_then d) o ≡ Some l → test l ≡ true → ⊥
ended test d None ends l at is = let f : false ≡ true = ap (is_in test) at ∙ is in cc
ended test d (Some s) ends l at is = let f : false ≡ true = sym (ends s) ∙ ap (is_in test) at ∙ is in cc

pub loaded_ends : (u : PlainUnit) (p : ℕ) → HasLost (dealing (Dealing.Load p) u) p → ⊥
loaded_ends u p (l, at, lost) = ended (is_lost p) (Dealing.Load p) u.storage (λ m. load-last p false m.dealings) l at lost

pub kept_ends : (u : PlainUnit) (p : ℕ) → HasLost (dealing (Dealing.Keep p) u) p → ⊥
kept_ends u p (l, at, lost) = ended (is_lost p) (Dealing.Keep p) u.storage (λ m. keep-last p false m.dealings) l at lost

pub written_ends : (u : PlainUnit) (p : ℕ) → HasDenied (dealing (Dealing.Keep p) u) p → ⊥
written_ends u p (l, at, denied) = ended (is_denied p) (Dealing.Keep p) u.storage (λ m. keep-denied p false m.dealings) l at denied

pub cut_ends : (u : PlainUnit) (p blocks : ℕ) → min (capacity_of u.opening u.steps) blocks ≤ 8 * p → HasDenied (after (Step.Resize blocks) u) p → ⊥
cut_ends u p blocks behind (l, at, denied) =
    let end = min (capacity_of u.opening u.steps) blocks in
    ended (is_denied p) (Dealing.Cut end) u.storage (λ m. cut-denied p end false m.dealings behind) l at denied
