-- What a flush leaves.
use Rattle.std.proofs.Common.{◌≡◌, ◌≤◌, ℕ, Bool, true, false, List, ◌∷◌, length, drop, Option, Some, None, IfSome, refl, ap, sym, subst, ◌∙◌, inl, inr, arith}
use Rattle.std.specs.Prelude.{unwrap_or}
use Rattle.block_store.specs.Blocks.{Blocks}
use Rattle.block_store.specs.Storage.{Ledger, IsLeft}
use Rattle.ring_core.specs.declared.log.Ticket.{Ticket}
use Rattle.command_model.specs.PlainReply.{PlainReply}
use Rattle.command_model.specs.Statuses.{good}
use Rattle.command_model.specs.Waiting.{flushes, is_read}
use Rattle.unit_model.specs.Tasks.{Entry, task_of}
use Rattle.unit_model.specs.Steps.{Step, alive, as_of}
use Rattle.unit_model.specs.Enabling.{enabled}
use Rattle.unit_model.specs.Contents.{Opening, blocks_of}
use Rattle.unit_model.specs.Flushing.{HasBeen, is_in_flush, IsFlushed}
use Rattle.unit_model.specs.Unit.{PlainUnit, MayCommit, Replies}

same_entry : (o : Option Entry) (d e : Entry) → o ≡ Some d → o ≡ Some e → d ≡ e
same_entry o d e one two = ap (λ (x : Option Entry). unwrap_or x d) (sym one ∙ two)

replies_flushed : (u : PlainUnit) (e : Entry) (r : PlainReply) (l : Ledger) → Replies u e r → r.status ≡ good → flushes e.asks_medium e.command ≡ true
    → u.storage ≡ Some l → IsFlushed u.opening u.steps l e
replies_flushed u e r l (inl (is, flushed)) ends flush at =
    subst (λ (o : Option Ledger). IfSome o (λ l. IsFlushed u.opening u.steps l e)) at (flushed ends flush)
replies_flushed u e r l (inr (inl (p, unread, lost))) ends flush at =
    let never : 0 ≡ 2 = sym ends ∙ ap (λ (x : PlainReply). x.status) unread.is in
    absurd (omega (arith, never))
replies_flushed u e r l (inr (inr (p, unwritten, denied))) ends flush at =
    let never : 0 ≡ 2 = sym ends ∙ ap (λ (x : PlainReply). x.status) unwritten.is in
    absurd (omega (arith, never))

-- so of the task of a ticket
commits_flushed : (u : PlainUnit) (t : Ticket) (e : Entry) (r : PlainReply) (l : Ledger) → MayCommit u t r
    → r.status ≡ good → task_of t (alive u.steps) ≡ Some e → flushes e.asks_medium e.command ≡ true → u.storage ≡ Some l
    → IsFlushed u.opening u.steps l e
commits_flushed u t e r l (d, ready, replies, at_once) ends there flush at =
    let same : d ≡ e = same_entry (task_of t (alive u.steps)) d e ready.is_there there in
    subst (λ x. IsFlushed u.opening u.steps l x) same (replies_flushed u d r l replies ends (ap (λ (x : Entry). flushes x.asks_medium x.command) same ∙ flush) at)

pub durable : (u : PlainUnit) (t : Ticket) (e : Entry) (r : PlainReply) (l : Ledger) (left : Blocks) (b : ℕ) → MayCommit u t r
    → r.status ≡ good → task_of t (alive u.steps) ≡ Some e → flushes e.asks_medium e.command ≡ true → u.storage ≡ Some l → IsLeft l left → is_in_flush e.command b ≡ true
    → HasBeen u.opening u.steps e b (left b)
durable u t e r l left b may ends there flush at leaves named = (commits_flushed u t e r l may ends there flush at).0 left leaves b named

pub as_left : (u : PlainUnit) (t : Ticket) (e : Entry) (r : PlainReply) (l : Ledger) (left : Blocks) (b : ℕ) → MayCommit u t r
    → r.status ≡ good → task_of t (alive u.steps) ≡ Some e → flushes e.asks_medium e.command ≡ true → is_read e.command ≡ true
    → u.storage ≡ Some l → IsLeft l left → is_in_flush e.command b ≡ true → left b ≡ blocks_of u.opening u.steps b
as_left u t e r l left b may ends there flush reads at leaves named = (commits_flushed u t e r l may ends there flush at).1 reads left leaves b named

pub written : (o : Opening) (steps : List Step) (e : Entry) (b : ℕ) (left bytes : List ℕ) → HasBeen o steps e b left
    → ((p : ℕ) → p ≤ length steps → enabled e (as_of p steps) ≡ true → blocks_of o (as_of p steps) b ≡ bytes) → left ≡ bytes
written o steps e b left bytes was same = was.is ∙ same was.place was.past was.might
