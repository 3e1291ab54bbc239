-- A command that changed the medium, and ended with GOOD.
use Rattle.std.proofs.Common.{◌≡◌, ◌⊎◌, ℕ, zero, suc, ◌==◌, ◌<◌, nat_lt, Bool, true, false, ◌||◌, ◌&&◌, cond, inl, inr, List, [], ◌∷◌, length, Option, Some, None, Result, Ok, Err, Contains, refl, sym, ◌∙◌, ap, subst, arith}
use Rattle.std.specs.Prelude.{if◌then◌else◌, unwrap_or}
use Rattle.sense.specs.declared.Sense.{Sense}
use Rattle.sense.specs.declared.SenseFormat.{SenseFormat}
use Rattle.sense.specs.Conditions.{write_protected, parameter_list_length_error, invalid_field_in_parameter_list, lba_out_of_range}
use Rattle.cdb.specs.declared.commands.Command.{Command}
use Rattle.cdb.specs.declared.commands.Command.TheVariants.{TestUnitReady, RequestSense, Read, Write, Inquiry, ReadCapacity10, ReadCapacity16, SynchronizeCache, WriteSame, Unmap, CompareAndWrite, ReportLuns, Wide, Bad, Unknown}
use Rattle.cdb.specs.declared.wide_commands.WideCommand.{WideCommand}
use Rattle.cdb.specs.declared.wide_commands.WideCommand.TheVariants.{ModeSense, ModeSelect, ReportTaskManagement, ReportOperationCodes, GetLbaStatus, Verify, WriteZeros, OrWrite, FormatUnit, ReadDefectData}
use Rattle.block_store.specs.Blocks.{Blocks}
use Rattle.ring_core.specs.declared.log.Ticket.{Ticket}
use Rattle.command_model.specs.Data.{Answer, done as no_data}
use Rattle.command_model.specs.Attention.{met}
use Rattle.command_model.specs.Comparing.{compared}
use Rattle.command_model.specs.Effects.{changes_medium}
use Rattle.command_model.specs.Facts.{Facts}
use Rattle.command_model.specs.UnmapList.{descriptors, blocks_named, are_in_range}
use Rattle.command_model.specs.PlainReply.{PlainReply, refusal, success, replied, sent_in}
use Rattle.command_model.specs.Replies.{answer_of, format_told, permitted, is_protected, reported, reply_of}
use Rattle.command_model.specs.Statuses.{good}
use Rattle.unit_model.specs.Tasks.{Entry, same_ticket, task_of, without}
use Rattle.unit_model.specs.Steps.{Step, alive, done, ended_well}
use Rattle.unit_model.specs.Contents.{Opening, blocks_of, facts_after, reply_after, IsUnreadAfter, MayReply}
use Rattle.unit_model.specs.Lawful.{IsLawful, IsReady}
use Rattle.unit_model.proofs.Tickets.{same-true, eq-same}
use Rattle.unit_model.proofs.Fresh.{above_fresh, fresh_undone}
use Rattle.unit_model.proofs.Distinct.{task_push_other, task_without_other, alive_distinct, without_none}
use Rattle.unit_model.proofs.Keeping.{well_done}

-- it gives no data: this answer, or a sense
abbrev IsBare : Answer → Type 0
IsBare answer = (bytes : List ℕ) → answer ≡ Ok bytes → bytes ≡ []

abbrev data_in : Answer → List ℕ
data_in (Ok bytes) = bytes
data_in (Err s) = []

bare_done : IsBare no_data
bare_done bytes is = sym (ap data_in is)

bare_err : (s : Sense) → IsBare (Err s)
bare_err s bytes is = absurd (cc)

bare_if : (b : Bool) (x y : Answer) → IsBare x → IsBare y → IsBare (if b then x else y)
bare_if true x y one two = one
bare_if false x y one two = two

bare_some : (at : Option ℕ) → IsBare (compared at)
bare_some None = bare_done
bare_some (Some n) = bare_err _

bare : (facts : Facts) (command : Command) (bytes : List ℕ) (blocks : Blocks) → changes_medium command ≡ true
    → IsBare (answer_of facts command bytes blocks)
bare facts (Write lba count) bytes blocks is = bare_if _ _ _ bare_done (bare_err _)
bare facts (WriteSame lba count) bytes blocks is = bare_if _ _ _ bare_done (bare_err _)
bare facts (Unmap list_length) bytes blocks is =
    let taken = descriptors bytes in
    bare_if (length bytes == 0) no_data _ bare_done
    (bare_if (nat_lt (length bytes) 8) (Err parameter_list_length_error) _ (bare_err parameter_list_length_error)
    (bare_if (nat_lt 16 (length taken) || nat_lt 65536 (blocks_named taken)) (Err invalid_field_in_parameter_list) _ (bare_err invalid_field_in_parameter_list)
    (bare_if (are_in_range facts.capacity taken) no_data (Err lba_out_of_range) bare_done (bare_err lba_out_of_range))))
bare facts (CompareAndWrite lba count) bytes blocks is = bare_if _ _ _ (bare_some _) (bare_err _)
bare facts (Wide (WriteZeros count lba)) bytes blocks is = bare_if _ _ _ bare_done (bare_err _)
bare facts (Wide (OrWrite count lba)) bytes blocks is = bare_if _ _ _ bare_done (bare_err _)
bare facts (Wide (FormatUnit list)) bytes blocks is = bare_if _ _ _ (bare_err _) bare_done
bare facts (Wide (ModeSense request)) bytes blocks is = absurd (cc)
bare facts (Wide (ModeSelect form list_length)) bytes blocks is = absurd (cc)
bare facts (Wide (ReportTaskManagement extended allocation)) bytes blocks is = absurd (cc)
bare facts (Wide (ReportOperationCodes asked timeouts allocation)) bytes blocks is = absurd (cc)
bare facts (Wide (GetLbaStatus allocation lba)) bytes blocks is = absurd (cc)
bare facts (Wide (Verify sent count lba)) bytes blocks is = absurd (cc)
bare facts (Wide (ReadDefectData request)) bytes blocks is = absurd (cc)
bare facts TestUnitReady bytes blocks is = absurd (cc)
bare facts (RequestSense format allocation) bytes blocks is = absurd (cc)
bare facts (Read lba count) bytes blocks is = absurd (cc)
bare facts (Inquiry what allocation) bytes blocks is = absurd (cc)
bare facts ReadCapacity10 bytes blocks is = absurd (cc)
bare facts (ReadCapacity16 allocation) bytes blocks is = absurd (cc)
bare facts (SynchronizeCache lba count) bytes blocks is = absurd (cc)
bare facts (ReportLuns select allocation) bytes blocks is = absurd (cc)
bare facts (Bad opcode) bytes blocks is = absurd (cc)
bare facts Unknown bytes blocks is = absurd (cc)

bare_replied : (command : Command) (answer : Answer) → IsBare answer → (format : SenseFormat)
    → (sent_in format (replied command answer)).status ≡ good → sent_in format (replied command answer) ≡ success command []
bare_replied command (Ok bytes) bare format ends = ap (success command) (bare bytes refl)
bare_replied command (Err s) bare format ends = absurd (let never : 2 ≡ 0 = ends in omega (arith, never))

permitted_bare : (facts : Facts) (command : Command) (answer : Answer) → IsBare answer → IsBare (permitted facts command answer)
permitted_bare facts command answer bare = bare_if (is_protected facts command) (Err write_protected) answer (bare_err _) bare

bare_reported : (format : SenseFormat) (command : Command) (answer : Answer) (attention : Option Sense) → IsBare answer
    → (sent_in format (reported attention (replied command answer))).status ≡ good
    → sent_in format (reported attention (replied command answer)) ≡ success command []
bare_reported format command answer None bare ends = bare_replied command answer bare format ends
bare_reported format command answer (Some s) bare ends = absurd (let never : 2 ≡ 0 = ends in omega (arith, never))

-- the reply to such a command
pub well_is : (facts : Facts) (command : Command) (bytes : List ℕ) (blocks : Blocks) → changes_medium command ≡ true
    → (reply_of facts command bytes blocks).status ≡ good → reply_of facts command bytes blocks ≡ success command []
well_is facts command bytes blocks changes ends =
    bare_reported (format_told facts) command (permitted facts command (answer_of facts command bytes blocks)) (met command facts.pending)
    (permitted_bare facts command _ (bare facts command bytes blocks changes)) ends

may_well : (o : Opening) (e : Entry) (past : List Step) (r : PlainReply) → changes_medium e.command ≡ true → r.status ≡ good
    → MayReply o e past r → r ≡ success e.command []
may_well o e past r changes ends (inl is) =
    is ∙ well_is (facts_after o past) e.command e.data_out (blocks_of o past) changes (ap (λ (x : PlainReply). x.status) (sym is) ∙ ends)
may_well o e past r changes ends (inr (inl (p, unread))) =
    let never : 0 ≡ 2 = sym ends ∙ ap (λ (x : PlainReply). x.status) unread.is in
    absurd (omega (arith, never))
may_well o e past r changes ends (inr (inr (p, unwritten))) =
    let never : 0 ≡ 2 = sym ends ∙ ap (λ (x : PlainReply). x.status) unwritten.is in
    absurd (omega (arith, never))

pub same_entry : (x : Option Entry) (d e : Entry) → x ≡ Some d → x ≡ Some e → d ≡ e
same_entry x d e one two = ap (λ (y : Option Entry). unwrap_or y d) (sym one ∙ two)

here : {X : Type 0} (x : X) (xs : List X) → Contains (x ∷ xs) x
here x xs = (0, omega arith, refl)

later : {X : Type 0} (x y : X) (xs : List X) → Contains xs x → Contains (y ∷ xs) x
later x y xs (k, lt, is) = (suc k, omega (arith, lt), is)

-- the task of a ticket is alive, and its command changed the medium and ended with GOOD: so it was replied to
pub well_replied : (o : Opening) (t : Ticket) (e : Entry) (h : List Step) → IsLawful o h → task_of t (alive h) ≡ Some e
    → changes_medium e.command ≡ true → ended_well t h ≡ true → Contains h (Step.Commit t (success e.command []))
well_replied o t e [] l at changes well = absurd (cc)
well_replied o t e (Step.Commit u r ∷ past) l at changes well =
    (elim (same_ticket u t) as (λ b. same_ticket u t ≡ b → ((b && (r.status == good)) || ended_well t past) ≡ true
    → Contains (Step.Commit u r ∷ past) (Step.Commit t (success e.command []))) [
      | true ↦ λ same w.
          (elim (r.status == good) as (λ b. r.status == good ≡ b → (b || ended_well t past) ≡ true
          → Contains (Step.Commit u r ∷ past) (Step.Commit t (success e.command []))) [
            | true ↦ λ ends w.
                let own : u ≡ t = same-true u t same in
                let there : task_of u (alive past) ≡ Some e = ap (λ x. task_of x (alive past)) own ∙ at in
                let is : l.1.0 ≡ e = same_entry (task_of u (alive past)) l.1.0 e l.1.1.is_there there in
                let may : MayReply o e past r = subst (λ x. MayReply o x past r) is l.1.2 in
                let reply : r ≡ success e.command [] = may_well o e past r changes (grind (arith, ends)) may in
                subst (λ s. Contains (Step.Commit u r ∷ past) s) (ap (λ x. Step.Commit x r) own ∙ ap (λ x. Step.Commit t x) reply)
                (here (Step.Commit u r) past)
            | false ↦ λ ends w. later _ _ past (well_replied o t e past l.0 at changes w)
          ]) refl w
      | false ↦ λ same w. later _ _ past (well_replied o t e past l.0 at changes w)
    ]) refl well
well_replied o t e (Step.Enter f ∷ past) l at changes well =
    (elim (same_ticket f.ticket t) as (λ b. same_ticket f.ticket t ≡ b → Contains (Step.Enter f ∷ past) (Step.Commit t (success e.command []))) [
      | true ↦ λ same.
          let own : f.ticket ≡ t = same-true f.ticket t same in
          let undone = fresh_undone o f.ticket past l.0 (above_fresh o f.ticket past l.0 l.1.1) in
          let never : false ≡ true = sym undone ∙ ap (λ x. done x past) own ∙ well_done t past well in
          absurd (cc)
      | false ↦ λ other. later _ _ past (well_replied o t e past l.0 (sym (task_push_other t f (alive past) other) ∙ at) changes well)
    ]) refl
well_replied o t e (Step.Leave u ∷ past) l at changes well =
    (elim (same_ticket u t) as (λ b. same_ticket u t ≡ b → Contains (Step.Leave u ∷ past) (Step.Commit t (success e.command []))) [
      | true ↦ λ same.
          let own : u ≡ t = same-true u t same in
          let none = subst (λ n. task_of n (without u (alive past)) ≡ None) own (without_none u (alive past) (alive_distinct o past l.0)) in
          let never : None ≡ Some e = sym none ∙ at in
          absurd (cc)
      | false ↦ λ other. later _ _ past (well_replied o t e past l.0 (sym (task_without_other t u (alive past) other) ∙ at) changes well)
    ]) refl
well_replied o t e (Step.Full u ∷ past) l at changes well = later _ _ past (well_replied o t e past l.0 at changes well)
well_replied o t e (Step.Busy u ∷ past) l at changes well = later _ _ past (well_replied o t e past l.0 at changes well)
well_replied o t e (Step.Abort rule ∷ past) l at changes well = later _ _ past (well_replied o t e past l.0 at changes well)
well_replied o t e (Step.Reset c ∷ past) l at changes well = later _ _ past (well_replied o t e past l.0 at changes well)
well_replied o t e (Step.Resize n ∷ past) l at changes well = later _ _ past (well_replied o t e past l.0 at changes well)

or_well : (a b : Bool) → b ≡ true → (a || b) ≡ true
or_well true b is = refl
or_well false b is = is

-- a Commit with GOOD ended well
pub contained_well : (t : Ticket) (r : PlainReply) (h : List Step) → r.status ≡ good → Contains h (Step.Commit t r) → ended_well t h ≡ true
contained_well t r [] ends (k, lt, is) = absurd (omega (arith, lt))
contained_well t r (s ∷ past) ends (zero, lt, is) =
    subst (λ x. ended_well t (x ∷ past) ≡ true) (sym is)
    (ap (λ b. (b && (r.status == good)) || ended_well t past) (eq-same t t refl) ∙ ap (λ n. (n == good) || ended_well t past) ends)
contained_well t r (s ∷ past) ends (suc k, lt, is) = well_more t s past (contained_well t r past ends (k, omega (arith, lt), is))
  where
    well_more : (t : Ticket) (s : Step) (past : List Step) → ended_well t past ≡ true → ended_well t (s ∷ past) ≡ true
    well_more t (Step.Commit u r) past well = or_well _ _ well
    well_more t (Step.Enter e) past well = well
    well_more t (Step.Full u) past well = well
    well_more t (Step.Busy u) past well = well
    well_more t (Step.Abort rule) past well = well
    well_more t (Step.Reset c) past well = well
    well_more t (Step.Resize n) past well = well
    well_more t (Step.Leave u) past well = well
