-- Answers within a range of blocks.
use Rattle.std.proofs.Common.{◌≡◌, ℕ, zero, suc, ◌+◌, ◌*◌, ◌<◌, ◌≤◌, true, false, Bool, List, ◌++◌, length, if◌then◌else◌, refl, ap, ◌∙◌, arith, Option, None, Some, Ok, Err, inl, inr, unwrap_or}
use Rattle.std.specs.Prelude.{◌==◌, nat_lt, take}
use Rattle.std.proofs.lemmas.Bool.{ltb-true}
use Rattle.std.specs.List.{prefix_len, range_with_len}
use Rattle.std.proofs.lemmas.Bool.Decides.{leb_tells}
use Rattle.sense.specs.declared.Sense.{Sense}
use Rattle.sense.specs.declared.SenseFormat.{SenseFormat}
use Rattle.cdb.specs.declared.commands.Command.{Command}
use Rattle.cdb.specs.declared.commands.Command.TheVariants.{Read, Write, CompareAndWrite, Wide}
use Rattle.cdb.specs.declared.wide_commands.WideCommand.{WideCommand}
use Rattle.cdb.specs.declared.wide_commands.WideCommand.TheVariants.{GetLbaStatus, Verify}
use Rattle.command_model.specs.Wide.{wide_answer}
use Rattle.block_store.specs.Blocks.{Blocks, run, overwritten, block_count, is_within}
use Rattle.command_model.specs.Data.{Answer}
use Rattle.command_model.specs.PlainReply.{PlainReply, replied}
use Rattle.command_model.specs.Statuses.{good}
use Rattle.command_model.specs.Capacity.{within}
use Rattle.command_model.specs.Comparing.{to_compare, to_verify, first_unequal, compared}
use Rattle.command_model.specs.Effects.{block_after, where_covered}
use Rattle.command_model.specs.Facts.{Facts}
use Rattle.command_model.specs.Provisioning.{alike, looked_at, lba_status, provisioning}
use Rattle.command_model.specs.Replies.{answer_of, cache_told, format_told, read_only_told, reported}
use Rattle.sense.specs.Conditions.{lba_out_of_range, write_protected}

-- blocks that agree below a number give the same run below it
pub run-agree : (p q : Blocks) (first n limit : ℕ) → first + n ≤ limit → ((b : ℕ) → b < limit → p b ≡ q b) → run p first n ≡ run q first n
run-agree p q first zero limit below agree = refl
run-agree p q first (suc n) limit below agree =
    let here : p first ≡ q first = agree first (omega arith) in
    let later : run p (first + 1) n ≡ run q (first + 1) n = run-agree p q (first + 1) n limit (omega arith) agree in
    ap (λ l. l ++ run p (first + 1) n) here ∙ ap (λ l. q first ++ l) later

-- answers that are the same where the range is in range
pub within-same : (blocks lba count : ℕ) (a b : Answer) → (lba + count ≤ blocks → a ≡ b) → within blocks lba count a ≡ within blocks lba count b
within-same blocks lba count a b same =
    elim (leb_tells (lba + count) blocks) [
      | inl inside ↦ rw inside.0 (same inside.1)
      | inr outside ↦ rw outside.0 refl
    ]

-- numbers below a limit pass tests alike that agree there
prefix_len-agree : (p q : ℕ → Bool) (a n limit : ℕ) → a + n ≤ limit → ((b : ℕ) → b < limit → p b ≡ q b) →
    prefix_len p (range_with_len a n) ≡ prefix_len q (range_with_len a n)
prefix_len-agree p q a zero limit below agree = refl
prefix_len-agree p q a (suc n) limit below agree =
    let here : p a ≡ q a = agree a (omega arith) in
    let later : prefix_len p (range_with_len (a + 1) n) ≡ prefix_len q (range_with_len (a + 1) n) =
    prefix_len-agree p q (a + 1) n limit (omega arith) agree in
    rw (here, later) refl

-- blocks that agree below the capacity have the same status, and as many alike
status-agree : (capacity lba : ℕ) (p q : Blocks) → lba < capacity → ((b : ℕ) → b < capacity → p b ≡ q b) →
    lba_status capacity lba p ≡ lba_status capacity lba q
unfolding lba_status
status-agree capacity lba p q below agree =
    let same : p lba ≡ q lba = agree lba below in
    let count : alike p lba (looked_at capacity lba) ≡ alike q lba (looked_at capacity lba) =
    prefix_len-agree (λ b. provisioning (p b) == provisioning (p lba)) (λ b. provisioning (q b) == provisioning (q lba))
    lba (looked_at capacity lba) capacity (omega arith)
    (λ b less. rw (same, agree b less) refl) in
    rw (count, same) refl

wide_answer-agree : (format : SenseFormat) (write_cache read_only : Bool) (capacity : ℕ) (command : WideCommand) (bytes : List ℕ) (p q : Blocks) → ((b : ℕ) → b < capacity → p b ≡ q b) →
    wide_answer format write_cache read_only capacity command bytes p ≡ wide_answer format write_cache read_only capacity command bytes q
wide_answer-agree format write_cache read_only capacity (Verify sent count lba) bytes p q agree =
    within-same capacity lba count _ _
    (λ below. ap (λ l. compared (first_unequal (run (to_verify sent bytes) 0 count) l)) (run-agree p q lba count capacity below agree))
wide_answer-agree format write_cache read_only capacity (GetLbaStatus allocation lba) bytes p q agree =
    told (nat_lt lba capacity) refl
  where
    told : (inside : Bool) → nat_lt lba capacity ≡ inside →
        (if inside then Ok (take allocation (lba_status capacity lba p)) else Err lba_out_of_range)
        ≡ (if inside then Ok (take allocation (lba_status capacity lba q)) else Err lba_out_of_range)
    told true is = ap (λ l. Ok (take allocation l)) (status-agree capacity lba p q (ltb-true lba capacity is) agree)
    told false is = refl
wide_answer-agree format write_cache read_only capacity _ bytes p q agree = refl

pub answer_of-agree : (facts : Facts) (command : Command) (bytes : List ℕ) (p q : Blocks) → ((b : ℕ) → b < facts.capacity → p b ≡ q b) →
    answer_of facts command bytes p ≡ answer_of facts command bytes q
answer_of-agree facts (Read lba count) bytes p q agree =
    within-same facts.capacity lba count _ _ (λ below. ap (λ l. Ok l) (run-agree p q lba count facts.capacity below agree))
answer_of-agree facts (CompareAndWrite lba count) bytes p q agree =
    within-same facts.capacity lba count _ _
    (λ below. ap (λ l. compared (first_unequal (to_compare count bytes) l)) (run-agree p q lba count facts.capacity below agree))
answer_of-agree facts (Wide command) bytes p q agree = wide_answer-agree (format_told facts) (cache_told facts) (read_only_told facts) facts.capacity command bytes p q agree
answer_of-agree facts _ bytes p q agree = refl

-- no attention stopped what ended with GOOD
pub reported-good : (attention : Option Sense) (reply : PlainReply) → (reported attention reply).status ≡ good → attention ≡ None
reported-good None reply ended = refl
reported-good (Some s) reply ended = absurd (omega arith)

-- nor that the unit is read-only
pub permitted-good : (command : Command) (protected : Bool) (answer : Answer) → (replied command (if protected then Err write_protected else answer)).status ≡ good →
    protected ≡ false
permitted-good command true answer ended = absurd (omega arith)
permitted-good command false answer ended = refl

-- and its range was in range
pub within-good : (command : Command) (inside : Bool) (bytes : List ℕ) → (replied command (if inside then Ok bytes else Err lba_out_of_range)).status ≡ good → inside ≡ true
within-good command true bytes ended = refl
within-good command false bytes ended = absurd (omega arith)

-- what a command gives, or what was there
pub unwrap_or-where_covered : (covered : Bool) (bytes old : List ℕ) → unwrap_or (where_covered covered bytes) old ≡ (if covered then bytes else old)
unwrap_or-where_covered true bytes old = refl
unwrap_or-where_covered false bytes old = refl

-- a GOOD write of these blocks overwrites them
pub block_after-write : (lba count : ℕ) (bytes : List ℕ) (blocks : Blocks) (b : ℕ) → length bytes ≡ 512 * count →
    block_after (Write lba count) bytes good blocks b ≡ overwritten blocks lba bytes b
block_after-write lba count bytes blocks b size =
    let same : block_count bytes ≡ count = omega arith in
    rw (unwrap_or-where_covered (is_within lba count b), same) refl
