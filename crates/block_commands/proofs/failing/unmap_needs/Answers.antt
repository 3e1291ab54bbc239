use Rattle.std.proofs.Common.{◌≡◌, ℕ, Bool, true, false, List, length, Result, Ok, Err, refl, sym, ap, ◌∙◌, arith}
use Rattle.std.specs.Prelude.{◌&&◌, is_ok}
use Rattle.std.proofs.lemmas.Bool.Decides.{nat_tests}
use Rattle.sense.specs.declared.Sense.{Sense}
use Rattle.command_model.specs.Data.{Answer}
use Rattle.command_model.specs.Failing.{are_cut}
use Rattle.command_model.specs.Replies.{unmap_answer}
use Rattle.command_model.specs.UnmapList.{descriptors, descriptors_in}
use Rattle.block_commands.proofs.Unmapping.{descriptors-none, unmap_answer-too_much, unmap_answer-outside, unmap_answer-done}
use Rattle.block_commands.proofs.failing.unmap_needs.Goals as goal

and_false : (b : Bool) → false ≡ (b && false)
and_false true = refl
and_false false = refl

refused : (answer : Answer) (s : Sense) (cut : Bool) → answer ≡ Err s → false ≡ (is_ok answer && cut)
refused answer s cut is = sym (ap (λ (a : Answer). is_ok a && cut) is)

pub returns-then-is_empty : goal.returns-then-is_empty
returns-then-is_empty c =
    let test = sym c.is_empty.ensures ∙ c.if-is_empty.true in
    let none : length c.args.list.now ≡ 0 = grind (arith, nat_tests) in
    and_false (is_ok (unmap_answer c.args.capacity c.args.list.now))
    ∙ sym (ap (λ l. is_ok (unmap_answer c.args.capacity c.args.list.now) && are_cut c.args.capacity l c.args.page) (descriptors-none c.args.list.now none))

pub returns-then-is_too_much : goal.returns-then-is_too_much
returns-then-is_too_much c =
    refused _ _ (are_cut c.args.capacity (descriptors c.args.list.now) c.args.page)
    (unmap_answer-too_much c.args.capacity c.taken_descriptors-count.result c.args.list.now _ c.if-list-lt-UNMAP_HEADER_BYTES.false
    c.taken_descriptors-count.ensures.count c.split_at.ensures.back (sym c.is_too_much.ensures ∙ c.if-is_too_much.true))

pub returns-then-not-are_in_range : goal.returns-then-not-are_in_range
returns-then-not-are_in_range c =
    refused _ _ (are_cut c.args.capacity (descriptors c.args.list.now) c.args.page)
    (unmap_answer-outside c.args.capacity c.taken_descriptors-count.result c.args.list.now _ c.if-list-lt-UNMAP_HEADER_BYTES.false
    c.taken_descriptors-count.ensures.count c.split_at.ensures.back (sym c.is_too_much.ensures ∙ c.if-is_too_much.false)
    (sym c.are_in_range.ensures ∙ c.if-not-are_in_range.true))

pub returns : goal.returns
returns c =
    let done = unmap_answer-done c.args.capacity c.taken_descriptors-count.result c.args.list.now _ c.if-list-lt-UNMAP_HEADER_BYTES.false
    c.taken_descriptors-count.ensures.count c.split_at.ensures.back (sym c.is_too_much.ensures ∙ c.if-is_too_much.false)
    (sym c.are_in_range.ensures ∙ c.if-not-are_in_range.false) in
    rw (done, ← c.taken_descriptors-count.ensures.count, ← c.split_at.ensures.back) c.cuts_any.ensures
