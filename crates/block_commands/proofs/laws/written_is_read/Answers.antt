use Rattle.std.proofs.Common.{◌≡◌, ◌+◌, ◌∙◌, refl, false, true, None, arith, []}
use Rattle.cdb.specs.declared.commands.Command.TheVariants.{Write}
use Rattle.block_store.specs.Blocks.{run, overwritten}
use Rattle.command_model.specs.Statuses.{good}
use Rattle.command_model.specs.Capacity.{is_in_range}
use Rattle.command_model.specs.Effects.{block_after}
use Rattle.command_model.specs.Replies.{read_only_told}
use Rattle.block_commands.proofs.Ranges.{run-agree, permitted-good, reported-good, within-good, block_after-write}
use Rattle.block_commands.proofs.laws.written_is_read.Goals as goal

pub returns : goal.returns
returns c = λ facts lba count bytes blocks size ended.
    let none : facts.pending ≡ None = reported-good facts.pending _ ended in
    let writable : read_only_told facts ≡ false = permitted-good (Write lba count) _ _ (rw none at ended) in
    let inside : is_in_range facts.capacity lba count ≡ true = within-good (Write lba count) _ [] (rw (none, writable) at ended) in
    let read : run (block_after (Write lba count) bytes good blocks) lba count ≡ bytes =
    run-agree (block_after (Write lba count) bytes good blocks) (overwritten blocks lba bytes) lba count (lba + count) (omega arith) (λ b _. block_after-write lba count bytes blocks b size)
    ∙ c.written_is_read_back.ensures blocks lba count bytes size in
    rw (none, inside, read) refl
