use Rattle.std.proofs.Common.{◌≡◌, ◌∙◌, ap}
use mathlib.Core.Path.{fun_ext}
use Rattle.command_model.specs.Data.{data_of}
use Rattle.backed_store.specs.Disks.{size_of, blocks_of}
use Rattle.command_model.specs.Replies.{reply_of}
use Rattle.block_commands.specs.Inner.Told.{facts_of}
use Rattle.block_commands.proofs.prepared.exec_prepared.Goals as goal

pub returns-clause-reply : goal.returns-clause-reply
returns-clause-reply c =
    let facts = c.args.facts.now in
    let command = c.args.command.now in
    let bytes = data_of command c.args.out.now in
    let same : blocks_of c.exchange.new.store ≡ blocks_of c.args.store.now =
    fun_ext (λ b. c.in_ok-installed.ensures.otherwise c.if-installed.false b) in
    c.in_ok-reply.ensures.reply
    ∙ ap (λ n. reply_of (facts_of facts n) command bytes (blocks_of c.exchange.new.store)) c.exchange.ensures.size
    ∙ ap (λ f. reply_of (facts_of facts (size_of c.args.store.now)) command bytes f) same
