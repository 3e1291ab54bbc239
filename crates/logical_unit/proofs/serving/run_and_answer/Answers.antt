use Rattle.std.proofs.Common.{◌∙◌, ap, false, None, IsTrue, IsFalse, subst}
use Rattle.block_commands.specs.Inner.Told.{facts_of, protects}
use Rattle.block_commands.specs.Inner.Ready.{is_read}
use Rattle.backed_store.specs.Disks as disks
use Rattle.cdb.specs.declared.commands.Command.{Command}
use Rattle.command_model.specs.Inner.PlainReply.{good_data}
use Rattle.logical_unit.specs.Inner.Performing.{Ran, told}
use Rattle.logical_unit.proofs.Alone.{ran_in_place, held_for}
use Rattle.logical_unit.proofs.serving.run_and_answer.Goals as goal

pub read_in_place-requires : goal.read_in_place-requires
read_in_place-requires g c =
    let store = c.args.store.now in
    let entry = c.args.arrival.now.entry in
    record {
      held = λ calm free b reads.
          held_for (disks.holds store) (disks.has_room store) (disks.size_of store) entry.command entry.data_out
          (told c.args.facts.now c.args.attentions.now) c.tell_oldest.new.facts c.tell_oldest.ensures c.requires.ready calm
          (subst (λ (command : Command). IsFalse (protects c.tell_oldest.new.facts command)) c.command-command.ensures free) b
          (subst (λ (command : Command). IsTrue (is_read (disks.size_of store) command b)) c.command-command.ensures reads);
    }

pub returns-in-Some-clause-performed : goal.returns-in-Some-clause-performed
returns-in-Some-clause-performed g c =
    let blocks = disks.blocks_of c.args.store.now in
    let out = c.args.arrival.now.entry.data_out in
    subst (λ (command : Command). Ran false (facts_of (told c.args.facts.now c.args.attentions.now) (disks.size_of c.args.store.now)) command out
    (record { reply = c.of_read.result; kept = None }) blocks blocks c.args.attentions.now c.args.attentions.now)
    c.command-command.ensures
    (ran_in_place c.args.facts.now c.tell_oldest.new.facts (disks.size_of c.args.store.now) c.command-command.result out c.in-Some.data
    c.of_read.result blocks c.args.attentions.now c.tell_oldest.ensures (c.in-Some.ensures.reply out) (c.in-Some.ensures.blocks out)
    c.in-Some.ensures.sends c.in-Some.ensures.calm (c.of_read.ensures ∙ ap good_data c.answer_read-recorded.ensures.recorded))
