use Rattle.std.proofs.Common.{◌≡◌, ◌-◌}
use Rattle.command_model.specs.ModeLists.{pages_answer}
use Rattle.block_commands.proofs.mode_lists.take_pages.Given as goal

-- those so far were taken, so what is left decides
abbrev pub invariant-loop-taken : goal.invariant-loop-taken
invariant-loop-taken l = pages_answer l.format l.write_cache (l.most - l.taken) l.rest ≡ pages_answer l.format l.write_cache l.most l.list
