use Rattle.std.proofs.Common.{◌∙◌}
use Rattle.std.proofs.lemmas.Result.{on_ok_weaker}
use Rattle.host_storage.specs.Inner.Storage.{given_blocks}
use Rattle.host_storage.proofs.Pages.{put-page}
use Rattle.host_storage.proofs.storage.Storage.give.Goals as goal

pub returns-clause-given : goal.returns-clause-given
returns-clause-given c =
    on_ok_weaker c.write_blocks.result (λ put b. put b ∙ put-page (given_blocks c.args.self.now) c.args.page c.args.bytes.now c.requires.len b) c.write_blocks.ensures.ok
