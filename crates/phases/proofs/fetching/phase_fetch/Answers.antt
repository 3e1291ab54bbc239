use Rattle.std.proofs.Common.{◌≡◌, ◌∙◌, refl}
use Rattle.phases.proofs.fetching.phase_fetch.Goals as goal

pub returns : goal.returns
returns c =
    let still = c.phase_fetch_in.new.memory in
    let same : still.memory.now ≡ c.args.memory.now = c.phase_fetch_in.ensures.stays still.memory.now refl ∙ c.of-still.ensures in
    rw same at (c.phase_fetch_in.ensures.fetches still.memory.now refl)
