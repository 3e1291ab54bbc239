use Rattle.std.proofs.Common.{inl, inr, arith}
use Rattle.backed_store.proofs.Parted.{within-part}
use Rattle.backed_store.proofs.Kept.{same-then, host-then}
use Rattle.backed_store.proofs.backed.BackedStore.make_room_for.Goals as goal

pub loop-done-preserved : goal.loop-done-preserved
loop-done-preserved c =
    let here = c.make_room-here.ensures in
    let so_far = c.loop-done.invariant in
    record {
      within = omega arith;
      room = λ is b of.
          elim (within-part c.args.first c.loop-done.done c.in_page-done.result b c.in_page-done.ensures.fits of) [
            | inl early ↦ here.keeps_room b (so_far.room (c.and-so_far.ensures.asked is).0 b early)
            | inr now ↦ here.room (c.and-so_far.ensures.asked is).1 b now
          ];
      same = same-then so_far.same here.same;
      host = host-then so_far.host here.host;
      held = λ b was. here.held b (so_far.held b was);
      coming = λ b was. here.coming b (so_far.coming b was);
      keeps_room = λ b was. here.keeps_room b (so_far.keeps_room b was);
    }
