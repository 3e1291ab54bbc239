use Rattle.block_store.proofs.page.take_made.Given as goal

abbrev pub decreases-loop-page : goal.decreases-loop-page
decreases-loop-page l = goal.left-loop-page l
