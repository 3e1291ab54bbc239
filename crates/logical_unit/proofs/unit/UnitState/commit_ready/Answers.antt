use Rattle.std.proofs.Common.{◌≡◌, false, inl, sym, subst, ◌∙◌}
use Rattle.cdb.specs.declared.commands.Command.{Command}
use Rattle.logical_unit.specs.Inner.Calls.{writes_through}
use Rattle.logical_unit.proofs.Through.{if_some, ran_commits, off_withheld}
use Rattle.logical_unit.proofs.unit.UnitState.commit_ready.Goals as goal

pub returns-clause-step : goal.returns-clause-step
returns-clause-step c =
    let u = c.args.self.now in
    let j = c.args.job.now in
    let off = subst (λ b. writes_through u b j.entry.command ≡ false) c.asks_medium.ensures
    (subst (λ (k : Command). writes_through u c.asks_medium.result k ≡ false) c.command.ensures (sym c.writes_through.ensures ∙ c.if-writes_through.false)) in
    if_some c.run_ready.result _ _ (λ o ran. inl (ran_commits u j o c.run_ready.new.self off ran (off_withheld u j off))) c.run_ready.ensures.step
