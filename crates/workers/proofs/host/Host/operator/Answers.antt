use Rattle.std.proofs.Common.{◌≡◌, ◌∙◌, ◌<◌, length, vec_len, subst, ap, arith}
use Rattle.std.specs.Prelude.{OnOk}
use Rattle.request_intake.specs.Inventory.{PlainInventory, inventory_of}
use Rattle.workers.specs.Resetting.{WasReset}
use Rattle.workers.proofs.host.Host.operator.Goals as goal

-- there are as many units as were wanted, and they have their addresses
pub returns-clause-reset : goal.returns-clause-reset
returns-clause-reset g c =
    let shared = ap (λ s. vec_len s.units) c.deref.ensures in
    let view = ap (λ v. length v.units) c.self.view_is in
    let many : vec_len c.deref.result.now.units ≡ length c.args.self.now.units =
    omega (arith, shared, c.self.invariant.1, c.self.inside.specs.ok.0, view) in
    let addresses : c.deref.result.now.inventory ≡ inventory_of c.args.self.now.units =
    ap (λ s. s.inventory) c.deref.ensures ∙ c.self.invariant.8 ∙ ap (λ v. inventory_of v.units) c.self.view_is in
    subst (λ (l : PlainInventory). OnOk c.reset-done.result (c.args.unit_index < length c.args.self.now.units → WasReset l c.args.unit_index)) addresses
    (subst (λ n. OnOk c.reset-done.result (c.args.unit_index < n → WasReset c.deref.result.now.inventory c.args.unit_index)) many c.reset-done.ensures.reset)
