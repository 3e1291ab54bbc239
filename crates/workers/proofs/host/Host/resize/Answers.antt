use Rattle.std.proofs.Common.{◌≡◌, ◌∙◌, ◌<◌, length, vec_len, subst, ap, arith}
use Rattle.std.specs.Prelude.{OnOk}
use Rattle.request_intake.specs.Inventory.{PlainInventory, inventory_of}
use Rattle.workers.specs.Resizing.{WasResized}
use Rattle.workers.proofs.host.Host.resize.Goals as goal

-- there are as many units as were wanted, and they have their addresses
pub returns-clause-resized : goal.returns-clause-resized
returns-clause-resized g c =
    let shared = ap (λ s. vec_len s.units) c.deref.ensures in
    let view = ap (λ v. length v.units) c.self.view_is in
    let many : vec_len c.deref.result.now.units ≡ length c.args.self.now.units =
    omega (arith, shared, c.self.invariant.1, c.self.inside.specs.ok.0, view) in
    let told = ap (λ v. v.told) c.self.view_is in
    let addresses : c.deref.result.now.inventory ≡ inventory_of c.args.self.now.units =
    ap (λ s. s.inventory) c.deref.ensures ∙ c.self.invariant.8 ∙ ap (λ v. inventory_of v.units) c.self.view_is in
    subst (λ (l : PlainInventory). OnOk c.resize-done.result (c.args.unit_index < length c.args.self.now.units → WasResized l c.args.unit_index c.args.blocks c.args.self.now.told)) addresses
    (subst (λ b. OnOk c.resize-done.result (c.args.unit_index < length c.args.self.now.units → WasResized c.deref.result.now.inventory c.args.unit_index c.args.blocks b)) told
    (subst (λ n. OnOk c.resize-done.result (c.args.unit_index < n → WasResized c.deref.result.now.inventory c.args.unit_index c.args.blocks c.self.inside.told)) many c.resize-done.ensures.resized))
