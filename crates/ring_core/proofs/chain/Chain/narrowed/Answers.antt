use Rattle.std.proofs.Common.{◌≡◌, ◌≤◌, List, length, min, sym, subst, rules}
use Rattle.ring_core.specs.Parts.{writable_total}
use Rattle.ring_core.specs.Writes.{scatter_writes}
use Rattle.ring_core.specs.Inner.Narrow.{first_writable}
use Rattle.ring_core.specs.declared.descriptor.Part.{Part}
use Rattle.ring_core.proofs.Narrowing.{few_first, room_first, same_written, stays_right}
use Rattle.ring_core.proofs.chain.Chain.narrowed.Goals as goal

pub invariant_of-result : goal.invariant_of-result
invariant_of-result c =
    let old = c.self.inside.body.value in
    let is : c.deref_mut-3.result.now.parts.items ≡ first_writable c.args.most old.parts.items = search rules in
    let none : c.deref_mut-3.result.now.readable_len ≡ 0 = search rules in
    let least : c.min.result ≡ min old.writable_len c.args.most = search rules in
    let same : c.deref_mut-3.result.now.memory ≡ old.memory = search rules in
    stays_right old.memory c.deref_mut-3.result.now.memory c.args.most old.writable_len
    c.deref_mut-3.result.now.readable_len c.min.result old.parts.items c.deref_mut-3.result.now.parts.items is
    c.self.invariant.1 c.self.invariant.2 none least same

pub returns-clause-few : goal.returns-clause-few
returns-clause-few c =
    let is : c.deref_mut-3.result.now.parts.items ≡ first_writable c.args.most c.args.self.parts = search rules in
    subst (λ (ps : List Part). length ps ≤ c.args.most) (sym is) (few_first c.args.most c.args.self.parts)

pub returns-clause-room : goal.returns-clause-room
returns-clause-room c =
    let is : c.deref_mut-3.result.now.parts.items ≡ first_writable c.args.most c.args.self.parts = search rules in
    subst (λ (ps : List Part). writable_total ps ≡ min c.args.most (writable_total c.args.self.parts)) (sym is)
    (room_first c.args.most c.args.self.parts)

pub returns-clause-same : goal.returns-clause-same
returns-clause-same c =
    let is : c.deref_mut-3.result.now.parts.items ≡ first_writable c.args.most c.args.self.parts = search rules in
    λ bytes le. subst (λ (ps : List Part). scatter_writes ps 0 bytes ≡ scatter_writes c.args.self.parts 0 bytes) (sym is)
    (same_written c.args.most c.args.self.parts bytes le)
