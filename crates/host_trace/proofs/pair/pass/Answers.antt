use Rattle.std.proofs.Common.{◌≡◌, sym, ◌∙◌, subst}
use Rattle.std.specs.Prelude.{MatchBool}
use Rattle.shared_trace.specs.Inner.Logs.{IsPast, Steps}
use Rattle.shared_trace.specs.Halves.{part_of, MayCome}
use Rattle.device_model.specs.After.{after}
use Rattle.device_model.specs.Happens.{Happens}
use Rattle.host_trace.specs.Trace.{Agree, touches, MayShare}
use Rattle.host_trace.proofs.Pairs.{first_comes, last_comes, both_done}
use Rattle.host_trace.proofs.pair.pass.Goals as goal

pub add_share-requires-clause-may : goal.add_share-requires-clause-may
add_share-requires-clause-may g c =
    let s = g.S.Setup in
    let a = c.args.first.now in
    let w = g.T.Passing.whole in
    subst (λ k. MayCome after Happens (touches s.number) (Agree s.number) s.world a.own a.known
    (record { part = k; whole = w }))
    (sym c.requires.begins) (first_comes s.number s.world a c.args.last.now w c.requires.between)

pub add_share-requires-2-clause-may : goal.add_share-requires-2-clause-may
add_share-requires-2-clause-may g c =
    let s = g.S.Setup in
    let a = c.args.first.now in
    let b = c.args.last.now in
    let w = g.T.Passing.whole in
    let a' = c.add_share.new.mark in
    let b' = c.learn-2.new.self in
    let h = c.requires.between in
    let stepped : Steps part_of (MayShare s.number s.world) a (record { part = a.number; whole = w }) a' =
    subst (λ k. Steps part_of (MayShare s.number s.world) a (record { part = k; whole = w }) a') c.requires.begins
    (subst (λ t. MatchBool t (Steps part_of (MayShare s.number s.world) a
    (record { part = g.T.Passing.first; whole = w }) a') (a' ≡ a))
    c.if-not-add_share.false c.add_share.ensures) in
    let from : IsPast a'.known b'.known = subst (λ l. IsPast l b'.known) c.known.ensures.known c.learn-2.ensures.that in
    subst (λ k. MayCome after Happens (touches s.number) (Agree s.number) s.world b'.own b'.known
    (record { part = k; whole = w }))
    (c.learn-2.ensures.number ∙ h.of)
    (last_comes s.number s.world a b a' b' w h stepped c.learn-2.ensures.number c.learn-2.ensures.own c.learn-2.ensures.this
    from)

pub returns : goal.returns
returns g c =
    let s = g.S.Setup in
    let a = c.args.first.now in
    let b = c.args.last.now in
    let w = g.T.Passing.whole in
    let a' = c.add_share.new.mark in
    let b' = c.learn-2.new.self in
    let b'' = c.add_share-2.new.mark in
    let a'' = c.learn-4.new.self in
    let h = c.requires.between in
    let one : Steps part_of (MayShare s.number s.world) a (record { part = a.number; whole = w }) a' =
    subst (λ k. Steps part_of (MayShare s.number s.world) a (record { part = k; whole = w }) a') c.requires.begins
    (subst (λ t. MatchBool t (Steps part_of (MayShare s.number s.world) a
    (record { part = g.T.Passing.first; whole = w }) a') (a' ≡ a))
    c.if-not-add_share.false c.add_share.ensures) in
    let two : Steps part_of (MayShare s.number s.world) b' (record { part = b'.number; whole = w }) b'' =
    subst (λ k. Steps part_of (MayShare s.number s.world) b' (record { part = k; whole = w }) b'') (sym
    (c.learn-2.ensures.number ∙ h.of))
    (subst (λ t. MatchBool t (Steps part_of (MayShare s.number s.world) b' (record { part = w.last; whole = w }) b'') (b''
    ≡ b'))
    c.if-not-add_share-2.false c.add_share-2.ensures) in
    let on : IsPast b''.known a''.known = subst (λ l. IsPast l a''.known) c.known-2.ensures.known c.learn-4.ensures.that in
    both_done s.number s.world a b a' b' b'' a'' w h one c.learn-2.ensures.number two c.learn-4.ensures.number
    c.learn-4.ensures.own on
