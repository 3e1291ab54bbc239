-- One more recorded call.
use Rattle.std.proofs.Common.{◌≡◌, ℕ, ◌+◌, List, [], ◌∷◌, ◌++◌, length, take, drop, ap, ◌∙◌, arith}
use Rattle.std.proofs.lemmas.List.{length-drop, take-append-le, drop-append-le, take_all}
use Rattle.live_mem.specs.Access.{Access}
use Rattle.live_mem.specs.Calls.{lengths, access_of, accesses}
use Rattle.live_mem.specs.declared.recorded.Call.{Call}

pub lengths_push : (cs : List Call) (c : Call) → lengths (cs ++ c ∷ []) ≡ lengths cs + c.len
lengths_push [] c = omega arith
lengths_push (x ∷ cs) c = let e : lengths (cs ++ c ∷ []) ≡ lengths cs + c.len = lengths_push cs c in omega (arith, e)

pub accesses_push : (past : List Access) (cs : List Call) (c : Call) (bs xs : List ℕ) → lengths cs ≡ length bs → length xs ≡ c.len
    → accesses past (cs ++ c ∷ []) (bs ++ xs) ≡ access_of c xs ∷ accesses past cs bs
accesses_push past [] c [] xs tally long = ap (λ (l : List ℕ). access_of c l ∷ past) (take_all c.len xs (omega (arith, long)))
accesses_push past [] c (b ∷ bs) xs tally long = absurd (omega (arith, tally))
accesses_push past (x ∷ cs) c bs xs tally long =
    let some : x.len + lengths cs ≡ length bs = tally in
    let t : take x.len (bs ++ xs) ≡ take x.len bs = take-append-le x.len bs xs (omega (arith, some)) in
    let d : drop x.len (bs ++ xs) ≡ drop x.len bs ++ xs = drop-append-le x.len bs xs (omega (arith, some)) in
    ap (λ (l : List ℕ). accesses (access_of x l ∷ past) (cs ++ c ∷ []) (drop x.len (bs ++ xs))) t
    ∙ ap (λ (l : List ℕ). accesses (access_of x (take x.len bs) ∷ past) (cs ++ c ∷ []) l) d
    ∙ accesses_push (access_of x (take x.len bs) ∷ past) cs c (drop x.len bs) xs (omega (arith, some, length-drop x.len bs)) long
