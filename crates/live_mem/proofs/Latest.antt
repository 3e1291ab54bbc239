-- What the latest span says.
use Rattle.std.proofs.Common.{◌≡◌, ℕ, ◌+◌, ◌-◌, ◌<◌, ◌≤◌, List, length, take, get_or, cond, Bool, true, sym, ap, ◌∙◌, arith}
use Rattle.std.proofs.lemmas.List.{take_all}
use Rattle.live_mem.specs.Kept.{covers, byte_of, valued}
use Rattle.live_mem.specs.declared.span.Span.{Span}
use Rattle.live_mem.proofs.Spans.{within, valued_next}

-- where it has all bytes of a run, what is kept says of each what it says
pub latest : (ss : List Span) (kept : List ℕ) (addr k : ℕ) (s : Span) (out new : List ℕ) → length ss ≡ k + 1 → get_or ss k s ≡ s
    → s.addr ≤ addr → addr - s.addr + length out ≤ s.len
    → ((i : ℕ) → i < length out → get_or new i 0 ≡ cond (covers s (addr + i)) (byte_of s kept (addr + i)) (get_or out i 0))
    → (i d : ℕ) → i < length out → valued ss kept (addr + i) d ≡ get_or new i 0
latest ss kept addr k s out new long is begins fits over i d lt =
    let p = addr + i in
    let all : take (k + 1) ss ≡ ss = take_all (k + 1) ss (omega (arith, long)) in
    let in_it : covers s p ≡ true = within s.addr s.len p (omega (arith, begins)) (omega (arith, begins, fits, lt)) in
    let next = valued_next ss kept p d k s (omega (arith, long)) in
    let v : valued (take (k + 1) ss) kept p d ≡ cond (covers s p) (byte_of s kept p) (valued (take k ss) kept p d) =
    next ∙ ap (λ (x : Span). cond (covers x p) (byte_of x kept p) (valued (take k ss) kept p d)) is in
    let o : get_or new i 0 ≡ cond (covers s p) (byte_of s kept p) (get_or out i 0) = over i lt in
    ap (λ (l : List Span). valued l kept p d) (sym all) ∙ v
    ∙ ap (λ (b : Bool). cond b (byte_of s kept p) (valued (take k ss) kept p d)) in_it
    ∙ sym (o ∙ ap (λ (b : Bool). cond b (byte_of s kept p) (get_or out i 0)) in_it)
