use Rattle.std.proofs.Common.{◌≡◌, ◌∙◌, ◌-◌, List, ℕ, length, get_or, true, ap, sym}
use Rattle.live_mem.specs.Access.{spans}
use Rattle.live_mem.proofs.Spans.{within}
use Rattle.live_mem.proofs.laws.reads_what_the_bus_gave.Goals as goal

pub returns : goal.returns
returns c = λ size a p bs m log may reading first from to lt.
    let m₀ = may.0 in
    let same : m ≡ m₀ = may.2 ∙ reading m₀ in
    let covered : spans a (length bs) p ≡ true = within a (length bs) p from to in
    let there = rw covered at (may.1.there p lt) in
    ap (λ (l : List ℕ). get_or l p 0) same ∙ sym there ∙ first (get_or bs (p - a) 0)
