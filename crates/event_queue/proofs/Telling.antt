-- Why a port gives what is told.
use Rattle.std.proofs.Common.{◌≡◌, ◌≤◌, ◌<◌, ◌++◌, ℕ, Bool, true, false, List, [], ◌∷◌, length, map, drop, nat_lt, if◌then◌else◌, Some, None, refl, ap, sym, ◌∙◌, arith, length-append, length-drop}
use Rattle.std.proofs.lemmas.Bool.Decides.{nat_tests}
use Rattle.std.proofs.lemmas.List.{drop-drop, drop-append-le, length-map, map-append, drop_all}
use Rattle.std.specs.List.{zip}
use Rattle.scsi_codec.specs.declared.event_queue.Event.{Event}
use Rattle.scsi_codec.specs.EventQueue.{event_bytes}
use Rattle.ring_core.specs.State.{PlainChain}
use Rattle.event_queue.specs.Port.{PlainPort, Happening, Gift, gives_to, raised_to}
use Rattle.scsi_codec.specs.EventQueue.{missed_event}
use Rattle.event_queue.specs.Reported.{came, Reported, raising, coming, reported, port_since, gifts_with, gifts_since}

first_of : {K : Type 0} {a b : K} {ks ls : List K} → a ∷ ks ≡ b ∷ ls → a ≡ b
first_of e = cc

-- the item behind those that were zipped is zipped with one more
zip_one : {K X : Type 0} (ks later : List K) (xs : List X) (k : K) (x : X) → k ∷ later ≡ drop (length xs) ks
    → zip ks (xs ++ x ∷ []) ≡ zip ks xs ++ (k, x) ∷ []
zip_one [] later [] k x e = absurd (cc)
zip_one [] later (y ∷ ys) k x e = absurd (cc)
zip_one (l ∷ []) later [] k x e = ap (λ z. (z, x) ∷ []) (sym (first_of e))
zip_one (l ∷ m ∷ ls) later [] k x e = ap (λ z. (z, x) ∷ []) (sym (first_of e))
zip_one (l ∷ ls) later (y ∷ ys) k x e = ap (λ z. (l, y) ∷ z) (zip_one ls later ys k x e)

-- more keys than items change nothing
zip_more : {K X : Type 0} (ks : List K) (xs : List X) (k : K) → length xs ≤ length ks
    → zip (ks ++ k ∷ []) xs ≡ zip ks xs
zip_more [] [] k few = refl
zip_more [] (x ∷ xs) k few = absurd (omega (arith, few))
zip_more (l ∷ ls) [] k few = refl
zip_more (l ∷ ls) (x ∷ xs) k few = ap (λ z. (l, x) ∷ z) (zip_more ls xs k (omega (arith, few)))

-- what a port has and has given, beside what came and what was told
pub record Agrees (cs : List PlainChain) (t : Reported) (p : PlainPort) (gs : List Gift) : Type 0 where
  pub few : length t.events ≤ length cs
  pub none : t.missed ≡ true → length t.events ≡ length cs
  pub held : p.buffers ≡ drop (length t.events) cs
  pub missed : p.missed ≡ t.missed
  pub given : gs ≡ zip cs (map (λ (e : Event). event_bytes e) t.events)

abbrev bytes_of_all : List Event → List (List ℕ)
bytes_of_all es = map (λ (e : Event). event_bytes e) es

-- the next key that is left gets the event
next_given : (cs later : List PlainChain) (c : PlainChain) (es : List Event) (e : Event) (gs : List Gift)
    → c ∷ later ≡ drop (length es) cs → gs ≡ zip cs (bytes_of_all es)
    → gs ++ (c, event_bytes e) ∷ [] ≡ zip cs (bytes_of_all (es ++ e ∷ []))
next_given cs later c es e gs left given =
    let long = length-map es (λ (x : Event). event_bytes x) in
    ap (λ (xs : List Gift). xs ++ (c, event_bytes e) ∷ []) given
    ∙ sym (zip_one cs later (bytes_of_all es) c (event_bytes e) (left ∙ ap (λ n. drop n cs) (sym long)))
    ∙ ap (λ (xs : List (List ℕ)). zip cs xs) (sym (map-append (λ (x : Event). event_bytes x) es (e ∷ [])))

raised : (e : Event) (cs : List PlainChain) (t : Reported) (p : PlainPort) (gs : List Gift) → Agrees cs t p gs
    → (b : Bool) → nat_lt (length t.events) (length cs) ≡ b → (bs : List PlainChain) → p.buffers ≡ bs
    → Agrees cs (raising b e t.events t.missed) (raised_to bs p) (gifts_with gs (gives_to e bs))
raised e cs t p gs h true lt (c ∷ later) is =
    let left : c ∷ later ≡ drop (length t.events) cs = sym is ∙ h.held in
    let one = length-append t.events (e ∷ []) in
    let less : length t.events < length cs = grind (arith, nat_tests, lt) in
    record {
      few = omega (arith, one, less);
      none = λ m. absurd (omega (arith, h.none m, less));
      held =
          ap (drop 1) left ∙ drop-drop 1 (length t.events) cs ∙ ap (λ n. drop n cs) (sym one);
      missed = h.missed;
      given = next_given cs later c t.events e gs left h.given;
    }
raised e cs t p gs h true lt [] is =
    let less : length t.events < length cs = grind (arith, nat_tests, lt) in
    absurd (omega (arith, less, length-drop (length t.events) cs, ap length (sym is ∙ h.held)))
raised e cs t p gs h false lt (c ∷ later) is =
    let all : length cs ≤ length t.events = grind (arith, nat_tests, lt) in
    absurd (omega (arith, all, length-drop (length t.events) cs, ap length (sym is ∙ h.held)))
raised e cs t p gs h false lt [] is =
    let all : length cs ≤ length t.events = grind (arith, nat_tests, lt) in
    record {
      few = h.few;
      none = λ m. omega (arith, all, h.few);
      held = h.held;
      missed = refl;
      given = h.given;
    }

came_one : (c : PlainChain) (cs : List PlainChain) (t : Reported) (p : PlainPort) (gs : List Gift) → Agrees cs t p gs
    → (b d : Bool) → p.missed ≡ b → t.missed ≡ d
    → Agrees (cs ++ c ∷ []) (coming d t.events)
    (if b then record p { missed = false } else record p { buffers = p.buffers ++ c ∷ [] })
    (gifts_with gs (if b then Some (c, event_bytes missed_event) else None))
came_one c cs t p gs h true true pm tm =
    let full : length t.events ≡ length cs = h.none tm in
    let one = length-append t.events (missed_event ∷ []) in
    let more = length-append cs (c ∷ []) in
    let long = length-map t.events (λ (x : Event). event_bytes x) in
    let left : c ∷ [] ≡ drop (length t.events) (cs ++ c ∷ []) =
    sym (drop-append-le (length t.events) cs (c ∷ []) h.few
    ∙ ap (λ (xs : List PlainChain). xs ++ c ∷ []) (drop_all (length t.events) cs (omega (arith, full)))) in
    record {
      few = omega (arith, one, more, full);
      none = λ m. absurd (cc);
      held =
          h.held
          ∙ drop_all (length t.events) cs (omega (arith, full))
          ∙ sym (drop_all (length (t.events ++ missed_event ∷ [])) (cs ++ c ∷ []) (omega (arith, one, more, full)));
      missed = refl;
      given =
          next_given (cs ++ c ∷ []) [] c t.events missed_event gs left
          (h.given ∙ sym (zip_more cs (bytes_of_all t.events) c (omega (arith, long, full))));
    }
came_one c cs t p gs h false false pm tm =
    let more = length-append cs (c ∷ []) in
    let long = length-map t.events (λ (x : Event). event_bytes x) in
    record {
      few = omega (arith, more, h.few);
      none = λ m. absurd (cc);
      held =
          ap (λ (xs : List PlainChain). xs ++ c ∷ []) h.held
          ∙ sym (drop-append-le (length t.events) cs (c ∷ []) h.few);
      missed = pm;
      given = h.given ∙ sym (zip_more cs (bytes_of_all t.events) c (omega (arith, long, h.few)));
    }
came_one c cs t p gs h true false pm tm = let e = sym pm ∙ h.missed ∙ tm in absurd (cc)
came_one c cs t p gs h false true pm tm = let e = sym pm ∙ h.missed ∙ tm in absurd (cc)

pub agree : (limit : ℕ) (past : List Happening)
    → Agrees (came past) (reported past) (port_since limit past) (gifts_since limit past)
agree limit [] = record { few = omega arith; none = λ m. refl; held = refl; missed = refl; given = refl }
agree limit (Happening.Raised e ∷ past) =
    raised e (came past) (reported past) (port_since limit past) (gifts_since limit past) (agree limit past)
    (nat_lt (length (reported past).events) (length (came past))) refl (port_since limit past).buffers refl
agree limit (Happening.Came c ∷ past) =
    came_one c (came past) (reported past) (port_since limit past) (gifts_since limit past) (agree limit past)
    (port_since limit past).missed (reported past).missed refl refl
