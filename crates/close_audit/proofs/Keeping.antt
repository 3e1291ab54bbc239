-- What a seat keeps of its receipts, by place.
use Rattle.std.proofs.Common.{◌≡◌, ℕ, zero, suc, ◌+◌, ◌-◌, ◌%◌, ◌<◌, ◌≤◌, Bool, true, false, cond, leb, List, [], ◌∷◌, ◌++◌, length, set, slice_get, Option, Some, None, refl, sym, ◌∙◌, ap, arith, ◌⊎◌, inl, inr, length-append, add-zero, append_assoc}
use Rattle.std.proofs.lemmas.Bool.Decides.{nat_tests}
use Rattle.std.specs.Option.{option_map}
use Rattle.command_model.specs.PlainReply.{PlainReply, plain_of}
use Rattle.command_model.specs.declared.reply.Reply.{Reply}
use Rattle.unit_model.specs.Receipts.{Receipt}
use Rattle.close_audit.specs.Rooms.{replies_kept}
use Rattle.close_audit.specs.Keeping.{without_reply, shortened, reply_in, reply_of, with_replies, receipts_of, KeepsReceipt}

last_of : {X : Type 0} (xs : List X) (y : X) (n : ℕ) → n ≡ length xs → slice_get (xs ++ y ∷ []) n ≡ Some y
last_of [] y zero e = refl
last_of [] y (suc n) e = absurd (omega (arith, e))
last_of (x ∷ xs) y zero e = absurd (omega (arith, e))
last_of (x ∷ xs) y (suc n) e = last_of xs y n (omega (arith, e))

before_last : {X : Type 0} (xs : List X) (y : X) (k : ℕ) → k < length xs → slice_get (xs ++ y ∷ []) k ≡ slice_get xs k
before_last [] y k less = absurd (omega (arith, less))
before_last (x ∷ xs) y zero less = refl
before_last (x ∷ xs) y (suc k) less = before_last xs y k (omega (arith, less))

set_here : {X : Type 0} (xs : List X) (i : ℕ) (y : X) → i < length xs → slice_get (set xs i y) i ≡ Some y
set_here [] i y less = absurd (omega (arith, less))
set_here (x ∷ xs) zero y less = refl
set_here (x ∷ xs) (suc i) y less = set_here xs i y (omega (arith, less))

set_apart : {X : Type 0} (xs : List X) (i k : ℕ) (y : X) → (i ≡ k → ⊥) → slice_get (set xs i y) k ≡ slice_get xs k
set_apart [] i k y apart = refl
set_apart (x ∷ xs) zero zero y apart = absurd (apart refl)
set_apart (x ∷ xs) zero (suc k) y apart = refl
set_apart (x ∷ xs) (suc i) zero y apart = refl
set_apart (x ∷ xs) (suc i) (suc k) y apart = set_apart xs i k y (λ e. apart (ap suc e))

yes : (a b : ℕ) → a ≤ b → leb a b ≡ true
yes a b le = grind (arith, nat_tests)

no : (a b : ℕ) → b < a → leb a b ≡ false
no a b lt = grind (arith, nat_tests)

-- a receipt with the reply that is kept of it
abbrev kept : ℕ → ℕ → List (Option Reply) → Receipt → Receipt
kept count place replies c = record c { reply = reply_of count place replies }

at_place : (n i : ℕ) (cs : List Receipt) (rs : List (Option Reply)) (k : ℕ) → slice_get (with_replies n i cs rs) k ≡ option_map (kept n (i + k) rs) (slice_get cs k)
at_place n i [] rs k = refl
at_place n i (c ∷ cs) rs zero = ap (λ p. Some (kept n p rs c)) (sym (add-zero i))
at_place n i (c ∷ cs) rs (suc k) = at_place n (i + 1) cs rs k ∙ ap (λ p. option_map (kept n p rs) (slice_get cs k)) (shift i k)
  where
    shift : (i k : ℕ) → (i + 1) + k ≡ i + suc k
    shift i k = omega arith

pub length_with : (n i : ℕ) (cs : List Receipt) (rs : List (Option Reply)) → length (with_replies n i cs rs) ≡ length cs
length_with n i [] rs = refl
length_with n i (c ∷ cs) rs = ap suc (length_with n (i + 1) cs rs)

in_slot : (r : Option Reply) → reply_in (Some r) ≡ option_map plain_of r
in_slot None = refl
in_slot (Some r) = refl

without_over : (o : Option Receipt) (x : Option PlainReply) → option_map without_reply (option_map (λ (c : Receipt). record c { reply = x }) o) ≡ option_map without_reply o
without_over None x = refl
without_over (Some c) x = refl

near_or_far : (k n : ℕ) → k < n → (k + 4096 ≡ n → ⊥) → (n + 1 ≤ k + 4096) ⊎ (k + 4096 < n)
near_or_far k n less apart = grind arith

other_slot : (k n : ℕ) → k < n → n + 1 ≤ k + 4096 → n % 4096 ≡ k % 4096 → ⊥
other_slot k n less near e = omega (arith, e, less, near)

-- One receipt more: its reply stands in the slot of its place.
module _ (cs : List Receipt) (rs : List (Option Reply)) (c d b : Receipt) (r : Option Reply) (short : d ≡ shortened c) (bare : b ≡ record d { reply = None })
    (its : option_map plain_of r ≡ d.reply) (slots : 4096 ≤ length rs) where
  abbrev new_replies : List (Option Reply)
  new_replies = set rs (length cs % 4096) r

  abbrev new_bare : List Receipt
  new_bare = cs ++ b ∷ []

  new_length : length new_bare ≡ length cs + 1
  new_length = let a = length-append cs (b ∷ []) in omega (arith, a)

  here : slice_get new_replies (length cs % 4096) ≡ Some r
  here = set_here rs (length cs % 4096) r (omega (arith, slots))

  -- what is kept of the receipt at a place
  found : (k : ℕ) → slice_get (receipts_of new_bare new_replies) k ≡ option_map (kept (length cs + 1) k new_replies) (slice_get new_bare k)
  found k =
      at_place (length new_bare) 0 new_bare new_replies k
      ∙ ap (λ n. option_map (kept n (0 + k) new_replies) (slice_get new_bare k)) new_length
      ∙ ap (λ p. option_map (kept (length cs + 1) p new_replies) (slice_get new_bare k)) (zero_plus k)
    where
      zero_plus : (k : ℕ) → 0 + k ≡ k
      zero_plus k = omega arith

  found_before : (k : ℕ) → slice_get (receipts_of cs rs) k ≡ option_map (kept (length cs) k rs) (slice_get cs k)
  found_before k =
      at_place (length cs) 0 cs rs k ∙ ap (λ p. option_map (kept (length cs) p rs) (slice_get cs k)) (zero_plus k)
    where
      zero_plus : (k : ℕ) → 0 + k ≡ k
      zero_plus k = omega arith

  newest : reply_of (length cs + 1) (length cs) new_replies ≡ d.reply
  newest =
      ap (λ t. cond t (reply_in (slice_get new_replies (length cs % 4096))) None) (yes (length cs + 1) (length cs + 4096) (omega arith))
      ∙ ap reply_in here ∙ in_slot r ∙ its

  joined_again : (x : Option PlainReply) → x ≡ d.reply → record b { reply = x } ≡ d
  joined_again x e = ap (λ (z : Receipt). record z { reply = x }) bare ∙ ap (λ y. record d { reply = y }) e

  same_reply : (k : ℕ) → k < length cs → (k + 4096 ≡ length cs → ⊥) → reply_of (length cs + 1) k new_replies ≡ reply_of (length cs) k rs
  same_reply k less apart =
      elim (near_or_far k (length cs) less apart) [
        | inl near ↦
            ap (λ t. cond t (reply_in (slice_get new_replies (k % 4096))) None) (yes (length cs + 1) (k + 4096) near)
            ∙ ap reply_in (set_apart rs (length cs % 4096) (k % 4096) r (other_slot k (length cs) less near))
            ∙ sym (ap (λ t. cond t (reply_in (slice_get rs (k % 4096))) None) (yes (length cs) (k + 4096) (omega (arith, near))))
        | inr far ↦
            ap (λ t. cond t (reply_in (slice_get new_replies (k % 4096))) None) (no (length cs + 1) (k + 4096) (omega (arith, far)))
            ∙ sym (ap (λ t. cond t (reply_in (slice_get rs (k % 4096))) None) (no (length cs) (k + 4096) far))
      ]

  gone : (k : ℕ) → k + 4096 ≡ length cs → reply_of (length cs + 1) k new_replies ≡ None
  gone k e = ap (λ t. cond t (reply_in (slice_get new_replies (k % 4096))) None) (no (length cs + 1) (k + 4096) (omega (arith, e)))

  pub keeps_one : KeepsReceipt (receipts_of cs rs) c (receipts_of new_bare new_replies)
  keeps_one =
      let before : length (receipts_of cs rs) ≡ length cs = length_with (length cs) 0 cs rs in
      record {
        one_more = length_with (length new_bare) 0 new_bare new_replies ∙ new_length ∙ ap (λ n. n + 1) (sym before);
        last =
            ap (λ n. slice_get (receipts_of new_bare new_replies) n) before
            ∙ found (length cs)
            ∙ ap (option_map (kept (length cs + 1) (length cs) new_replies)) (last_of cs b (length cs) refl)
            ∙ ap (λ z. Some z) (joined_again (reply_of (length cs + 1) (length cs) new_replies) newest)
            ∙ ap (λ z. Some z) short;
        oldest = λ k e.
            found k
            ∙ ap (λ x. option_map (λ (z : Receipt). record z { reply = x }) (slice_get new_bare k)) (gone k (e ∙ before))
            ∙ ap (option_map without_reply) (before_last cs b k (omega (arith, e, before)))
            ∙ sym (ap (option_map without_reply) (found_before k) ∙ without_over (slice_get cs k) (reply_of (length cs) k rs));
        others = λ k less apart.
            found k
            ∙ ap (option_map (kept (length cs + 1) k new_replies)) (before_last cs b k (omega (arith, less, before)))
            ∙ ap (λ x. option_map (λ (z : Receipt). record z { reply = x }) (slice_get cs k)) (same_reply k (omega (arith, less, before)) (λ e. apart (e ∙ sym before)))
            ∙ sym (found_before k);
      }

-- receipts from a place on, with two lists of slots that have the same replies for these places
pub same_later : (n i : ℕ) (cs : List Receipt) (rs rs' : List (Option Reply)) → i + length cs ≤ n
    → ((k : ℕ) → i ≤ k → k < n → reply_of n k rs' ≡ reply_of n k rs) → with_replies n i cs rs' ≡ with_replies n i cs rs
same_later n i [] rs rs' fits same = refl
same_later n i (c ∷ cs) rs rs' fits same =
    ap (λ (x : Option PlainReply). record c { reply = x } ∷ with_replies n (i + 1) cs rs') (same i (omega arith) (omega (arith, fits)))
    ∙ ap (λ (l : List Receipt). record c { reply = reply_of n i rs } ∷ l)
    (same_later n (i + 1) cs rs rs' (omega (arith, fits)) (λ k le less. same k (omega (arith, le)) less))

-- one receipt more is joined with its reply, and the later ones still find theirs
pub joined_one : (done : List Receipt) (n i : ℕ) (c : Receipt) (cs : List Receipt) (rs rs' : List (Option Reply)) (x : Option PlainReply)
    → i + length (c ∷ cs) ≤ n → x ≡ reply_of n i rs → ((k : ℕ) → i < k → k < n → reply_of n k rs' ≡ reply_of n k rs)
    → (done ++ record c { reply = x } ∷ []) ++ with_replies n (i + 1) cs rs' ≡ done ++ with_replies n i (c ∷ cs) rs
joined_one done n i c cs rs rs' x fits its same =
    append_assoc done (record c { reply = x } ∷ []) (with_replies n (i + 1) cs rs')
    ∙ ap (λ (z : Option PlainReply). done ++ record c { reply = z } ∷ with_replies n (i + 1) cs rs') its
    ∙ ap (λ (l : List Receipt). done ++ record c { reply = reply_of n i rs } ∷ l)
    (same_later n (i + 1) cs rs rs' (omega (arith, fits)) (λ k le less. same k (omega (arith, le)) less))

-- an empty slot more
pub none_more : (rs : List (Option Reply)) (i : ℕ) → reply_in (slice_get (rs ++ None ∷ []) i) ≡ reply_in (slice_get rs i)
none_more [] zero = refl
none_more [] (suc i) = refl
none_more (r ∷ rs) zero = refl
none_more (r ∷ rs) (suc i) = none_more rs i

pub same_replies : (n i : ℕ) (cs : List Receipt) (rs rs' : List (Option Reply)) → ((j : ℕ) → reply_in (slice_get rs' j) ≡ reply_in (slice_get rs j))
    → with_replies n i cs rs' ≡ with_replies n i cs rs
same_replies n i [] rs rs' same = refl
same_replies n i (c ∷ cs) rs rs' same =
    ap (λ x. record c { reply = x } ∷ with_replies n (i + 1) cs rs') (ap (λ x. cond (leb n (i + 4096)) x None) (same (i % 4096)))
    ∙ ap (λ (l : List Receipt). record c { reply = reply_of n i rs } ∷ l) (same_replies n (i + 1) cs rs rs' same)

-- the same receipts, with slots that have the same replies
pub receipts_kept : (cs cs' : List Receipt) (rs rs' : List (Option Reply)) → cs' ≡ cs → ((j : ℕ) → reply_in (slice_get rs' j) ≡ reply_in (slice_get rs j))
    → receipts_of cs' rs' ≡ receipts_of cs rs
receipts_kept cs cs' rs rs' e same = ap (λ (xs : List Receipt). receipts_of xs rs') e ∙ same_replies (length cs) 0 cs rs rs' same
